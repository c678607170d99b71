-- `vetting::test::Tested::has_as_near` meets its contract: each way out has one side of the test. Assumes nothing.
use borrow.Author.Tests.{eq-eqb, ne_eqb}
use Rattle.vetting.specs.Test.{other_as_near}
use Rattle.vetting.proofs.test.Tested.has_as_near.Goals as goal

pub returns-then-other-self : goal.returns-then-other-self
unfolding other_as_near
returns-then-other-self c =
    let a = c.args in
    rw (eq-eqb a.e.reference a.self.number c.if-other-self.true)

pub returns : goal.returns
unfolding other_as_near
returns c =
    let a = c.args in
    rw (ne_eqb a.e.reference a.self.number c.if-other-self.false, ← c.spot_in.ensures, ← c.square_to-away.ensures) c.is_as_near.ensures
