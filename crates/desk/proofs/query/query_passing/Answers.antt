-- `query::query_passing` meets its contract: what is refused is refused, and a granted query hands both lists on. Assumes nothing.
use Prim.Native.Nat.{ℕ}
use mathlib.Core.Path.{refl, sym, ap, subst, ◌∙◌}
use lib.ListN.{length}
use Rattle.std.specs.Prelude.{Result}
use Rattle.words.proofs.Machine.{natural_passed}
use Rattle.rules.specs.Rules.{Passing}
use Rattle.asking.specs.declared.answer.Reply.{Reply}
use Rattle.listing.specs.Listed.{Listed}
use Rattle.limits.proofs.CallTests.{one_passed}
use Rattle.limits.proofs.Refused.{not_done}
use Rattle.refusals.specs.declared.answered.Refused.{Refused}
use Rattle.refusals.specs.Refusals.{query_gives}
use Rattle.refusals.specs.Told.{answered, told}
use Rattle.refusals.proofs.QueryOrder.{answers_told}
use Rattle.desk.specs.Lent.{Answers}
use Rattle.desk.proofs.Exits.{refused_is}
use Rattle.desk.proofs.Granted.{query_granted}
use Rattle.desk.proofs.CallList.{list_refused, list_told}
use Rattle.desk.proofs.query.query_passing.Goals as goal

pub returns-in_err-query_given : goal.returns-in_err-query_given
returns-in_err-query_given c =
    let a = c.args in
    let ws = a.table.now in
    let ys = a.candidates.now in
    let asked = one_passed (λ k. query_gives ws a.q k (length ys) (answers_told ws a.q k)) a.k c.ranges.k c.in_err-query_given.ensures in
    rw (refused_is _ c.from_residual.result c.from_residual.ensures.1) (list_refused ws a.q a.k ys a.answers.now asked (not_done _))

pub answer_listed-reply-requires : goal.answer_listed-reply-requires
answer_listed-reply-requires c =
    let a = c.args in
    let ws = a.table.now in
    let ys = a.candidates.now in
    let asked = one_passed (λ k. query_gives ws a.q k (length ys) (answers_told ws a.q k)) a.k c.ranges.k c.in_ok-query_given.ensures in
    let y = (query_granted ws a.q a.k (length ys) (answers_told ws a.q a.k) (sym asked)).0 in
    let table : Passing ws = record { long = c.requires.0; words = c.are_words.ensures; rules = c.requires.1 } in
    record { table = table; x = y.grid.x; y = y.grid.y; room = y.candidates }

pub returns : goal.returns
returns c =
    let a = c.args in
    let ws = a.table.now in
    let ys = a.candidates.now in
    let old = a.answers.now in
    let w = c.answer_listed-reply in
    let asked = one_passed (λ k. query_gives ws a.q k (length ys) (answers_told ws a.q k)) a.k c.ranges.k c.in_ok-query_given.ensures in
    let r = subst (λ (k : ℕ). Listed ws a.q k ys w.new.list old w.new.answers w.result) (natural_passed a.k c.ranges.k c.natural.ensures) w.ensures in
    subst (λ (t : Result Reply Refused). Answers ws a.q a.k ys w.new.list old w.new.answers (answered t))
    (sym (c.told.ensures ∙ ap (told w.result w.result.n) w.auto.answers))
    (list_told ws a.q a.k ys w.new.list old w.new.answers w.result r asked refl)
