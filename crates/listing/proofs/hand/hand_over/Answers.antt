-- `listing::hand::hand_over` meets its contract: each turn appends the next record. Assumes nothing.
use mathlib.Core.Path.{ap, ◌∙◌}
use native.Mathlib.Omega.{arith}
use lib.ListN.{set}
use Rattle.record.specs.declared.Candidate.{Candidate}
use Rattle.listing.proofs.Laid.{hand_start, hand_step}
use Rattle.listing.proofs.hand.hand_over.Goals as goal

pub loop-i-init : goal.loop-i-init
loop-i-init c = hand_start _ _ _ _ _

pub loop-i-preserved : goal.loop-i-preserved
loop-i-preserved c =
    let a = c.args in
    let l = c.loop-i in
    c.append.ensures
    ∙ ap (λ (r : Candidate). set l.list l.i r) c.candidate_at.ensures
    ∙ hand_step _ a.candidates.numbers.now a.candidates.leads.xs.now a.candidates.leads.ys.now l.i a.list.now l.list (omega arith) l.invariant
