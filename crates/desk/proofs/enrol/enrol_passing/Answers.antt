-- `enrol::enrol_passing` meets its contract: a refusal leaves the table, and a granted enrolment puts the point's entry in. Assumes nothing.
use mathlib.Core.Path.{refl, sym, ap, ◌∙◌}
use Rattle.table.specs.Stations.{is_point}
use Rattle.joining.specs.Enrol.{enrolled}
use Rattle.limits.proofs.CallTests.{one_passed}
use Rattle.limits.proofs.Refused.{not_done}
use Rattle.refusals.specs.Refusals.{enrol_gives}
use Rattle.desk.specs.Calls.{point_entry}
use Rattle.desk.proofs.CallAfter.{enrol_refused_lem, enrol_done}
use Rattle.desk.proofs.Granted.{enrol_granted}
use Rattle.desk.proofs.Kept.{point_entry_lem}
use Rattle.desk.proofs.enrol.enrol_passing.Goals as goal

pub returns-in_err-enrol_given-clause-words : goal.returns-in_err-enrol_given-clause-words
returns-in_err-enrol_given-clause-words c =
    let a = c.args in
    let ws = a.table.now in
    enrol_refused_lem ws a.number a.site (one_passed (λ n. enrol_gives ws n a.site) a.number c.ranges.number c.in_err-enrol_given.ensures) (not_done _)

pub enrol_in-requires : goal.enrol_in-requires
enrol_in-requires c =
    let a = c.args in
    let ws = a.table.now in
    let g = enrol_granted ws a.number a.site (sym (one_passed (λ n. enrol_gives ws n a.site) a.number c.ranges.number c.in_ok-enrol_given.ensures)) in
    let i = one_passed (λ n. point_entry n a.site) a.number c.ranges.number c.point_entry.ensures in
    record {
      long = g.long;
      words = c.are_words.ensures;
      good = g.rules;
      point = ap is_point i ∙ point_entry_lem a.number a.site g.number g.grid;
    }

pub returns-clause-words : goal.returns-clause-words
returns-clause-words c =
    let a = c.args in
    let ws = a.table.now in
    let i = one_passed (λ n. point_entry n a.site) a.number c.ranges.number c.point_entry.ensures in
    c.enrol_in.ensures
    ∙ ap (enrolled ws) i
    ∙ enrol_done ws a.number a.site (one_passed (λ n. enrol_gives ws n a.site) a.number c.ranges.number c.in_ok-enrol_given.ensures) refl
