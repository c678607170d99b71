-- `naming::find::find` meets its contract. The loop's invariant: the station stands where it stands from this slot on. Assumes nothing.
use native.Mathlib.Omega.{arith}
use mathlib.Core.Path.{refl, sym, ◌∙◌}
use Rattle.figures.specs.Figures.{SLOTS}
use Rattle.rules.specs.Rules.{leaf_entries}
use Rattle.naming.proofs.Standing.{stands_start, slot_here, slot_further, somewhere}
use Rattle.naming.proofs.find.find.Goals as goal

pub loop-slot-init : goal.loop-slot-init
loop-slot-init c = stands_start c.args.table.now c.args.number

pub returns-in-Some : goal.returns-in-Some
returns-in-Some c =
    let a = c.args in
    sym (slot_here a.number (leaf_entries a.table.now) SLOTS c.loop-slot.slot (omega arith) _ (sym c.in-Some.ensures) (somewhere _ _ refl))
    ∙ c.loop-slot.invariant

pub loop-slot-preserved : goal.loop-slot-preserved
loop-slot-preserved c =
    let a = c.args in
    slot_further a.number (leaf_entries a.table.now) SLOTS c.loop-slot.slot (omega arith) (sym c.find_in.ensures ∙ c.in_default.is)
    ∙ c.loop-slot.invariant
