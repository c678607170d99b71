-- `cuts::fields::field_count` meets its contract. The loop's invariant: the fields passed and those behind `stop` are all fields of the record. Assumes nothing.
use Prim.Native.Nat.{◌+◌, ◌-◌, ◌≤◌}
use mathlib.Core.Path.{◌≡◌}
use lib.ListN.{length}
use Rattle.cuts.specs.declared.parts.Mark.TheVariants.{Comma}
use Rattle.cuts.specs.Cuts.{parts_of}
use Rattle.cuts.proofs.Parted.{behind}
use Rattle.cuts.proofs.fields.field_count.Given as goal

abbrev pub invariant-loop-stop : goal.invariant-loop-stop
invariant-loop-stop l =
    (l.n + behind Comma l.item l.stop ≡ length (parts_of Comma l.item)) × ((l.n ≤ 1 + l.stop) × (l.stop ≤ length l.item))

abbrev pub decreases-loop-stop : goal.decreases-loop-stop
decreases-loop-stop l = length l.item - l.stop
