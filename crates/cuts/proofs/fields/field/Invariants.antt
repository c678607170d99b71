-- `cuts::fields::field` meets its contract. The loop's invariant: the fields from `at` on are those of the record behind the first `counter`. Assumes nothing.
use Prim.Native.Nat.{ℕ, ◌+◌, ◌≤◌}
use mathlib.Core.Path.{◌≡◌}
use mathlib.Core.List.{[]}
use lib.ListN.{length, drop, get_or}
use Rattle.cuts.specs.declared.parts.Mark.TheVariants.{Comma}
use Rattle.cuts.specs.Cuts.{parts_of}
use Rattle.cuts.proofs.fields.field.Given as goal

abbrev pub invariant-loop : goal.invariant-loop
invariant-loop l =
    ((k : ℕ) → get_or (parts_of Comma (drop l.at l.item)) k [] ≡ get_or (parts_of Comma l.item) (l.counter + k) []) × (l.at ≤ length l.item)
