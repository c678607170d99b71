-- `sheet::fields::field` meets its contract. The loop's invariant: the fields from `at` on are those of the line behind the first `counter`. Assumes nothing.
use Prim.Native.Nat.{ℕ, ◌+◌, ◌≤◌}
use mathlib.Core.Path.{◌≡◌}
use mathlib.Core.List.{[]}
use lib.ListN.{length, drop, get_or}
use Rattle.sheet.specs.Bytes.{TAB, parted_by, fields_of}
use Rattle.sheet.proofs.fields.field.Given as goal

abbrev pub invariant-loop : goal.invariant-loop
invariant-loop l =
    ((k : ℕ) → get_or (parted_by TAB (drop l.at l.line)) k [] ≡ get_or (fields_of l.line) (l.counter + k) []) × (l.at ≤ length l.line)
