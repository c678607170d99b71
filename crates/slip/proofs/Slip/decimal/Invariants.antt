-- `slip::Slip::decimal` meets its contract. The loop's invariant: the digits of the rest, laid in front of those that stand, give the whole number; the slip's place and its buffer stay the same. Assumes nothing.
use mathlib.Core.Path.{◌≡◌}
use lib.ListN.{length}
use Rattle.slip.specs.Output.{decimal, laid_at}
use Rattle.slip.proofs.Decimal.{digits_in}
use Rattle.slip.proofs.Slip.decimal.Given as goal

abbrev pub invariant-loop-i : goal.invariant-loop-i
invariant-loop-i l =
    let before = l.fn.self in
    (laid_at l.self.out.now before.at (digits_in l.i l.rest) ≡ laid_at before.out.now before.at (decimal l.n))
    × (length l.self.out.now ≡ length before.out.now)
    × (l.self.at ≡ before.at)
    × (l.self.out.ghost_name ≡ before.out.ghost_name)
