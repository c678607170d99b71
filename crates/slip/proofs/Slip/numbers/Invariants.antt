-- `slip::Slip::numbers` meets its contract. The loop's invariant: the numbers passed stand in the buffer, which stays the same. Assumes nothing.
use mathlib.Core.Path.{◌≡◌}
use mathlib.Core.List.{map}
use lib.ListN.{take}
use Rattle.slip.specs.Output.{decimal, tabbed, Laid}
use Rattle.slip.proofs.Slip.numbers.Given as goal

abbrev pub invariant-loop-n : goal.invariant-loop-n
invariant-loop-n l =
    let before = l.fn.self in
    Laid before.out.now before.at (tabbed (map decimal (take l.n-index l.numbers))) l.self.out.now l.self.at × (l.self.out.ghost_name ≡ before.out.ghost_name)
