-- `roster::lines::put_bytes` meets its contract. The loop's invariant: the bytes passed stand in the slip, whose buffer stays the same. Assumes nothing.
use mathlib.Core.Path.{◌≡◌}
use lib.ListN.{take}
use Rattle.slip.specs.Output.{Laid}
use Rattle.roster.proofs.lines.put_bytes.Given as goal

abbrev pub invariant-loop-b : goal.invariant-loop-b
invariant-loop-b l =
    let before = l.fn.slip in
    Laid before.out.now before.at (take l.b-index l.bytes) l.slip.out.now l.slip.at × (l.slip.out.ghost_name ≡ before.out.ghost_name)
