-- `roster::lines::put_bytes` meets its contract. The loop's invariant: the bytes passed stand in the slip, whose buffer stays the same. Assumes nothing.
use mathlib.Core.Path.{refl, ◌∙◌}
use native.Mathlib.Omega.{arith}
use lib.Seq.{length-take-le, take_all}
use Rattle.slip.proofs.Laid.{laid_room}
use Rattle.roster.proofs.Copied.{nothing_laid, byte_more}
use Rattle.roster.proofs.lines.put_bytes.Goals as goal

pub loop-b-init : goal.loop-b-init
loop-b-init c = (nothing_laid _ _, refl)

pub byte-requires : goal.byte-requires
byte-requires c =
    let l = c.loop-b in
    let passed = length-take-le l.b-index c.args.bytes.now (omega arith) in
    omega (arith, laid_room l.b-index l.invariant.0 (omega (arith, passed)) (omega arith))

pub loop-b-preserved : goal.loop-b-preserved
loop-b-preserved c =
    let l = c.loop-b in
    (byte_more c.args.bytes.now l.b-index c.loop-b-test.true c.requires l.invariant.0 c.byte.ensures.laid, c.byte.ensures.same_out ∙ l.invariant.1)

pub returns-clause-laid : goal.returns-clause-laid
returns-clause-laid c = rw (take_all c.loop-b.b-index c.args.bytes.now (omega arith)) at c.loop-b.invariant.0
