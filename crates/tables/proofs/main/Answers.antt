-- Each line starts behind the one before, and in the text.
use Rattle.std.proofs.Common.{arith, take}
use Rattle.sheet.specs.Bytes.{FEED}
use Rattle.sheet.proofs.Parted.{next_within, next_beyond}
use Rattle.tables.proofs.main.Goals as goal

pub loop-at-smaller : goal.loop-at-smaller
loop-at-smaller c =
    let text = take c.read_full-n.result c.read_full-n.new.buffer in
    omega (arith, c.next_at-at.ensures, next_beyond FEED text c.loop-at.at (omega (arith, c.loop-at-test.true)))

pub loop-at-preserved : goal.loop-at-preserved
loop-at-preserved c =
    let text = take c.read_full-n.result c.read_full-n.new.buffer in
    omega (arith, c.next_at-at.ensures, next_within FEED text c.loop-at.at c.loop-at.invariant)
