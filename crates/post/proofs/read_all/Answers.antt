use Rattle.std.proofs.Common.{rules, subst, sym, length, ◌-◌}
use Rattle.std.specs.Io.KnownBytes.{Consumes}
use Rattle.post.proofs.Known.{consumes_more, front_more}
use Rattle.post.proofs.read_all.Goals as goal

-- what stood at the front stays there, and what was read stands behind it
pub loop-done-preserved : goal.loop-done-preserved
loop-done-preserved g c =
    let read = c.in_ok-more.ensures in
    let front = front_more c.loop-done.done (length c.loop-done.buffer - c.loop-done.done) c.in_ok-more.more c.loop-done.buffer c.read.new.buf c.loop-done.invariant.0 read.bound.0 in
    (search rules, search rules, subst (Consumes _ _) (sym front) (consumes_more _ _ _ _ _ c.loop-done.invariant.2 read.bytes.0))
