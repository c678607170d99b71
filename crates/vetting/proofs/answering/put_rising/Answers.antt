-- `vetting::answering::put_rising` meets its contract: the numbers kept come to the front, and what is sorted in place rises, and is as long as what was kept. Assumes nothing.
use native.Mathlib.Omega.{arith}
use Rattle.vetting.proofs.Listing.{kept_next, sorted_front}
use Rattle.vetting.proofs.answering.put_rising.Goals as goal

pub loop-i-preserved : goal.loop-i-preserved
loop-i-preserved c = kept_next c.args.kept.now c.args.answers.now c.loop-i.i (omega arith) (omega (arith, c.requires)) c.loop-i.invariant

pub returns : goal.returns
returns c =
    sorted_front c.args.kept.now c.args.answers.now c.sort_unstable.new.self c.loop-i.answers c.loop-i.i (omega (arith, c.loop-i-test.false)) c.loop-i.invariant
    c.sort_unstable.ensures.permutation c.sort_unstable.ensures.sorted
