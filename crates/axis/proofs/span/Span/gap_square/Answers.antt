-- `axis::span::Span::gap_square` meets its contract: the two differences together are the gap. Assumes nothing.
use mathlib.Core.Path.{◌≡◌, ap}
use Prim.Native.Nat.{ℕ, ◌+◌, ◌*◌}
use native.Mathlib.Omega.{arith}
use Rattle.axis.specs.Axis.{gap}
use Rattle.axis.proofs.span.Span.gap_square.Goals as goal

pub returns : goal.returns
unfolding gap
returns c =
    let is : c.beyond.result + c.beyond-2.result ≡ gap c.args.self c.args.at =
    omega arith in
    ap (λ (n : ℕ). n * n) (is)
