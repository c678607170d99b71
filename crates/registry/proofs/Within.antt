-- What is laid into a buffer that keeps its length ends in it. Assumes nothing.
use Prim.Native.Nat.{ℕ, ◌+◌, ◌≤◌}
use mathlib.Core.Path.{◌≡◌, ◌∙◌, ap}
use native.Mathlib.Omega.{arith}
use lib.ListN.{length, take, drop, length-append, length-drop}
use Rattle.std.proofs.Math.Seq.{take-append_seam}
use Rattle.sheet.specs.Bytes.{Bytes}
use Rattle.slip.specs.Output.{laid_at, Laid}

fits_when : (out bytes left : Bytes) → left ≡ laid_at out 0 bytes → length left ≡ length out → length bytes ≤ length out
unfolding laid_at
fits_when out bytes left e l =
    omega (arith, ap length e, length-append bytes (drop (0 + length bytes) out), length-drop (0 + length bytes) out)

pub within : {out bytes left : Bytes} {next : ℕ} → Laid out 0 bytes left next → length left ≡ length out → next ≤ length left
within {out} {bytes} {left} l e = omega (arith, l.behind, fits_when out bytes left l.laid e)

-- and what stands in it is what was laid
pub taken : {out bytes left : Bytes} {next : ℕ} → Laid out 0 bytes left next → take next left ≡ bytes
unfolding laid_at
taken {out} {bytes} {left} {next} l =
    let end : next ≡ length bytes = omega (arith, l.behind) in
    ap (λ n. take n left) end ∙ ap (λ b. take (length bytes) b) l.laid ∙ take-append_seam bytes (drop (0 + length bytes) out)
