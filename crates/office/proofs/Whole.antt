-- What the program prints: line by line from the empty table, or the one line of a sheet too long. Assumes nothing.
use Rattle.std.proofs.Common.{◌≡◌, ap, ◌∙◌, ℕ, ◌+◌, ◌<◌, ◌≤◌, length, take, drop, arith}
use Rattle.std.proofs.Math.Seq.{take-append_seam}
use lib.ListN.{replicate}
use borrow.Author.Tests.{lt-ltb}
use Rattle.figures.specs.Figures.{MOST}
use Rattle.table.specs.Empty.{empty_table}
use Rattle.table.specs.Words.{Words}
use Rattle.sheet.specs.Bytes.{Bytes, LONGEST}
use Rattle.slip.specs.Output.{laid_at, Laid}
use Rattle.clerk.specs.Sheet.{too_long_line, sheet_output}
use Rattle.clerk.specs.Running.{lent, stand_at, rest_output}
use Rattle.clerk.proofs.Whole.{whole_sheet}

pub started : {ws : Words} (sheet : Bytes) → ws ≡ empty_table → length sheet ≤ LONGEST
    → rest_output sheet (stand_at 0 1 (lent ws (replicate MOST 0))) ≡ sheet_output sheet
started sheet e short = ap (λ t. rest_output sheet (stand_at 0 1 (lent t (replicate MOST 0)))) e ∙ (whole_sheet sheet short).starts

pub too_long : (sheet : Bytes) → LONGEST < length sheet → sheet_output sheet ≡ too_long_line
unfolding sheet_output
too_long sheet long = rw (lt-ltb LONGEST (length sheet) long)

-- what was laid at the front of a buffer is what stands there
pub taken : {out bytes left : Bytes} {next : ℕ} → Laid out 0 bytes left next → take next left ≡ bytes
unfolding laid_at
taken {out} {bytes} {left} {next} l =
    let end : next ≡ length bytes = omega (arith, l.behind) in
    ap (λ n. take n left) end ∙ ap (λ b. take (length bytes) b) l.laid ∙ take-append_seam bytes (drop (0 + length bytes) out)
