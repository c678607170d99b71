-- `slip::Slip::line` meets its contract: the head, then the line feed. Assumes nothing.
use mathlib.Core.List.{[], ◌∷◌}
use native.Mathlib.Omega.{arith}
use Rattle.sheet.specs.Bytes.{FEED}
use Rattle.slip.specs.Output.{head_of, output_line}
use Rattle.slip.proofs.Laid.{laid_room, laid_then}
use Rattle.slip.proofs.Decimal.{head_room}
use Rattle.slip.proofs.Slip.line.Goals as goal

pub byte-requires : goal.byte-requires
byte-requires c =
    omega (arith, laid_room 43 c.head.ensures.laid (head_room _ _ _) (omega arith))

pub returns-clause-laid : goal.returns-clause-laid
unfolding output_line
returns-clause-laid c =
    let a = c.args in
    laid_then _ _ (head_of a.number a.letter a.given) _ _ (FEED ∷ []) _ _
    (omega (arith, head_room a.number a.letter a.given)) c.head.ensures.laid c.byte.ensures.laid
