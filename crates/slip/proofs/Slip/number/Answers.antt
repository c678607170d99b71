-- `slip::Slip::number` meets its contract: a tab, then the digits behind it. Assumes nothing.
use mathlib.Core.List.{[], ◌∷◌, append-nil}
use native.Mathlib.Omega.{arith}
use Rattle.sheet.specs.Bytes.{TAB}
use Rattle.slip.specs.Output.{decimal}
use Rattle.slip.proofs.Laid.{laid_room, laid_then}
use Rattle.slip.proofs.Decimal.{decimal_most}
use Rattle.slip.proofs.Slip.number.Goals as goal

pub decimal-requires : goal.decimal-requires
decimal-requires c = omega (arith, laid_room 1 c.tab.ensures.laid (omega arith) (omega arith))

pub returns-clause-laid : goal.returns-clause-laid
returns-clause-laid c =
    rw append-nil
    (laid_then _ _ (TAB ∷ []) _ _ (decimal c.args.n) _ _ (omega (arith, decimal_most c.args.n)) c.tab.ensures.laid c.decimal.ensures.laid)
