-- `slip::Slip::list` meets its contract: the numbers, then the line feed. Assumes nothing.
use Prim.Native.Nat.{◌*◌}
use mathlib.Core.List.{[], ◌∷◌, map}
use native.Mathlib.Omega.{arith}
use lib.ListN.{length}
use Rattle.sheet.specs.Bytes.{FEED}
use Rattle.slip.specs.Output.{decimal, tabbed}
use Rattle.slip.proofs.Laid.{laid_room, laid_then}
use Rattle.slip.proofs.Decimal.{tabbed_most}
use Rattle.slip.proofs.Slip.list.Goals as goal

pub byte-requires : goal.byte-requires
byte-requires c =
    let ns = c.args.numbers.now in
    omega (arith, laid_room (21 * length ns) c.numbers.ensures.laid (tabbed_most ns) (omega arith))

pub returns-clause-laid : goal.returns-clause-laid
returns-clause-laid c =
    let ns = c.args.numbers.now in
    laid_then _ _ (tabbed (map decimal ns)) _ _ (FEED ∷ []) _ _ (omega (arith, tabbed_most ns)) c.numbers.ensures.laid c.byte.ensures.laid
