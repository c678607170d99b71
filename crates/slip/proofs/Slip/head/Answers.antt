-- `slip::Slip::head` meets its contract: four runs, one behind the other. Assumes nothing.
use mathlib.Core.List.{[], ◌∷◌}
use native.Mathlib.Omega.{arith}
use Rattle.sheet.specs.Bytes.{TAB}
use Rattle.slip.specs.Output.{decimal, tabbed, head_of}
use Rattle.slip.proofs.Laid.{laid_room, laid_then}
use Rattle.slip.proofs.Decimal.{decimal_most, number_room}
use Rattle.slip.proofs.Slip.head.Goals as goal

pub tab-requires : goal.tab-requires
tab-requires c = omega (arith, laid_room 20 c.decimal.ensures.laid (decimal_most c.args.number) (omega arith))

pub byte-requires : goal.byte-requires
byte-requires c =
    let numbered = laid_room 20 c.decimal.ensures.laid (decimal_most c.args.number) (omega arith) in
    omega (arith, laid_room 1 c.tab.ensures.laid (omega arith) (omega (arith, numbered)), numbered)

pub number-requires : goal.number-requires
number-requires c =
    let numbered = laid_room 20 c.decimal.ensures.laid (decimal_most c.args.number) (omega arith) in
    let parted = laid_room 1 c.tab.ensures.laid (omega arith) (omega (arith, numbered)) in
    omega (arith, laid_room 1 c.byte.ensures.laid (omega arith) (omega (arith, numbered, parted)), numbered, parted)

pub returns-clause-laid : goal.returns-clause-laid
unfolding head_of
returns-clause-laid c =
    let a = c.args in
    let given = tabbed (decimal a.given ∷ []) in
    let numbered = laid_room 20 c.decimal.ensures.laid (decimal_most a.number) (omega arith) in
    let parted = laid_room 1 c.tab.ensures.laid (omega arith) (omega (arith, numbered)) in
    let room = number_room a.given in
    let told = rw c.from.ensures at c.number.ensures.laid in
    let behind = laid_then _ _ (a.letter ∷ []) _ _ given _ _ (omega (arith, room, numbered, parted)) c.byte.ensures.laid told in
    let tabs = laid_then _ _ (TAB ∷ []) _ _ (a.letter ∷ given) _ _ (omega (arith, room, numbered)) c.tab.ensures.laid behind in
    laid_then _ _ (decimal a.number) _ _ (TAB ∷ a.letter ∷ given) _ _ (omega (arith, room, decimal_most a.number)) c.decimal.ensures.laid tabs
