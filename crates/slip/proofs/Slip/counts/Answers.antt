-- `slip::Slip::counts` meets its contract: three runs, one behind the other. Assumes nothing.
use mathlib.Core.List.{[], ◌∷◌}
use native.Mathlib.Omega.{arith}
use Rattle.slip.specs.Output.{decimal, tabbed}
use Rattle.slip.proofs.Laid.{laid_room, laid_then}
use Rattle.slip.proofs.Decimal.{tabbed_cons, number_room}
use Rattle.slip.proofs.Slip.counts.Goals as goal

pub number-requires-2 : goal.number-requires-2
number-requires-2 c = omega (arith, laid_room 21 c.number.ensures.laid (number_room c.args.n) (omega arith))

pub number-requires-3 : goal.number-requires-3
number-requires-3 c =
    let first = laid_room 21 c.number.ensures.laid (number_room c.args.n) (omega arith) in
    omega (arith, laid_room 21 c.number-2.ensures.laid (number_room c.args.m) (omega (arith, first)), first)

pub returns-clause-laid : goal.returns-clause-laid
returns-clause-laid c =
    let a = c.args in
    let n = tabbed (decimal a.n ∷ []) in
    let m = tabbed (decimal a.m ∷ []) in
    let o = tabbed (decimal a.o ∷ []) in
    let first = laid_room 21 c.number.ensures.laid (number_room a.n) (omega arith) in
    let second = number_room a.m in
    let third = number_room a.o in
    let behind = laid_then _ _ m _ _ o _ _ (omega (arith, first)) c.number-2.ensures.laid c.number-3.ensures.laid in
    rw (tabbed_cons (decimal a.n) (decimal a.m ∷ decimal a.o ∷ []), tabbed_cons (decimal a.m) (decimal a.o ∷ []))
    (laid_then _ _ n _ _ _ _ _ (omega (arith, number_room a.n)) c.number.ensures.laid behind)
