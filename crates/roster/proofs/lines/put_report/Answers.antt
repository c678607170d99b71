-- `roster::lines::put_report` meets its contract: three runs, one behind the other. Assumes nothing.
use mathlib.Core.Path.{◌∙◌}
use mathlib.Core.List.{[], ◌∷◌, ◌++◌, append_assoc}
use native.Mathlib.Omega.{arith}
use Rattle.table.specs.Given.{number_given}
use Rattle.sheet.specs.Bytes.{FEED}
use Rattle.slip.specs.Output.{decimal, tabbed}
use Rattle.slip.proofs.Laid.{laid_room, laid_then}
use Rattle.slip.proofs.Decimal.{decimal_most, number_room}
use Rattle.roster.specs.Roster.{report_text}
use Rattle.roster.proofs.lines.put_report.Goals as goal

pub number-requires : goal.number-requires
number-requires c = omega (arith, laid_room 20 c.decimal.ensures.laid (decimal_most c.args.number) (omega arith))

pub byte-requires : goal.byte-requires
byte-requires c =
    let numbered = laid_room 20 c.decimal.ensures.laid (decimal_most c.args.number) (omega arith) in
    omega (arith, laid_room 21 c.number.ensures.laid (number_room _) (omega (arith, numbered)), numbered)

pub returns-clause-laid : goal.returns-clause-laid
unfolding report_text
returns-clause-laid c =
    let a = c.args in
    let given = tabbed (decimal (number_given a.given) ∷ []) in
    let numbered = laid_room 20 c.decimal.ensures.laid (decimal_most a.number) (omega arith) in
    let room = number_room (number_given a.given) in
    let said = rw (c.from.ensures ∙ c.number_given.ensures) at c.number.ensures.laid in
    let told = laid_then _ _ given _ _ (FEED ∷ []) _ _ (omega (arith, room, numbered)) said c.byte.ensures.laid in
    rw append_assoc
    (laid_then _ _ (decimal a.number) _ _ (given ++ FEED ∷ []) _ _ (omega (arith, room, decimal_most a.number)) c.decimal.ensures.laid told)
