-- `roster::lines::put_field` meets its contract: the tab, then the field. Assumes nothing.
use mathlib.Core.Path.{ap, ◌∙◌}
use native.Mathlib.Omega.{arith}
use lib.ListN.{length}
use Rattle.csv_grammar.specs.Reading.{bare_of}
use Rattle.slip.proofs.Laid.{laid_room}
use Rattle.roster.proofs.Copied.{tabbed_one}
use Rattle.roster.proofs.lines.put_field.Goals as goal

pub put_bytes-requires : goal.put_bytes-requires
put_bytes-requires c =
    let its = c.bare.ensures ∙ ap bare_of c.field.ensures in
    omega (arith, ap length its, laid_room 1 c.byte.ensures.laid (omega arith) (omega arith))

pub returns-clause-laid : goal.returns-clause-laid
returns-clause-laid c =
    let its = c.bare.ensures ∙ ap bare_of c.field.ensures in
    tabbed_one its c.requires c.byte.ensures.laid c.put_bytes.ensures.laid
