-- `csv_grammar::grammar::is_field` meets its contract. The loop's invariant: what is left is sound by the state exactly if the field is sound. Assumes nothing.
use mathlib.Core.Path.{◌≡◌}
use lib.ListN.{drop}
use Rattle.csv_grammar.specs.Grammar.{is_field}
use Rattle.csv_grammar.specs.Reading.{sound_from}
use Rattle.csv_grammar.proofs.grammar.is_field.Given as goal

abbrev pub invariant-loop-b : goal.invariant-loop-b
invariant-loop-b l = sound_from l.state (drop l.b-index l.field) ≡ is_field l.field
