-- `csv_grammar::grammar::State::on_mark` meets its contract: between quote marks by `mark_quoted`, elsewhere by the definitions alone. Assumes nothing.
use Rattle.std.proofs.Common.{◌≡◌, refl}
use Rattle.csv_grammar.specs.declared.grammar.State.{State}
use Rattle.csv_grammar.specs.declared.grammar.State.TheVariants.{Start, Plain, Quoted, Closed, Broken}
use Rattle.csv_grammar.specs.Grammar.{is_text, is_field}
use Rattle.csv_grammar.specs.Reading.{OnMark, sound_from}
use Rattle.csv_grammar.proofs.States.{mark_quoted}
use Rattle.csv_grammar.proofs.grammar.State.on_mark.Goals as goal

-- any state but Quoted
elsewhere : (s : State) → (s ≡ Quoted → ⊥) → OnMark s Broken
unfolding sound_from is_field is_text
elsewhere Start k = ((λ bs. refl), (λ bs. refl), (λ bs. refl))
elsewhere Plain k = ((λ bs. refl), (λ bs. refl), (λ bs. refl))
elsewhere Quoted k = absurd (k refl)
elsewhere Closed k = ((λ bs. refl), (λ bs. refl), (λ bs. refl))
elsewhere Broken k = ((λ bs. refl), (λ bs. refl), (λ bs. refl))

pub returns-in-Quoted : goal.returns-in-Quoted
returns-in-Quoted c = rw c.in-Quoted.is mark_quoted

pub returns-in_default : goal.returns-in_default
returns-in_default c = elsewhere _ c.in_default.not-Quoted
