-- `csv_grammar::grammar::State::step` meets its contract: an arm for each kind of byte. Those from 20 to 7E that are neither quote mark nor comma are TEXTDATA. Assumes nothing.
use native.Mathlib.Omega.{arith}
use Rattle.csv_grammar.proofs.States.{text_range, below_text, above_text, other_breaks}
use Rattle.csv_grammar.proofs.grammar.State.step.Goals as goal

pub returns-in-32-to-126 : goal.returns-in-32-to-126
returns-in-32-to-126 c =
    c.on_text.ensures _ (text_range _ (omega arith) (omega arith) (λ e. omega arith) (λ e. omega arith))

pub returns-in_default : goal.returns-in_default
returns-in_default c =
    other_breaks _ _ (below_text _ (omega arith)) (λ e. omega arith) (λ e. omega arith) (λ e. grind arith) (λ e. grind arith)

pub returns-in_default-2 : goal.returns-in_default-2
returns-in_default-2 c =
    other_breaks _ _ (above_text _ (omega arith)) (λ e. omega arith) (λ e. omega arith) (λ e. grind arith) (λ e. grind arith)
