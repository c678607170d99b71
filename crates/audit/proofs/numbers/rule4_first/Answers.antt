-- `numbers::rule4_first` meets its contract. Assumes nothing.
use borrow.Author.Count.{below_none}
use mathlib.Core.Path.{◌≡◌}
use mathlib.Core.Bool.{true}
use Rattle.rules.specs.Rules.{rule4}
use Rattle.audit.proofs.Marked.{none_marked}
use Rattle.audit.proofs.numbers.rule4_first.Goals as goal

pub loop-slot-init : goal.loop-slot-init
loop-slot-init c = (below_none (λ k. rule4 c.args.table.now k ≡ true), none_marked)
