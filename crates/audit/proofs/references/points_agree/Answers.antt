-- `references::points_agree` meets its contract. Assumes nothing.
use mathlib.Core.Path.{refl}
use Rattle.rules.specs.Rules.{rule7_header}
use Rattle.audit.proofs.references.points_agree.Goals as goal

pub returns : goal.returns
unfolding rule7_header
returns c = rw (c.points_of.ensures, c.leaf_entries.ensures) refl
