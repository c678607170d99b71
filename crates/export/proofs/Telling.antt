-- What a call for many leaves, by what the check gives. Assumes nothing.
use mathlib.Core.Path.{◌≡◌, sym, ◌∙◌}
use Rattle.limits.proofs.Refused.{if_refused}
use Rattle.table.specs.Given.{Given, Done}
use Rattle.table.specs.Words.{Words}
use Rattle.table.specs.Given.{if_done}
use Rattle.audit.specs.Check.{check_gives}

module _ (ws : Words) {g : Given} (e : g ≡ check_gives ws) where
  pub check_refuses : (g ≡ Done → ⊥) → {A : Type 0} (a b : A) → b ≡ if_done (check_gives ws) a b
  check_refuses d a b = sym (if_refused (check_gives ws) (λ h. d (e ∙ h)) a b)

  pub check_passes : g ≡ Done → {A : Type 0} (a b : A) → a ≡ if_done (check_gives ws) a b
  check_passes d a b = rw (sym e ∙ d)
