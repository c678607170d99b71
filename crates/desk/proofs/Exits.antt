-- What the exit of a `?` hands back where what it asks is refused. Assumes nothing.
use mathlib.Core.Path.{◌≡◌, ap, ◌∙◌}
use Rattle.std.specs.Prelude.{Result, Err}
use Rattle.std.specs.Result.{IsErrAnd}
use Rattle.std.proofs.lemmas.Result.{err_from_is_err_and}
use Rattle.table.specs.declared.given.Refusal.{Refusal}
use Rattle.refusals.specs.declared.answered.Refused.{Refused}

pub refusal_is : {T : Type 0} {w v : Refusal} → ◌≡◌ {A = Result T Refusal} (Err w) (Err v) → w ≡ v
refusal_is e = cc

module _ {T : Type 0} (w : Refusal) where
  -- the refusal itself
  pub given_is : (r : Result T Refusal) → IsErrAnd r (λ e. e ≡ w) → r ≡ Err w
  given_is r h = let p = err_from_is_err_and r h in p.1 ∙ ap Err p.2

  -- with zero counts
  pub refused_is : (r : Result T Refused) → IsErrAnd r (λ e. e ≡ record { why = w; length = 0 }) → r ≡ Err (record { why = w; length = 0 })
  refused_is r h = let p = err_from_is_err_and r h in p.1 ∙ ap Err p.2
