-- Where the first that passes a test stands, if one does (`position`), and the place that the definitions have (`first_place`). Assumes nothing.
use Prim.Native.Nat.{ℕ, suc, ◌+◌, ◌<◌}
use native.Mathlib.Omega.{arith}
use mathlib.Core.Path.{◌≡◌, refl, sym, ap, ◌∙◌}
use mathlib.Core.Bool.{Bool, true, false, cond, ◌||◌}
use mathlib.Core.List.{List, [], ◌∷◌}
use lib.ListN.{length, get_or}
use lib.Dec.{ltb}
use borrow.Author.Tests.{ltb-true, ltb-false, lt-ltb, le-ltb}
use Rattle.std.specs.Prelude.{Some, None, position}
use Rattle.std.specs.Option.{is_some}
use Rattle.std.specs.List.{position_or_len}
use Rattle.std.proofs.lemmas.List.Recursion.{is_position_or_len}
use Rattle.std.proofs.lemmas.List.Sums.{position_or_len_is}
use Rattle.order.specs.Lists.{some, first_place}
use Rattle.order.proofs.Lists.{by_bool}

-- some passes exactly where the place is one of the list's
pub first_some : {A : Type 0} (P : A → Bool) (xs : List A) → ltb (first_place P xs) (length xs) ≡ some P xs
first_some P [] = le-ltb 0 0 (omega arith)
first_some P (x ∷ xs) =
    by_bool (λ b. ltb (cond b 0 (1 + first_place P xs)) (length (x ∷ xs)) ≡ (b || some P xs)) (P x)
    (λ e. lt-ltb 0 (length (x ∷ xs)) (omega arith))
    (λ e. ltb_suc (first_place P xs) (length xs) ∙ first_some P xs)
  where
    ltb_suc : (a b : ℕ) → ltb (1 + a) (suc b) ≡ ltb a b
    ltb_suc a b = by_bool (λ t. ltb a b ≡ t → ltb (1 + a) (suc b) ≡ t) (ltb a b)
        (λ e f. lt-ltb (1 + a) (suc b) (omega (arith, ltb-true a b e))) (λ e f. le-ltb (1 + a) (suc b) (omega (arith, ltb-false a b e))) refl

module _ {A : Type 0} (P : A → Bool) (xs : List A) where
  same : first_place P xs ≡ position_or_len P xs
  same = is_position_or_len (first_place P) P refl (λ _ _. refl) xs

  -- there is one exactly where some passes
  pub position_some : is_some (position P xs) ≡ some P xs
  position_some =
      by_bool (λ b. is_some (cond b (Some (position_or_len P xs)) None) ≡ b) (ltb (position_or_len P xs) (length xs)) (λ e. refl) (λ e. refl)
      ∙ ap (λ k. ltb k (length xs)) (sym same) ∙ first_some P xs

  -- and it is the place of the definitions
  pub position_first : (i : ℕ) → position P xs ≡ Some i → i ≡ first_place P xs
  position_first i =
      by_bool (λ b. cond b (Some (position_or_len P xs)) None ≡ Some i → i ≡ first_place P xs) (ltb (position_or_len P xs) (length xs))
      (λ e f. cc same) (λ e f. cc)

  pub position_found : first_place P xs < length xs → position P xs ≡ Some (first_place P xs)
  position_found h =
      let k : position_or_len P xs < length xs = omega (arith, same) in
      rw (lt-ltb (position_or_len P xs) (length xs) k) (ap Some (sym same))

  -- a search that stops at the first that passes, or at the end
  module _ (d : A) where
    pub position_at : (i : ℕ) → i < length xs → ((k : ℕ) → k < i → P (get_or xs k d) ≡ false) → P (get_or xs i d) ≡ true → Some i ≡ position P xs
    position_at i h below here =
        let e : position_or_len P xs ≡ i = position_or_len_is P xs i d (omega arith) below (λ _. here) in
        let k : position_or_len P xs < length xs = omega arith in
        rw (lt-ltb (position_or_len P xs) (length xs) k) (ap Some (sym e))

    pub position_none : ((k : ℕ) → k < length xs → P (get_or xs k d) ≡ false) → None ≡ position P xs
    position_none below =
        let e : position_or_len P xs ≡ length xs = position_or_len_is P xs (length xs) d (omega arith) below (λ l. absurd (omega arith)) in
        rw (le-ltb (position_or_len P xs) (length xs) (omega arith)) refl
