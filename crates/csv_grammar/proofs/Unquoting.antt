-- The laws of a field without its quote marks: the stretch as the code cuts it, and what it says where no quote mark is left in it. By recursion on the bytes. Assumes nothing.
use Prim.Native.Nat.{ℕ, ◌-◌, ◌≤◌, ◌<◌}
use mathlib.Core.Path.{◌≡◌, refl, sym, ap, ◌∙◌}
use mathlib.Core.Bool.{Bool, true, false, cond, not, ◌&&◌, false≢true}
use mathlib.Core.List.{[], ◌∷◌}
use native.Mathlib.Omega.{arith}
use lib.ListN.{length, take, drop, get_or}
use borrow.Author.Tests.{eq-eqb, ne_eqb, not-true}
use Rattle.order.specs.Lists.{every}
use Rattle.order.proofs.Lists.{by_bool, and_left, and_right}
use Rattle.sheet.specs.Bytes.{Bytes}
use Rattle.cuts.specs.Cuts.{QUOTE}
use Rattle.csv_grammar.specs.Grammar.{is_quote, is_text, is_field, inside, unquoted}
use Rattle.csv_grammar.specs.Reading.{bare_of}

-- ---- the stretch

pub bare_short : (field : Bytes) → length field < 2 → field ≡ bare_of field
unfolding bare_of
bare_short [] l = refl
bare_short (b ∷ []) l = refl
bare_short (b ∷ c ∷ bs) l = absurd (omega arith)

pub bare_plain : (field : Bytes) → (get_or field 0 0 ≡ QUOTE → ⊥) → field ≡ bare_of field
unfolding bare_of
bare_plain [] f = refl
bare_plain (b ∷ []) f = refl
bare_plain (b ∷ c ∷ bs) f = rw (ne_eqb b QUOTE f)

pub bare_quoted : (field : Bytes) → 2 ≤ length field → get_or field 0 0 ≡ QUOTE → take (length field - 1 - 1) (drop 1 field) ≡ bare_of field
unfolding bare_of
bare_quoted [] l e = absurd (omega arith)
bare_quoted (b ∷ []) l e = absurd (omega arith)
bare_quoted (b ∷ c ∷ bs) l e =
    let n : length (b ∷ c ∷ bs) - 1 - 1 ≡ length (b ∷ c ∷ bs) - 2 = omega arith in
    rw (eq-eqb b QUOTE e, n)

-- ---- no quote mark in it, or some

abbrev unmarked : Bytes → Bool
unmarked bs = every (λ b. not (is_quote b)) bs

-- all bytes but the last
abbrev front : Bytes → Bytes
front [] = []
front (b ∷ []) = []
front (b ∷ c ∷ bs) = b ∷ front (c ∷ bs)

take_front : (b : ℕ) (bs : Bytes) → take (length bs) (b ∷ bs) ≡ front (b ∷ bs)
take_front b [] = refl
take_front b (c ∷ bs) = ap (λ l. b ∷ l) (take_front c bs)

bare_front : (b c : ℕ) (bs : Bytes) → take (length (b ∷ c ∷ bs) - 2) (c ∷ bs) ≡ front (c ∷ bs)
bare_front b c bs =
    let n : length (b ∷ c ∷ bs) - 2 ≡ length bs = omega arith in
    rw n (take_front c bs)

-- where none is left in front of the last byte, two are never read as one
inside_front : (bs : Bytes) → unmarked (front bs) ≡ true → inside bs ≡ front bs
inside_front [] e = refl
inside_front (b ∷ []) e = refl
inside_front (b ∷ c ∷ bs) e =
    rw (not-true (is_quote b) (and_left (not (is_quote b)) _ e)) (ap (λ l. b ∷ l) (inside_front (c ∷ bs) (and_right (not (is_quote b)) _ e)))

inside_stays : (bs : Bytes) → unmarked (front bs) ≡ false → unmarked (inside bs) ≡ false
inside_stays [] e = e
inside_stays (b ∷ []) e = e
inside_stays (b ∷ c ∷ bs) e =
    let ih : unmarked (front (c ∷ bs)) ≡ false → unmarked (inside (c ∷ bs)) ≡ false = inside_stays (c ∷ bs) in
    by_bool
    (λ t. (not t && unmarked (front (c ∷ bs))) ≡ false → (not t && unmarked (cond t (inside bs) (inside (c ∷ bs)))) ≡ false)
    (is_quote b) (λ _ _. refl) (λ _ f. ih f) e

-- a field whose stretch has no quote mark says exactly that stretch
pub bare_number : (field : Bytes) → is_field field ≡ true → every (λ b. not (is_quote b)) (bare_of field) ≡ true → unquoted field ≡ bare_of field
unfolding bare_of unquoted
bare_number [] sound e = refl
bare_number (b ∷ []) sound e = rw (not-true (is_quote b) (and_left (not (is_quote b)) _ e))
bare_number (b ∷ c ∷ bs) sound e =
    let bare = take (length (b ∷ c ∷ bs) - 2) (c ∷ bs) in
    by_bool (λ t. unmarked (cond t bare (b ∷ c ∷ bs)) ≡ true → cond t (inside (c ∷ bs)) (b ∷ c ∷ bs) ≡ cond t bare (b ∷ c ∷ bs)) (is_quote b)
    (λ _ f. inside_front (c ∷ bs) (ap unmarked (sym (bare_front b c bs)) ∙ f) ∙ sym (bare_front b c bs))
    (λ _ _. refl)
    e

-- one whose stretch has some says some
pub quote_stays : (field : Bytes) → is_field field ≡ true → every (λ b. not (is_quote b)) (bare_of field) ≡ false → every (λ b. not (is_quote b)) (unquoted field) ≡ false
unfolding bare_of unquoted is_field
quote_stays [] sound e = e
quote_stays (b ∷ []) sound e =
    by_bool
    (λ t. cond t false (is_text b && true) ≡ true → (not t && true) ≡ false → unmarked (cond t [] (b ∷ [])) ≡ false)
    (is_quote b) (λ _ s _. absurd (false≢true s)) (λ _ _ f. absurd (false≢true (sym f)))
    sound e
quote_stays (b ∷ c ∷ bs) sound e =
    let bare = take (length (b ∷ c ∷ bs) - 2) (c ∷ bs) in
    by_bool (λ t. unmarked (cond t bare (b ∷ c ∷ bs)) ≡ false → unmarked (cond t (inside (c ∷ bs)) (b ∷ c ∷ bs)) ≡ false) (is_quote b)
    (λ _ f. inside_stays (c ∷ bs) (ap unmarked (sym (bare_front b c bs)) ∙ f))
    (λ _ f. f)
    e
