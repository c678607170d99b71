-- The bytes of a number are digits and a minus, so no mark of another kind stands among them: what the stretch between quote marks says is what the unquoted field says. Assumes nothing.
use Prim.Native.Nat.{ℕ}
use mathlib.Core.Path.{◌≡◌, refl, sym, ap, ◌∙◌}
use mathlib.Core.Bool.{Bool, true, false, cond, not, ◌||◌, false≢true}
use mathlib.Core.List.{[], ◌∷◌}
use lib.Dec.{eqb}
use lib.IntN.{ℤ}
use Rattle.std.specs.Prelude.{Option, Some, None, is_some}
use borrow.Author.Tests.{eqb-true}
use Rattle.order.specs.Lists.{every}
use Rattle.order.proofs.Lists.{by_bool, and_left, and_right}
use Rattle.sheet.specs.Bytes.{Bytes}
use Rattle.jobs.specs.Number.{MINUS, is_digit, starts_with_zero, is_plain, plain_number, negative_number, read_number}
use Rattle.jobs.proofs.Digits.{plain_digits}
use Rattle.csv_grammar.specs.Grammar.{is_quote, is_field, unquoted}
use Rattle.csv_grammar.specs.Reading.{bare_of}
use Rattle.csv_grammar.proofs.Unquoting.{bare_number, quote_stays}

-- ---- the bytes of a number

abbrev pub is_numeral : ℕ → Bool
is_numeral b = is_digit b || eqb b MINUS

abbrev pub without : ℕ → Bytes → Bool
without mark bs = every (λ b. not (eqb b mark)) bs

or_right : (a : Bool) → (a || true) ≡ true
or_right true = refl
or_right false = refl

or_left : (a b : Bool) → a ≡ true → (a || b) ≡ true
or_left a b e = rw e

every_then : (P Q : ℕ → Bool) → ((b : ℕ) → P b ≡ true → Q b ≡ true) → (bs : Bytes) → every P bs ≡ true → every Q bs ≡ true
every_then P Q f [] e = refl
every_then P Q f (b ∷ bs) e = rw (f b (and_left (P b) (every P bs) e)) (every_then P Q f bs (and_right (P b) (every P bs) e))

digits_numerals : (bs : Bytes) → every is_digit bs ≡ true → every is_numeral bs ≡ true
digits_numerals bs e = every_then is_digit is_numeral (λ b d. or_left (is_digit b) (eqb b MINUS) d) bs e

-- a test that a number needs
needed : (t : Bool) (r : Option ℤ) → is_some (cond t r None) ≡ true → t ≡ true
needed true r e = refl
needed false r e = absurd (false≢true e)

pub numerals : (bs : Bytes) → is_some (read_number bs) ≡ true → every is_numeral bs ≡ true
unfolding read_number
numerals [] e = absurd (false≢true e)
numerals (b ∷ bs) e =
    by_bool (λ t. eqb b MINUS ≡ t → is_some (cond t (negative_number bs) (plain_number (b ∷ bs))) ≡ true → every is_numeral (b ∷ bs) ≡ true) (eqb b MINUS)
    (λ _ m n.
    let plain = and_left (is_plain bs) (not (starts_with_zero bs)) (needed _ _ n) in
    rw (m, or_right (is_digit b)) (digits_numerals bs (plain_digits bs plain)))
    (λ _ _ n. digits_numerals (b ∷ bs) (plain_digits (b ∷ bs) (needed _ _ n)))
    refl e

-- a byte that stands in no number
other : (mark : ℕ) → is_numeral mark ≡ false → (b : ℕ) → is_numeral b ≡ true → not (eqb b mark) ≡ true
other mark f b e =
    by_bool (λ t. eqb b mark ≡ t → not t ≡ true) (eqb b mark)
    (λ _ same. absurd (false≢true (sym f ∙ ap is_numeral (sym (eqb-true b mark same)) ∙ e)))
    (λ _ _. refl) refl

pub clean : (mark : ℕ) → is_numeral mark ≡ false → (bs : Bytes) → is_some (read_number bs) ≡ true → without mark bs ≡ true
clean mark f bs e = every_then is_numeral (λ b. not (eqb b mark)) (other mark f) bs (numerals bs e)

-- ---- a field with quote marks around it

abbrev unmarked : Bytes → Bool
unmarked bs = every (λ b. not (is_quote b)) bs

none : (r : Option ℤ) → is_some r ≡ false → r ≡ None
none (Some z) e = absurd (false≢true (sym e))
none None e = refl

-- a number has no quote mark
quoted_none : (bs : Bytes) → unmarked bs ≡ false → read_number bs ≡ None
quoted_none bs f =
    by_bool (λ t. is_some (read_number bs) ≡ t → read_number bs ≡ None) (is_some (read_number bs))
    (λ _ e. absurd (false≢true (sym f ∙ clean 34 refl bs e)))
    (λ _ e. none (read_number bs) e) refl

module _ (field : Bytes) (sound : is_field field ≡ true) where
  -- the number in the stretch is that in the unquoted field
  pub read_bare : read_number (unquoted field) ≡ read_number (bare_of field)
  read_bare =
      by_bool (λ t. unmarked (bare_of field) ≡ t → read_number (unquoted field) ≡ read_number (bare_of field)) (unmarked (bare_of field))
      (λ _ e. ap read_number (bare_number field sound e))
      (λ _ e. quoted_none (unquoted field) (quote_stays field sound e) ∙ sym (quoted_none (bare_of field) e))
      refl

  -- and where there is one, the stretch is the unquoted field
  pub said_bare : is_some (read_number (unquoted field)) ≡ true → unquoted field ≡ bare_of field
  said_bare n =
      by_bool (λ t. unmarked (bare_of field) ≡ t → unquoted field ≡ bare_of field) (unmarked (bare_of field))
      (λ _ e. bare_number field sound e)
      (λ _ e. absurd (false≢true (sym (quote_stays field sound e) ∙ clean 34 refl (unquoted field) n)))
      refl
