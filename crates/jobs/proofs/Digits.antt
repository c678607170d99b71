-- The laws of digits: a test of every byte, one byte after another, and the value of digits, with its bounds, by recursion on the bytes. Assumes nothing.
use Prim.Native.Nat.{ℕ, zero, suc, ◌+◌, ◌-◌, ◌*◌, ◌^◌, ◌≤◌, ◌<◌}
use mathlib.Core.Path.{◌≡◌, refl, ap, ◌∙◌}
use mathlib.Core.Bool.{Bool, true, false, not, ◌&&◌}
use mathlib.Core.List.{[], ◌∷◌}
use native.Mathlib.Omega.{arith}
use native.Mathlib.Nat.{le_of_suc-le-suc, pow-succ', mul-le-mul_right, pow-le-pow_right}
use native.Mathlib.Numerals.{add-one}
use Rattle.std.specs.List.{list_all}
use lib.Dec.{leb, eqb}
use lib.IntN.{ℤ, pos, neg_ℤ, ◌-ℤ◌, +ℤ_idl}
use lib.ListN.{length, take, drop, get_or}
use lib.Seq.{drop-cons, take_all}
use borrow.Author.Tests.{leb-true, eq-eqb, ne_eqb}
use mir.Syntax.{w32}
use mir.Val.{SFits, to_z, of_z}
use mir.ValLaws.{to_z-of_z, to_z_pos}
use Rattle.order.proofs.Lists.{and_left, and_right}
use Rattle.order.specs.Lists.{every}
use Rattle.table.specs.Words.{between}
use Rattle.sheet.specs.Bytes.{Bytes}
use Rattle.jobs.specs.Number.{MINUS, ZERO, is_digit, are_digits, starts_with_zero, is_plain, value_from, value_of, plain_number, negative_number, read_number}

-- ---- a test of every byte

pub every_all : (P : ℕ → Bool) (bs : Bytes) → list_all P bs ≡ every P bs
every_all P [] = refl
every_all P (b ∷ bs) = ap (λ t. P b && t) (every_all P bs)

-- ---- what digits say

pub value_step : (n : ℕ) (bs : Bytes) (i : ℕ) → i < length bs
    → value_from n (drop i bs) ≡ value_from (10 * n + (get_or bs i 0 - ZERO)) (drop (i + 1) bs)
value_step n bs i l = rw (drop-cons bs i 0 l, add-one i)

-- further digits make it no less
pub value_least : (n : ℕ) (bs : Bytes) → n ≤ value_from n bs
value_least n [] = omega arith
value_least n (b ∷ bs) = omega (arith, value_least (10 * n + (b - ZERO)) bs)

digit_range : (b : ℕ) → is_digit b ≡ true → (ZERO ≤ b) × (b ≤ 57)
digit_range b e = (leb-true _ _ (and_left (leb 48 b) (leb b 57) e), leb-true _ _ (and_right (leb 48 b) (leb b 57) e))

value_below : (n : ℕ) (bs : Bytes) → every is_digit bs ≡ true → value_from n bs < (n + 1) * 10 ^ length bs
value_below n [] e = omega arith
value_below n (b ∷ bs) e =
    let d = digit_range b (and_left (is_digit b) (every is_digit bs) e) in
    let m = 10 * n + (b - ZERO) in
    let grown : (m + 1) * 10 ^ length bs ≤ (10 * (n + 1)) * 10 ^ length bs = mul-le-mul_right (10 ^ length bs) (omega arith) in
    rw (pow-succ' 10 (length bs)) (omega (arith, value_below m bs (and_right (is_digit b) (every is_digit bs) e)))

every_at : (P : ℕ → Bool) (bs : Bytes) → every P bs ≡ true → (i : ℕ) → i < length bs → P (get_or bs i 0) ≡ true
every_at P [] e i l = absurd (omega arith)
every_at P (b ∷ bs) e zero l = and_left (P b) (every P bs) e
every_at P (b ∷ bs) e (suc i) l = every_at P bs (and_right (P b) (every P bs) e) i (le_of_suc-le-suc l)

-- ---- plain digits

digits_length : (bs : Bytes) → are_digits bs ≡ true → (1 ≤ length bs) × (length bs ≤ 7)
digits_length bs e =
    let short = and_left (between 1 7 (length bs)) (every is_digit bs) e in
    (leb-true _ _ (and_left (leb 1 (length bs)) _ short), leb-true _ _ (and_right (leb 1 (length bs)) _ short))

pub starts_at : (bs : Bytes) → 0 < length bs → starts_with_zero bs ≡ eqb (get_or bs 0 0) ZERO
starts_at [] l = absurd (omega arith)
starts_at (b ∷ bs) l = refl

-- the tests one after the other
pub digits_least : (bs : Bytes) → are_digits bs ≡ true → 1 ≤ length bs
digits_least bs e = (digits_length bs e).0

pub plain_none : (bs : Bytes) → are_digits bs ≡ false → is_plain bs ≡ false
unfolding is_plain
plain_none bs e = rw e

pub plain_one : (bs : Bytes) → are_digits bs ≡ true → length bs ≡ 1 → is_plain bs ≡ true
unfolding is_plain
plain_one bs e one = rw (e, eq-eqb (length bs) 1 one)

pub plain_more : (bs : Bytes) → are_digits bs ≡ true → (length bs ≡ 1 → ⊥) → is_plain bs ≡ not (eqb (get_or bs 0 0) ZERO)
unfolding is_plain
plain_more bs e more = rw (e, ne_eqb (length bs) 1 more, starts_at bs (digits_least bs e))

module _ (bs : Bytes) (plain : is_plain bs ≡ true) where
  plain_both : are_digits bs ≡ true
  unfolding is_plain
  plain_both = and_left (are_digits bs) _ plain

  pub plain_length : (1 ≤ length bs) × (length bs ≤ 7)
  plain_length = digits_length bs plain_both

  pub plain_digits : every is_digit bs ≡ true
  plain_digits = and_right (between 1 7 (length bs)) (every is_digit bs) plain_both

  pub plain_at : (i : ℕ) → i < length bs → (ZERO ≤ get_or bs i 0) × (get_or bs i 0 ≤ 57)
  plain_at i l = digit_range (get_or bs i 0) (every_at is_digit bs plain_digits i l)

  pub plain_below : value_of bs < 10 ^ 7
  plain_below =
      let ten : 10 ^ length bs ≤ 10 ^ 7 = pow-le-pow_right (omega arith) plain_length.1 in
      omega (arith, value_below 0 bs plain_digits)

  pub plain_least : 1 ≤ length bs
  plain_least = plain_length.0

  pub plain_small : (n : ℕ) → n ≡ value_of bs → n < 10 ^ 7
  plain_small n e = omega (arith, plain_below)

  -- a turn of the reader, after digits that say n, stays below too
  pub plain_next : (n i : ℕ) → i < length bs → value_from n (drop i bs) ≡ value_of bs → 10 * n + (get_or bs i 0 - ZERO) < 10 ^ 7
  plain_next n i l e =
      omega (arith, value_least (10 * n + (get_or bs i 0 - ZERO)) (drop (i + 1) bs), value_step n bs i l, plain_below)

-- ---- the number as the machine has it

pub pos_fits : (n : ℕ) → n < 10 ^ 7 → SFits w32 (pos n)
pos_fits n l = record { sfits = omega arith }

pub pos_back : (n : ℕ) → n < 10 ^ 7 → to_z w32 n ≡ pos n
pos_back n l = to_z_pos w32 n (omega arith)

neg_fits : (n : ℕ) → n < 10 ^ 7 → SFits w32 (neg_ℤ (pos n))
neg_fits zero l = record { sfits = omega arith }
neg_fits (suc n) l = record { sfits = omega arith }

minus : (n : ℕ) → n < 10 ^ 7 → pos 0 -ℤ to_z w32 n ≡ neg_ℤ (pos n)
minus n l = ap (λ (z : ℤ). pos 0 -ℤ z) (pos_back n l) ∙ +ℤ_idl (neg_ℤ (pos n))

pub minus_fits : (n : ℕ) → n < 10 ^ 7 → SFits w32 (pos 0 -ℤ to_z w32 n)
minus_fits n l = rw (minus n l) (neg_fits n l)

pub minus_back : (n : ℕ) → n < 10 ^ 7 → to_z w32 (of_z w32 (pos 0 -ℤ to_z w32 n)) ≡ neg_ℤ (pos n)
minus_back n l = to_z-of_z w32 (pos 0 -ℤ to_z w32 n) (minus_fits n l) ∙ minus n l

-- ---- the minus in front

pub reads_minus : (bs : Bytes) → 1 ≤ length bs → get_or bs 0 0 ≡ MINUS → read_number bs ≡ negative_number (take (length bs - 1) (drop 1 bs))
unfolding read_number
reads_minus [] l e = absurd (omega arith)
reads_minus (b ∷ bs) l e = simp (eq-eqb b MINUS e, take_all (suc (length bs) - 1) bs (omega arith))

pub reads_plain : (bs : Bytes) → (1 ≤ length bs → get_or bs 0 0 ≡ MINUS → ⊥) → read_number bs ≡ plain_number bs
unfolding read_number is_plain
reads_plain [] f = refl
reads_plain (b ∷ bs) f = simp (ne_eqb b MINUS (f (omega arith)))
