-- Texts without a mark, each with a mark behind it, are the parts that the marks leave: lines of a sheet, fields of a line. By recursion on the text and on the fields. Assumes nothing.
use Prim.Native.Nat.{ℕ, zero, suc, ◌+◌, ◌/◌, ◌%◌, ◌<◌}
use mathlib.Core.Path.{◌≡◌, refl, ◌∙◌}
use mathlib.Core.Bool.{true, false, cond, not}
use mathlib.Core.List.{List, [], ◌∷◌, ◌++◌, append_assoc, append-nil}
use native.Mathlib.Omega.{arith}
use lib.Dec.{eqb, ltb}
use borrow.Author.Tests.{not-true, eq-eqb, ne_eqb}
use Rattle.order.specs.Lists.{every}
use Rattle.order.proofs.Lists.{by_bool, and_left, and_right}
use Rattle.sheet.specs.Bytes.{Bytes, TAB, FEED, in_front, parted_by, without_empty_end, lines_of}
use Rattle.slip.specs.Output.{decimal_in, decimal, tabbed}
use Rattle.roster.specs.Roster.{as_line}
use Rattle.roster.proofs.Numerals.{without}

module _ (mark : ℕ) where
  -- ---- the parts

  first_not : (b : ℕ) (bs : Bytes) → without mark (b ∷ bs) ≡ true → eqb b mark ≡ false
  first_not b bs e = not-true (eqb b mark) (and_left (not (eqb b mark)) (without mark bs) e)

  others_not : (b : ℕ) (bs : Bytes) → without mark (b ∷ bs) ≡ true → without mark bs ≡ true
  others_not b bs e = and_right (not (eqb b mark)) (without mark bs) e

  pub parted_first : (text rest : Bytes) → without mark text ≡ true → parted_by mark (text ++ mark ∷ rest) ≡ text ∷ parted_by mark rest
  parted_first [] rest e = rw (eq-eqb mark mark refl)
  parted_first (b ∷ bs) rest e = rw (first_not b bs e, parted_first bs rest (others_not b bs e))

  parted_whole : (text : Bytes) → without mark text ≡ true → parted_by mark text ≡ text ∷ []
  parted_whole [] e = refl
  parted_whole (b ∷ bs) e = rw (first_not b bs e, parted_whole bs (others_not b bs e))

  -- ---- texts without a mark

  pub without_append : (xs ys : Bytes) → without mark xs ≡ true → without mark ys ≡ true → without mark (xs ++ ys) ≡ true
  without_append [] ys d e = e
  without_append (x ∷ xs) ys d e = rw (first_not x xs d) (without_append xs ys (others_not x xs d) e)

  pub without_tabbed : (fs : List Bytes) → eqb TAB mark ≡ false → every (without mark) fs ≡ true → without mark (tabbed fs) ≡ true
  without_tabbed [] t e = refl
  without_tabbed (f ∷ fs) t e =
      rw t (without_append f (tabbed fs) (and_left _ _ e) (without_tabbed fs t (and_right (without mark f) _ e)))

  -- digits
  without_digit : (d : ℕ) → mark < 48 → without mark ((48 + d) ∷ []) ≡ true
  without_digit d h = rw (ne_eqb (48 + d) mark (λ e. omega arith))

  without_places : (p n : ℕ) → mark < 48 → without mark (decimal_in p n) ≡ true
  without_places zero n h = refl
  without_places (suc p) n h =
      by_bool (λ t. without mark (cond t ((48 + n) ∷ []) (decimal_in p (n / 10) ++ (48 + n % 10) ∷ [])) ≡ true) (ltb n 10)
      (λ _. without_digit n h)
      (λ _. without_append (decimal_in p (n / 10)) ((48 + n % 10) ∷ []) (without_places p (n / 10) h) (without_digit (n % 10) h))

  pub without_decimal : (n : ℕ) → mark < 48 → without mark (decimal n) ≡ true
  unfolding decimal
  without_decimal n h = without_places 20 n h

-- ---- the fields of a line

pub fields_tabbed : (first : Bytes) (fs : List Bytes) → without TAB first ≡ true → every (without TAB) fs ≡ true
    → parted_by TAB (first ++ tabbed fs) ≡ first ∷ fs
fields_tabbed first [] d e = rw append-nil (parted_whole TAB first d)
fields_tabbed first (f ∷ fs) d e =
    parted_first TAB first (f ++ tabbed fs) d
    ∙ rw (fields_tabbed f fs (and_left (without TAB f) _ e) (and_right (without TAB f) _ e))

-- ---- the lines of a sheet

-- a byte in front leaves some part
in_front_lem : (p : Bytes) (b : ℕ) (ps : List Bytes) → without_empty_end (p ∷ in_front b ps) ≡ p ∷ without_empty_end (in_front b ps)
in_front_lem p b [] = refl
in_front_lem p b (q ∷ qs) = refl

goes_on_lem : (p bs : Bytes) → without_empty_end (p ∷ parted_by FEED bs) ≡ p ∷ without_empty_end (parted_by FEED bs)
goes_on_lem p [] = refl
goes_on_lem p (b ∷ bs) =
    by_bool
    (λ t. let ps = cond t ([] ∷ parted_by FEED bs) (in_front b (parted_by FEED bs)) in without_empty_end (p ∷ ps) ≡ p ∷ without_empty_end ps)
    (eqb b FEED) (λ _. refl) (λ _. in_front_lem p b (parted_by FEED bs))

pub lines_first : (text rest : Bytes) → without FEED text ≡ true → lines_of (as_line text ++ rest) ≡ text ∷ lines_of rest
unfolding lines_of
lines_first text rest e = rw (append_assoc, parted_first FEED text rest e) (goes_on_lem text rest)
