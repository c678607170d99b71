-- The laws of marks: one step of the search for a mark, and the parts that the marks leave, by recursion on the bytes. Assumes nothing.
use Prim.Native.Nat.{ℕ, zero, suc, ◌+◌, ◌-◌, ◌≤◌, ◌<◌}
use mathlib.Core.Path.{◌≡◌, refl, sym, ap, ◌∙◌}
use mathlib.Core.Bool.{cond}
use mathlib.Core.List.{List, [], ◌∷◌}
use native.Mathlib.Omega.{arith}
use native.Mathlib.Numerals.{add-one, one-add}
use Rattle.std.specs.List.{count_by}
use Rattle.std.proofs.lemmas.List.Recursion.{is_count_by}
use lib.Dec.{eqb, ltb, leb-suc-suc}
use lib.ListN.{length, take, drop, get_or, length-take, length-drop, drop_of_length-le}
use lib.Seq.{drop-cons, drop-drop}
use borrow.Author.Tests.{eq-eqb, ne_eqb, lt-ltb, le-ltb, ltb-true, ltb-false}
use Rattle.order.proofs.Lists.{by_bool}
use Rattle.sheet.specs.Bytes.{Bytes, FEED, in_front, parted_by, without_empty_end, lines_of}
use Rattle.sheet.specs.Marks.{reach, stop_from, part_from, next_from, line_of, next_of}

module _ (mark : ℕ) where
  reach_most : (bs : Bytes) → reach mark bs ≤ length bs
  unfolding reach
  reach_most [] = omega arith
  reach_most (b ∷ bs) =
      by_bool (λ t. cond t 0 (1 + reach mark bs) ≤ suc (length bs)) (eqb b mark) (λ _. omega arith) (λ _. omega (arith, reach_most bs))

  -- ---- one step of the search

  pub stop_here : (bs : Bytes) (i : ℕ) → i < length bs → get_or bs i 0 ≡ mark → stop_from mark bs i ≡ i
  unfolding stop_from reach
  stop_here bs i l e = rw (drop-cons bs i 0 l, eq-eqb _ _ e) (omega arith)

  pub stop_on : (bs : Bytes) (i : ℕ) → i < length bs → (get_or bs i 0 ≡ mark → ⊥) → stop_from mark bs (i + 1) ≡ stop_from mark bs i
  unfolding stop_from reach
  stop_on bs i l e = rw (drop-cons bs i 0 l, ne_eqb _ _ e, add-one i) (omega arith)

  pub stop_end : (bs : Bytes) (i : ℕ) → length bs ≤ i → stop_from mark bs i ≡ i
  unfolding stop_from reach
  stop_end bs i l = rw (drop_of_length-le bs l) (omega arith)

  pub stop_within : (bs : Bytes) (at : ℕ) → at ≤ length bs → (at ≤ stop_from mark bs at) × (stop_from mark bs at ≤ length bs)
  unfolding stop_from
  stop_within bs at l = omega (arith, reach_most (drop at bs), length-drop at bs)

  pub next_more : (bs : Bytes) (at : ℕ) → stop_from mark bs at < length bs → next_from mark bs at ≡ stop_from mark bs at + 1
  unfolding next_from
  next_more bs at l = rw (lt-ltb _ _ l)

  pub next_last : (bs : Bytes) (at : ℕ) → length bs ≤ stop_from mark bs at → next_from mark bs at ≡ stop_from mark bs at
  unfolding next_from
  next_last bs at l = rw (le-ltb _ _ l)

  -- by whether a mark follows
  by_stop : (Q : ℕ → Type 0) (bs : Bytes) (at : ℕ)
      → (stop_from mark bs at < length bs → Q (stop_from mark bs at + 1))
      → (length bs ≤ stop_from mark bs at → Q (stop_from mark bs at))
      → Q (next_from mark bs at)
  unfolding next_from
  by_stop Q bs at more last =
      by_bool (λ t. Q (cond t (stop_from mark bs at + 1) (stop_from mark bs at))) (ltb (stop_from mark bs at) (length bs))
      (λ e. more (ltb-true _ _ e)) (λ e. last (ltb-false _ _ e))

  -- ---- the parts

  -- what follows the first part
  abbrev behind : Bytes → ℕ → List Bytes
  behind bs r = cond (ltb r (length bs)) (parted_by mark (drop (suc r) bs)) []

  parted : (bs : Bytes) → parted_by mark bs ≡ take (reach mark bs) bs ∷ behind bs (reach mark bs)
  unfolding reach
  parted [] = refl
  parted (b ∷ bs) =
      by_bool
      (λ t. cond t ([] ∷ parted_by mark bs) (in_front b (parted_by mark bs)) ≡ take (cond t 0 (1 + reach mark bs)) (b ∷ bs) ∷ behind (b ∷ bs) (cond t 0 (1 + reach mark bs)))
      (eqb b mark)
      (λ _. rw (lt-ltb 0 (suc (length bs)) (omega arith)))
      (λ _. rw (parted bs, one-add, leb-suc-suc))

  parted_more : (bs : Bytes) (at : ℕ) → stop_from mark bs at < length bs
      → parted_by mark (drop at bs) ≡ part_from mark bs at ∷ parted_by mark (drop (stop_from mark bs at + 1) bs)
  unfolding stop_from part_from
  parted_more bs at l =
      let r = reach mark (drop at bs) in
      let next : at + r + 1 ≡ at + suc r = omega arith in
      parted (drop at bs) ∙ rw (lt-ltb r (length (drop at bs)) (omega (arith, length-drop at bs)), next, drop-drop)

  parted_last : (bs : Bytes) (at : ℕ) → length bs ≤ stop_from mark bs at → parted_by mark (drop at bs) ≡ part_from mark bs at ∷ []
  unfolding stop_from part_from
  parted_last bs at l = parted (drop at bs) ∙ rw (le-ltb (reach mark (drop at bs)) (length (drop at bs)) (omega (arith, length-drop at bs)))

  -- a place is in the bytes, and so is the next; before the end the next is a further one
  pub next_within : (bs : Bytes) (at : ℕ) → at ≤ length bs → next_from mark bs at ≤ length bs
  next_within bs at h =
      by_stop (λ n. n ≤ length bs) bs at (λ l. omega arith) (λ l. omega (arith, stop_within bs at h))

  pub next_beyond : (bs : Bytes) (at : ℕ) → at < length bs → at < next_from mark bs at
  next_beyond bs at h =
      by_stop (λ n. at < n) bs at (λ l. omega (arith, stop_within bs at (omega arith))) (λ l. omega arith)

  -- the part as the code cuts it
  pub part_cut : (bs : Bytes) (at e : ℕ) → e ≡ stop_from mark bs at → take (e - at) (drop at bs) ≡ part_from mark bs at
  unfolding stop_from part_from
  part_cut bs at e q =
      let n : e - at ≡ reach mark (drop at bs) = omega arith in
      rw n

  -- a part that ends where the bytes do is not empty, unless it starts there
  part_long : (bs : Bytes) (at : ℕ) → at < length bs → length bs ≤ stop_from mark bs at → 0 < length (part_from mark bs at)
  unfolding stop_from part_from
  part_long bs at h l = omega (arith, length-take (reach mark (drop at bs)) (drop at bs), length-drop at bs)

  -- ---- the fields

  pub part_first : (bs : Bytes) (at : ℕ) → get_or (parted_by mark (drop at bs)) 0 [] ≡ part_from mark bs at
  unfolding part_from
  part_first bs at = rw (parted (drop at bs))

  -- past the fields there are only empty ones
  beyond : (k : ℕ) → get_or {A = Bytes} ([] ∷ []) k [] ≡ []
  beyond zero = refl
  beyond (suc k) = refl

  pub part_next : (bs : Bytes) (at k : ℕ) → at ≤ length bs
      → get_or (parted_by mark (drop at bs)) (suc k) [] ≡ get_or (parted_by mark (drop (next_from mark bs at) bs)) k []
  part_next bs at k h =
      by_stop (λ n. get_or (parted_by mark (drop at bs)) (suc k) [] ≡ get_or (parted_by mark (drop n bs)) k []) bs at
      (λ l. rw (parted_more bs at l))
      (λ l. rw (parted_last bs at l, drop_of_length-le bs l) (sym (beyond k)))

  -- one more part than there are marks
  behind_first : (bs : Bytes) → length (parted_by mark bs) - 1 ≡ count_by (λ b. eqb b mark) bs
  behind_first bs =
      is_count_by (λ bs. length (parted_by mark bs) - 1) (λ b. eqb b mark) refl
      (λ b bs.
      by_bool
      (λ t. length (cond t ([] ∷ parted_by mark bs) (in_front b (parted_by mark bs))) - 1 ≡ cond t (1 + (length (parted_by mark bs) - 1)) (length (parted_by mark bs) - 1))
      (eqb b mark) (λ _. omega (arith, ap length (parted bs))) (λ _. rw (parted bs)))
      bs

  pub marks_counted : (bs : Bytes) → 1 + count_by (λ b. eqb b mark) bs ≡ length (parted_by mark bs)
  marks_counted bs = omega (arith, behind_first bs, ap length (parted bs))

-- ---- the lines

pub lines_none : lines_of [] ≡ []
unfolding lines_of
lines_none = refl

-- past the end there is no line
pub lines_done : (sheet : Bytes) (at : ℕ) → length sheet ≤ at → lines_of (drop at sheet) ≡ []
lines_done sheet at h = rw (drop_of_length-le sheet h) lines_none

whole : (p : Bytes) → 0 < length p → without_empty_end (p ∷ []) ≡ p ∷ []
whole [] h = absurd (omega arith)
whole (b ∷ bs) h = refl

goes_on_lem : (p : Bytes) (bs : Bytes) → without_empty_end (p ∷ parted_by FEED bs) ≡ p ∷ without_empty_end (parted_by FEED bs)
goes_on_lem p bs = rw (parted FEED bs)

pub lines_more : (sheet : Bytes) (at : ℕ) → at < length sheet
    → lines_of (drop at sheet) ≡ line_of sheet at ∷ lines_of (drop (next_of sheet at) sheet)
unfolding lines_of
lines_more sheet at h =
    by_stop FEED (λ n. lines_of (drop at sheet) ≡ line_of sheet at ∷ lines_of (drop n sheet)) sheet at
    (λ l. rw (parted_more FEED sheet at l) (goes_on_lem (line_of sheet at) (drop (stop_from FEED sheet at + 1) sheet)))
    (λ l. rw (parted_last FEED sheet at l, drop_of_length-le sheet l) (whole (line_of sheet at) (part_long FEED sheet at h l)))
