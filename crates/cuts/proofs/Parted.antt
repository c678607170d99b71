-- The laws of cuts: where a part ends, byte by byte, and the parts that the cuts leave, by recursion on the bytes. Assumes nothing.
use Prim.Native.Nat.{ℕ, zero, suc, ◌+◌, ◌-◌, ◌%◌, ◌≤◌, ◌<◌}
use mathlib.Core.Path.{◌≡◌, refl, sym, ap, ◌∙◌}
use mathlib.Core.Bool.{Bool, true, cond, not, ◌&&◌, false≢true}
use mathlib.Core.List.{[], ◌∷◌}
use native.Mathlib.Omega.{arith}
use native.Mathlib.Nat.{add_assoc, add-zero, zero-add}
use native.Mathlib.Numerals.{one-add}
use lib.Dec.{eqb, ltb}
use lib.ListN.{length, take, drop, get_or, length-take, length-drop, drop_of_length-le}
use lib.Seq.{drop-drop, take_all}
use borrow.Author.Tests.{eq-eqb, ne_eqb, eqb-true, eqb-false, lt-ltb, le-ltb, ltb-true, ltb-false}
use Rattle.order.specs.Lists.{one, first_place}
use Rattle.order.specs.Order.{up_from}
use Rattle.order.proofs.Lists.{by_bool, and_left}
use Rattle.sheet.specs.Bytes.{Bytes, without_empty_end}
use Rattle.cuts.specs.declared.parts.Mark.{Mark}
use Rattle.cuts.specs.declared.parts.Mark.TheVariants.{LineEnd, Comma}
use Rattle.cuts.specs.Cuts.{QUOTE, marked, width, quote_marks, is_even, end_of, parts_in, parts_of, records_of}
use Rattle.cuts.specs.Places.{crossed, stop_at, part_at, next_at}

-- how many bytes stand before the cut, where `even` says whether an even number of quote marks has been passed
abbrev pub reach_from : Mark → Bool → Bytes → ℕ
reach_from mark even [] = 0
reach_from mark even (b ∷ bs) = cond (marked mark (b ∷ bs) && even) 0 (1 + reach_from mark (crossed b even) bs)

-- ---- the first place, byte by byte

-- the places one up
place_up : (P Q : ℕ → Bool) → ((i : ℕ) → P (suc i) ≡ Q i) → (a n : ℕ) → first_place P (up_from (suc a) n) ≡ first_place Q (up_from a n)
place_up P Q h a zero = refl
place_up P Q h a (suc n) = rw (h a, place_up P Q h (suc a) n)

even_next : (k : ℕ) → is_even (k + 1) ≡ not (is_even k)
even_next k =
    by_bool (λ t. eqb (k % 2) 0 ≡ t → is_even (k + 1) ≡ not t) (eqb (k % 2) 0)
    (λ e f. ne_eqb ((k + 1) % 2) 0 (λ z. omega (arith, eqb-true (k % 2) 0 e)))
    (λ e f. eq-eqb ((k + 1) % 2) 0 (omega (arith, eqb-false (k % 2) 0 e)))
    refl

even_crossed : (k b : ℕ) → is_even (k + one (eqb b QUOTE)) ≡ crossed b (is_even k)
even_crossed k b =
    by_bool (λ t. is_even (k + one t) ≡ cond t (not (is_even k)) (is_even k)) (eqb b QUOTE)
    (λ e. even_next k) (λ e. ap is_even (add-zero k))

module _ (mark : Mark) where
  -- behind k quote marks
  reach_behind : (k : ℕ) (bs : Bytes)
      → first_place (λ i. marked mark (drop i bs) && is_even (k + quote_marks (take i bs))) (up_from 0 (length bs)) ≡ reach_from mark (is_even k) bs
  reach_behind k [] = refl
  reach_behind k (b ∷ bs) =
      let q = one (eqb b QUOTE) in
      let rest =
      place_up
      (λ i. marked mark (drop i (b ∷ bs)) && is_even (k + quote_marks (take i (b ∷ bs))))
      (λ i. marked mark (drop i bs) && is_even (k + q + quote_marks (take i bs)))
      (λ i. ap (λ (n : ℕ). marked mark (drop i bs) && is_even n) (sym (add_assoc k q (quote_marks (take i bs)))))
      0 (length bs) in
      rw (rest, reach_behind (k + q) bs, even_crossed k b, add-zero k)

  pub end_reach : (bs : Bytes) → end_of mark bs ≡ reach_from mark true bs
  unfolding end_of
  end_reach bs = simp zero-add at (reach_behind 0 bs)

  -- ---- how far it is

  pub reach_most : (even : Bool) (bs : Bytes) → reach_from mark even bs ≤ length bs
  reach_most even [] = omega arith
  reach_most even (b ∷ bs) =
      by_bool (λ t. cond t 0 (1 + reach_from mark (crossed b even) bs) ≤ suc (length bs)) (marked mark (b ∷ bs) && even)
      (λ _. omega arith) (λ _. omega (arith, reach_most (crossed b even) bs))

  reach_marked : (even : Bool) (bs : Bytes) → reach_from mark even bs < length bs → marked mark (drop (reach_from mark even bs) bs) ≡ true
  reach_marked even [] h = absurd (omega arith)
  reach_marked even (b ∷ bs) h =
      let r = reach_from mark (crossed b even) bs in
      let ih : r < length bs → marked mark (drop r bs) ≡ true = reach_marked (crossed b even) bs in
      by_bool
      (λ t. (marked mark (b ∷ bs) && even) ≡ t → cond t 0 (1 + r) < suc (length bs) → marked mark (drop (cond t 0 (1 + r)) (b ∷ bs)) ≡ true)
      (marked mark (b ∷ bs) && even)
      (λ e _ _. and_left _ _ e)
      (λ e _ l. rw one-add (ih (omega arith)))
      refl h

  pub end_most : (bs : Bytes) → end_of mark bs ≤ length bs
  end_most bs = rw (end_reach bs) (reach_most true bs)

  pub end_marked : (bs : Bytes) → end_of mark bs < length bs → marked mark (drop (end_of mark bs) bs) ≡ true
  end_marked bs h = rw (end_reach bs) (reach_marked true bs (omega (arith, end_reach bs)))

-- a mark takes room
mark_room : (mark : Mark) (bs : Bytes) → marked mark bs ≡ true → width mark ≤ length bs
mark_room LineEnd [] h = absurd (false≢true h)
mark_room LineEnd (b ∷ []) h = absurd (false≢true h)
mark_room LineEnd (b ∷ c ∷ bs) h = omega arith
mark_room Comma [] h = absurd (false≢true h)
mark_room Comma (b ∷ bs) h = omega arith

width_some : (mark : Mark) → 1 ≤ width mark
width_some LineEnd = omega arith
width_some Comma = omega arith

module _ (mark : Mark) where
  pub end_room : (bs : Bytes) → end_of mark bs < length bs → end_of mark bs + width mark ≤ length bs
  end_room bs h = omega (arith, mark_room mark (drop (end_of mark bs) bs) (end_marked mark bs h), length-drop (end_of mark bs) bs)

  -- ---- the parts

  -- that many parts are enough
  parts_same : (n m : ℕ) (bs : Bytes) → length bs ≤ n → length bs ≤ m → parts_in n mark bs ≡ parts_in m mark bs
  parts_same zero zero bs h k = refl
  parts_same zero (suc m) bs h k = rw (le-ltb (end_of mark bs) (length bs) (omega arith))
  parts_same (suc n) zero bs h k = rw (le-ltb (end_of mark bs) (length bs) (omega arith))
  parts_same (suc n) (suc m) bs h k =
      let rest = drop (end_of mark bs + width mark) bs in
      let short : length rest ≤ length bs - 1 = omega (arith, width_some mark, length-drop (end_of mark bs + width mark) bs) in
      rw (parts_same n m rest (omega arith) (omega arith))

  -- the first part, and those behind it
  parts_step : (bs : Bytes)
      → parts_of mark bs ≡ cond (ltb (end_of mark bs) (length bs)) (take (end_of mark bs) bs ∷ parts_of mark (drop (end_of mark bs + width mark) bs)) (bs ∷ [])
  unfolding parts_of
  parts_step bs =
      let rest = drop (end_of mark bs + width mark) bs in
      let short : length rest ≤ length bs = omega (arith, length-drop (end_of mark bs + width mark) bs) in
      parts_same (length bs) (suc (length bs)) bs (omega arith) (omega arith)
      ∙ rw (parts_same (length bs) (length rest) rest short (omega arith))

  pub parts_more : (bs : Bytes) → end_of mark bs < length bs
      → parts_of mark bs ≡ take (end_of mark bs) bs ∷ parts_of mark (drop (end_of mark bs + width mark) bs)
  parts_more bs h = parts_step bs ∙ rw (lt-ltb _ _ h)

  pub parts_last : (bs : Bytes) → length bs ≤ end_of mark bs → parts_of mark bs ≡ bs ∷ []
  parts_last bs h = parts_step bs ∙ rw (le-ltb _ _ h)

  -- ---- from a place on

  pub stop_within : (bs : Bytes) (at : ℕ) → at ≤ length bs → (at ≤ stop_at mark bs at) × (stop_at mark bs at ≤ length bs)
  unfolding stop_at
  stop_within bs at h = omega (arith, end_most mark (drop at bs), length-drop at bs)

  pub stop_room : (bs : Bytes) (at : ℕ) → stop_at mark bs at < length bs → stop_at mark bs at + width mark ≤ length bs
  unfolding stop_at
  stop_room bs at h = omega (arith, end_room (drop at bs) (omega (arith, length-drop at bs)), length-drop at bs)

  pub next_more : (bs : Bytes) (at : ℕ) → stop_at mark bs at < length bs → next_at mark bs at ≡ stop_at mark bs at + width mark
  unfolding next_at
  next_more bs at h = rw (lt-ltb _ _ h)

  pub next_last : (bs : Bytes) (at : ℕ) → length bs ≤ stop_at mark bs at → next_at mark bs at ≡ stop_at mark bs at
  unfolding next_at
  next_last bs at h = rw (le-ltb _ _ h)

  -- by whether a mark follows
  by_stop : (Q : ℕ → Type 0) (bs : Bytes) (at : ℕ)
      → (stop_at mark bs at < length bs → Q (stop_at mark bs at + width mark))
      → (length bs ≤ stop_at mark bs at → Q (stop_at mark bs at))
      → Q (next_at mark bs at)
  unfolding next_at
  by_stop Q bs at more last =
      by_bool (λ t. Q (cond t (stop_at mark bs at + width mark) (stop_at mark bs at))) (ltb (stop_at mark bs at) (length bs))
      (λ e. more (ltb-true _ _ e)) (λ e. last (ltb-false _ _ e))

  from_more : (bs : Bytes) (at : ℕ) → stop_at mark bs at < length bs
      → parts_of mark (drop at bs) ≡ part_at mark bs at ∷ parts_of mark (drop (stop_at mark bs at + width mark) bs)
  unfolding stop_at part_at
  from_more bs at h =
      let r = end_of mark (drop at bs) in
      let next : at + r + width mark ≡ at + (r + width mark) = omega arith in
      parts_more (drop at bs) (omega (arith, length-drop at bs)) ∙ rw (next, drop-drop)

  from_last : (bs : Bytes) (at : ℕ) → length bs ≤ stop_at mark bs at → parts_of mark (drop at bs) ≡ part_at mark bs at ∷ []
  unfolding stop_at part_at
  from_last bs at h =
      let l : length (drop at bs) ≤ end_of mark (drop at bs) = omega (arith, length-drop at bs) in
      parts_last (drop at bs) l ∙ rw (take_all _ _ l)

  -- a place is in the bytes, and so is the next; before the end the next is a further one
  pub next_within : (bs : Bytes) (at : ℕ) → at ≤ length bs → next_at mark bs at ≤ length bs
  next_within bs at h =
      by_stop (λ n. n ≤ length bs) bs at (λ l. stop_room bs at l) (λ l. omega (arith, stop_within bs at h))

  pub next_beyond : (bs : Bytes) (at : ℕ) → at < length bs → at < next_at mark bs at
  next_beyond bs at h =
      by_stop (λ n. at < n) bs at (λ l. omega (arith, width_some mark, stop_within bs at (omega arith))) (λ l. omega arith)

  -- the part as the code cuts it
  pub part_cut : (bs : Bytes) (at e : ℕ) → e ≡ stop_at mark bs at → take (e - at) (drop at bs) ≡ part_at mark bs at
  unfolding stop_at part_at
  part_cut bs at e q =
      let n : e - at ≡ end_of mark (drop at bs) = omega arith in
      rw n

  -- a part that ends where the bytes do is not empty, unless it starts there
  part_long : (bs : Bytes) (at : ℕ) → at < length bs → length bs ≤ stop_at mark bs at → 0 < length (part_at mark bs at)
  unfolding stop_at part_at
  part_long bs at h l = omega (arith, length-take (end_of mark (drop at bs)) (drop at bs), length-drop at bs)

  pub part_first : (bs : Bytes) (at : ℕ) → get_or (parts_of mark (drop at bs)) 0 [] ≡ part_at mark bs at
  part_first bs at =
      by_stop (λ _. get_or (parts_of mark (drop at bs)) 0 [] ≡ part_at mark bs at) bs at
      (λ l. rw (from_more bs at l)) (λ l. rw (from_last bs at l))

  parts_none : parts_of mark [] ≡ [] ∷ []
  parts_none = parts_last [] (omega arith)

  -- past the parts there are only empty ones
  beyond : (k : ℕ) → get_or (parts_of mark []) k [] ≡ []
  beyond zero = rw parts_none
  beyond (suc k) = rw parts_none

  pub part_next : (bs : Bytes) (at k : ℕ) → get_or (parts_of mark (drop at bs)) (suc k) [] ≡ get_or (parts_of mark (drop (next_at mark bs at) bs)) k []
  part_next bs at k =
      by_stop (λ n. get_or (parts_of mark (drop at bs)) (suc k) [] ≡ get_or (parts_of mark (drop n bs)) k []) bs at
      (λ l. rw (from_more bs at l)) (λ l. rw (from_last bs at l, drop_of_length-le bs l) (sym (beyond k)))

  -- how many parts there are behind a place where one ends
  abbrev pub behind : Bytes → ℕ → ℕ
  behind bs stop = cond (ltb stop (length bs)) (length (parts_of mark (drop (stop + width mark) bs))) 0

  pub behind_some : (bs : Bytes) (stop : ℕ) → stop < length bs → behind bs stop ≡ length (parts_of mark (drop (stop + width mark) bs))
  behind_some bs stop h = rw (lt-ltb _ _ h)

  pub parts_count : (bs : Bytes) (at : ℕ) → length (parts_of mark (drop at bs)) ≡ 1 + behind bs (stop_at mark bs at)
  parts_count bs at =
      by_stop (λ _. length (parts_of mark (drop at bs)) ≡ 1 + behind bs (stop_at mark bs at)) bs at
      (λ l. rw (from_more bs at l, lt-ltb _ _ l) (omega arith)) (λ l. rw (from_last bs at l, le-ltb _ _ l) (omega arith))

-- ---- the records

records_none : records_of [] ≡ []
unfolding records_of
records_none = rw (parts_last LineEnd [] (omega arith))

-- past the end there is no record
pub records_done : (file : Bytes) (at : ℕ) → length file ≤ at → records_of (drop at file) ≡ []
records_done file at h = rw (drop_of_length-le file h) records_none

whole : (p : Bytes) → 0 < length p → without_empty_end (p ∷ []) ≡ p ∷ []
whole [] h = absurd (omega arith)
whole (b ∷ bs) h = refl

goes_on_lem : (p : Bytes) (bs : Bytes) → without_empty_end (p ∷ parts_of LineEnd bs) ≡ p ∷ without_empty_end (parts_of LineEnd bs)
goes_on_lem p bs =
    rw (parts_step LineEnd bs)
    (by_bool
    (λ t. without_empty_end (p ∷ cond t (take (end_of LineEnd bs) bs ∷ parts_of LineEnd (drop (end_of LineEnd bs + 2) bs)) (bs ∷ []))
    ≡ p ∷ without_empty_end (cond t (take (end_of LineEnd bs) bs ∷ parts_of LineEnd (drop (end_of LineEnd bs + 2) bs)) (bs ∷ [])))
    (ltb (end_of LineEnd bs) (length bs)) (λ _. refl) (λ _. refl))

pub records_more : (file : Bytes) (at : ℕ) → at < length file
    → records_of (drop at file) ≡ part_at LineEnd file at ∷ records_of (drop (next_at LineEnd file at) file)
unfolding records_of
records_more file at h =
    by_stop LineEnd (λ n. records_of (drop at file) ≡ part_at LineEnd file at ∷ records_of (drop n file)) file at
    (λ l. rw (from_more LineEnd file at l) (goes_on_lem (part_at LineEnd file at) (drop (stop_at LineEnd file at + 2) file)))
    (λ l. rw (from_last LineEnd file at l, drop_of_length-le file l, records_none) (whole (part_at LineEnd file at) (part_long LineEnd file at h l)))
