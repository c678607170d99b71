-- The counts of many places, one after the other: a place's count from what its query promises, and each count laid behind those before it. Assumes nothing.
use Prim.Native.Nat.{ℕ, zero, suc, ◌≤◌, ◌<◌, min}
use native.Mathlib.Omega.{arith}
use native.Mathlib.Decide.{dec_le}
use mathlib.Core.Path.{◌≡◌, refl, sym, ap, ◌∙◌}
use mathlib.Core.List.{List, [], ◌∷◌, ◌++◌, map, zip_with}
use lib.IntN.{ℤ, pos}
use lib.ListN.{length, get_or, take, set, length-map, get_or-map}
use lib.Seq.{take-suc, take_all, length-take-le}
use Rattle.limits.proofs.Refused.{if_refused}
use Rattle.words.specs.Word.{nat_of}
use Rattle.grid.specs.declared.site.Site.{Site}
use Rattle.grid.specs.Site.{site}
use Rattle.table.specs.Given.{Given, Done}
use Rattle.figures.specs.Figures.{MOST}
use Rattle.table.specs.Words.{Words}
use Rattle.audit.specs.Check.{check_gives}
use Rattle.filter.specs.Query.{answers_found, laid_over}
use Rattle.filter.proofs.RowLaws.{laid_set}
use Rattle.asking.specs.Slate.{Slate}
use Rattle.refusals.specs.Told.{Answered}
use Rattle.refusals.specs.Refusals.{query_gives}
use Rattle.desk.specs.Calls.{after_query}
use Rattle.desk.specs.Alone.{AnswersAlone}
use Rattle.desk.proofs.CallAlone.{blank_long}
use Rattle.desk.proofs.Granted.{query_granted}
use Rattle.export.specs.Sites.{sites_of, site_count, counts_at, counts_over, sites_after}
use Rattle.export.proofs.Telling.{check_refuses, check_passes}

-- ---- one place

module _ {ws : Words} {q : Site} {k : ℤ} {s t : Slate} {old new : List ℕ} {r : Answered} (size : length old ≡ MOST) (told : AnswersAlone ws q k s t old new r) where
  -- the query that is told has two lists of 500
  given_most : r.given ≡ query_gives ws q k MOST MOST
  unfolding after_query
  given_most = told.given ∙ rw (blank_long, size)

  pub count_refused : (r.given ≡ Done → ⊥) → 0 ≡ site_count ws k q
  unfolding site_count
  count_refused d = sym (if_refused (query_gives ws q k MOST MOST) (λ h. d (given_most ∙ h)) _ _)

  module _ (done : r.given ≡ Done) where
    granted : query_gives ws q k MOST MOST ≡ Done
    granted = sym given_most ∙ done

    told_n : r.n ≡ length (answers_found ws q (nat_of k))
    unfolding after_query
    told_n = ap (λ t. t.n) told.counts ∙ rw (blank_long, size, granted)

    pub count_few : r.n ≤ MOST
    count_few = omega (arith, told_n, (query_granted ws q k MOST MOST granted).1)

    pub count_done : r.n ≡ site_count ws k q
    unfolding site_count
    count_done = rw granted told_n

-- ---- all of them

abbrev here : List ℤ → List ℤ → ℕ → Site
here xs ys i = site (get_or xs i (pos 0)) (get_or ys i (pos 0))

sites_length : (xs ys : List ℤ) → length (sites_of xs ys) ≡ min (length xs) (length ys)
unfolding zip_with
sites_length [] ys = omega arith
sites_length (x ∷ xs) [] = omega arith
sites_length (x ∷ xs) (y ∷ ys) = omega (arith, sites_length xs ys)

sites_at : (xs ys : List ℤ) (i : ℕ) → i < length xs → i < length ys → get_or (sites_of xs ys) i (site (pos 0) (pos 0)) ≡ here xs ys i
unfolding zip_with
sites_at [] ys i a b = absurd (omega arith)
sites_at (x ∷ xs) [] i a b = absurd (omega arith)
sites_at (x ∷ xs) (y ∷ ys) zero a b = refl
sites_at (x ∷ xs) (y ∷ ys) (suc i) a b = sites_at xs ys i (omega arith) (omega arith)

module _ (ws : Words) (k : ℤ) (xs ys : List ℤ) where
  abbrev all : List ℕ
  all = map (site_count ws k) (sites_of xs ys)

  all_length : length all ≡ min (length xs) (length ys)
  all_length = length-map (sites_of xs ys) (site_count ws k) ∙ sites_length xs ys

  pub counts_start : (row : List ℕ) → row ≡ laid_over (counts_at ws k xs ys 0) row
  unfolding counts_at
  counts_start row = refl

  -- one more is laid behind those before it
  pub counts_step : (row now : List ℕ) (i v : ℕ) → i < length xs → i < length ys → i < length row → now ≡ laid_over (counts_at ws k xs ys i) row
      → v ≡ site_count ws k (here xs ys i) → set now i v ≡ laid_over (counts_at ws k xs ys (suc i)) row
  unfolding counts_at
  counts_step row now i v a b low e f =
      let nowhere = site (pos 0) (pos 0) in
      let long : length (take i all) ≡ i = length-take-le i all (omega (arith, all_length)) in
      let last : get_or all i (site_count ws k nowhere) ≡ v = get_or-map (site_count ws k) (sites_of xs ys) i nowhere ∙ ap (site_count ws k) (sites_at xs ys i a b) ∙ sym f in
      let more : take (suc i) all ≡ take i all ++ v ∷ [] = take-suc all i (site_count ws k nowhere) (omega (arith, all_length)) ∙ ap (λ w. take i all ++ w ∷ []) last in
      ap (λ l. set l i v) e
      ∙ ap (λ n. set (laid_over (take i all) row) n v) (sym long)
      ∙ laid_set (take i all) row v (omega (arith, long))
      ∙ ap (λ l. laid_over l row) (sym more)

  -- where the shortest ends, all are laid for which there is a place and room
  pub counts_end : (row : List ℕ) (n : ℕ) → n ≡ min (min (length xs) (length ys)) (length row) → laid_over (counts_at ws k xs ys n) row ≡ counts_over ws k xs ys row
  unfolding counts_at
  counts_end row n e = ap (λ l. laid_over l row) (ends (dec_le (length row) (min (length xs) (length ys))))
    where
      ends : Dec (length row ≤ min (length xs) (length ys)) → take n all ≡ take (length row) all
      ends (yes h) = let same : n ≡ length row = omega arith in ap (λ m. take m all) same
      ends (no h) = take_all n all (omega (arith, all_length)) ∙ sym (take_all (length row) all (omega (arith, all_length)))

  -- ---- the whole call

  module _ (row : List ℕ) {g : Given} (e : g ≡ check_gives ws) where
    pub sites_refused : (g ≡ Done → ⊥) → row ≡ sites_after ws k xs ys row
    unfolding sites_after
    sites_refused d = check_refuses ws e d (counts_over ws k xs ys row) row

    pub sites_done : g ≡ Done → counts_over ws k xs ys row ≡ sites_after ws k xs ys row
    unfolding sites_after
    sites_done d = check_passes ws e d (counts_over ws k xs ys row) row
