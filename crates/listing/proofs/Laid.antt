-- A candidate read back from the rows; and the loop that hands the candidates over: what stands in the list after i turns. Assumes nothing.
use Prim.Native.Nat.{ℕ, ◌+◌, ◌<◌}
use native.Mathlib.Omega.{arith}
use mathlib.Core.Path.{◌≡◌, refl, sym, ap, ◌∙◌}
use mathlib.Core.List.{List, [], ◌∷◌, ◌++◌, map, map-append}
use lib.ListN.{length, set, length-map}
use Rattle.grid.specs.declared.site.Site.{Site}
use Rattle.order.specs.Order.{up_from}
use Rattle.order.proofs.Order.{up_length}
use Rattle.rules.proofs.Counted.{up_append}
use Rattle.filter.specs.Query.{laid_over}
use Rattle.filter.proofs.RowLaws.{laid_set}
use Rattle.record.specs.declared.Candidate.{Candidate}
use Rattle.listing.specs.Records.{candidate_in, candidates_in}

map_more : {A : Type 0} (f : ℕ → A) (i : ℕ) → map f (up_from 0 (i + 1)) ≡ map f (up_from 0 i) ++ f i ∷ []
map_more f i =
    let z : 0 + i ≡ i = omega arith in
    ap (map f) (up_append 0 i 1 ∙ ap (λ (n : ℕ). up_from 0 i ++ n ∷ []) z) ∙ map-append f (up_from 0 i) (i ∷ [])

module _ (q : Site) (ns xs ys : List ℕ) where
  candidates_many : (m : ℕ) → length (candidates_in q ns xs ys m) ≡ m
  unfolding candidates_in
  candidates_many m = length-map (up_from 0 m) (candidate_in q ns xs ys) ∙ up_length 0 m

  pub hand_start : (old : List Candidate) → old ≡ laid_over (candidates_in q ns xs ys 0) old
  unfolding candidates_in
  hand_start old = refl

  -- the next record is appended
  pub hand_step : (i : ℕ) (old here : List Candidate) → i < length old → here ≡ laid_over (candidates_in q ns xs ys i) old
      → set here i (candidate_in q ns xs ys i) ≡ laid_over (candidates_in q ns xs ys (i + 1)) old
  unfolding candidates_in
  hand_step i old here h e =
      let c : ℕ → Candidate = candidate_in q ns xs ys in
      let new = map c (up_from 0 i) in
      let n : length new ≡ i = candidates_many i in
      ap (λ (l : List Candidate). set l i (c i)) e
      ∙ ap (λ (j : ℕ). set (laid_over new old) j (c i)) (sym n)
      ∙ laid_set new old (c i) (omega (arith, n))
      ∙ ap (λ (l : List Candidate). laid_over l old) (sym (map_more c i))
