-- The final test of a candidate: down the tree it counts what the meaning counts. Assumes nothing.
use Prim.Native.Nat.{ℕ, ◌<◌, min}
use native.Mathlib.Omega.{arith}
use native.Mathlib.Decide.{dec_lt}
use mathlib.Core.Path.{◌≡◌, sym, ap, ◌∙◌}
use mathlib.Core.Bool.{Bool, true, false, not, ◌&&◌}
use mathlib.Core.List.{List}
use lib.Dec.{eqb, ltb}
use lib.ListN.{length}
use borrow.Author.Tests.{lt-ltb, le-ltb}
use Rattle.words.specs.Word.{IsWord}
use Rattle.grid.specs.declared.place.Place.{Place}
use Rattle.grid.specs.Place.{dist²}
use Rattle.grid.specs.declared.site.Site.{Site}
use Rattle.grid.specs.Site.{place_of}
use Rattle.grid.specs.AsNear.{as_near_to}
use Rattle.grid.proofs.Sites.{SiteOnGrid}
use Rattle.order.specs.Lists.{count, join, All}
use Rattle.order.proofs.Lists.{count_most, count_map, count_same}
use Rattle.order.proofs.Order.{up_all}
use Rattle.table.specs.declared.node.Entry.{Entry}
use Rattle.figures.specs.Figures.{SLOTS, LENGTH}
use Rattle.table.specs.Words.{Words, root_of}
use Rattle.table.specs.Slots.{slots, level_at}
use Rattle.table.specs.Stations.{station_of_entry, stations, is_point}
use Rattle.rules.specs.Rules.{leaf_entries, is_empty, well_formed}
use Rattle.order.proofs.Lists.{all_then}
use Rattle.rules.proofs.Joined.{all_join}
use Rattle.rules.proofs.Passed.{passed}
use Rattle.rules.proofs.EachRule.{points_fact}
use Rattle.rules.proofs.FromRules.{part_fits}
use Rattle.rules.proofs.Enrolled.{stations_length, stations_leaves}
use Rattle.rules.proofs.Reading.{Point, point}
use Rattle.filter.specs.Meaning.{as_near_other, answers_to}
use Rattle.filter.specs.Walk.{spot_in}
use Rattle.vetting.specs.Test.{other_as_near, passes, below}
use Rattle.filter.proofs.Answers.{as_near_site, stations_empty}
use Rattle.vetting.proofs.Below.{root_count}

-- ---- down the tree

count_zero : {A : Type 0} (P : A → Bool) (xs : List A) → length xs ≡ 0 → count P xs ≡ 0
count_zero P xs h = omega (arith, count_most P xs)

-- what stops at k is below k where all is
most_below : (k c : ℕ) → ltb (min k c) k ≡ ltb c k
most_below k c =
    elim (dec_lt c k) [
      | yes h ↦ lt-ltb (min k c) k (omega arith) ∙ sym (lt-ltb c k h)
      | no h ↦ le-ltb (min k c) k (omega arith) ∙ sym (le-ltb c k (omega arith))
    ]

module _ (ws : Words) (number : ℕ) (p : Place) (far k : ℕ) where
  pub passes_empty : is_empty ws ≡ true → ltb 0 k ≡ passes ws number p far k
  unfolding passes
  passes_empty e =
      ap (λ (n : ℕ). ltb n k)
      (sym (count_zero (other_as_near number p far) (join (leaf_entries ws) slots) (sym (stations_length ws) ∙ ap length (stations_empty ws e))))

  pub passes_root : (long : length ws ≡ LENGTH) (fits : All IsWord ws) (w : well_formed ws ≡ true) → is_empty ws ≡ false
      → (root level : ℕ) → root ≡ root_of ws → level ≡ level_at ws root → (found : ℕ) → found ≡ min k (count (other_as_near number p far) (below level ws root))
      → ltb found k ≡ passes ws number p far k
  unfolding passes
  passes_root long fits w e root level is_root isLevel found f =
      ap (λ (n : ℕ). ltb n k) f
      ∙ most_below k (count (other_as_near number p far) (below level ws root))
      ∙ ap (λ (n : ℕ). ltb n k) (root_count ws long fits w e root level is_root isLevel (other_as_near number p far))

-- ---- it is the test of the meaning

-- of two points
other_same : (q : Site) → SiteOnGrid q → (c e : Entry) → Point c → Point e
    → other_as_near e.reference (spot_in e) (dist² (place_of q) (spot_in e)) c ≡ as_near_other q (station_of_entry e) (station_of_entry c)
unfolding other_as_near as_near_other as_near_to
other_same q g c e pc pe = ap (λ b. not (eqb c.reference e.reference) && b) (as_near_site q g c e pc pe)

module _ (ws : Words) (long : length ws ≡ LENGTH) (fits : All IsWord ws) (w : well_formed ws ≡ true) where
  leaf_points : (s : ℕ) → s < SLOTS → All (λ e. is_point e ≡ true) (leaf_entries ws s)
  leaf_points s h = points_fact ws s ((passed ws w).four s h)

  pub all_points : All Point (join (leaf_entries ws) slots)
  all_points =
      all_then (λ e. is_point e ≡ true) Point point (join (leaf_entries ws) slots)
      (all_join (λ e. is_point e ≡ true) (leaf_entries ws) slots
      (up_all (λ s. All (λ e. is_point e ≡ true) (leaf_entries ws s)) 0 SLOTS (λ s l u. leaf_points s u)))

  pub passes_answers : (q : Site) → SiteOnGrid q → (k : ℕ) (e : Entry) → is_point e ≡ true
      → passes ws e.reference (spot_in e) (dist² (place_of q) (spot_in e)) k ≡ answers_to (stations ws) q k (station_of_entry e)
  unfolding passes answers_to
  passes_answers q g k e pe =
      let L = join (leaf_entries ws) slots in
      let near = as_near_other q (station_of_entry e) in
      ap (λ (n : ℕ). ltb n k)
      (count_same (other_as_near e.reference (spot_in e) (dist² (place_of q) (spot_in e))) (λ c. near (station_of_entry c)) L
      (all_then Point (λ c. other_as_near e.reference (spot_in e) (dist² (place_of q) (spot_in e)) c ≡ near (station_of_entry c)) (λ c pc. other_same q g c e pc (point e pe)) L all_points)
      ∙ sym (count_map near station_of_entry L)
      ∙ ap (count near) (sym (stations_leaves ws (λ s h. part_fits ws fits s))))
