-- What a table that holds a sound tree has: its used slots are the tree's, its other slots are free and eight at least, and its stations are the tree's points. Assumes nothing.
use Prim.Native.Nat.{ℕ, ◌-◌, ◌≤◌, ◌<◌}
use native.Mathlib.Omega.{arith}
use native.Mathlib.Nat.{lt_of_le_of_lt}
use mathlib.Core.Path.{◌≡◌, refl, sym, ap, subst, ◌∙◌}
use mathlib.Core.Bool.{true, false, false≢true, ◌&&◌}
use mathlib.Core.List.Memᴰ
use mathlib.Core.List.{List, [], ◌∷◌, map}
use lib.Dec.{eqb}
use lib.ListN.{length}
use Rattle.words.specs.Word.{IsWord}
use Rattle.order.specs.Lists.{every, filter, Mem, All}
use Rattle.order.specs.Order.{Perm}
use Rattle.order.proofs.Perm.{psym, perm_map, perm_length}
use Rattle.order.proofs.Lists.{filter_mem}
use Rattle.order.proofs.Order.{up_all}
use Rattle.figures.specs.Figures.{SLOTS}
use Rattle.table.specs.Words.{Words, is_minus_one, points_of, part_at}
use Rattle.table.specs.Page.{Page, page, page_words, free_words}
use Rattle.table.specs.Slots.{slots, is_free, lowest_free}
use Rattle.table.specs.Stations.{station_of_entry, stations}
use Rattle.rules.specs.Rules.{is_empty}
use Rattle.table.specs.Tree.{Tree, entries_of_tree, slots_of, leaves_of, least_of, Sound, Holds}
use Rattle.table.proofs.Slots.{free_part_free, lowest_least}
use Rattle.rules.proofs.Tests.{by_test}
use Rattle.rules.proofs.Joined.{all_join}
use Rattle.rules.proofs.Counted.{number_in, up_mem}
use Rattle.rules.proofs.Size.{sound_bounds}
use Rattle.rules.proofs.Reading.{good_root, page_fits, stored_part, held_points, top_inside}
use Rattle.rules.proofs.AsRead.{read_good, read_slot}
use Rattle.rules.proofs.Complete.{Complete, leaves_perm, free_count_lem}
use Rattle.rules.proofs.Subtrees.{Subtree, subtree}
use Rattle.rules.proofs.PartWords.{free_fits, page_words_fit}
use Rattle.rules.proofs.EmptyTable.{table_parts}
use Rattle.rules.proofs.Enrolled.{stations_length, stations_leaves}

-- ---- the lowest free slot

first_in : {A : Type 0} (xs : List A) → 1 ≤ length xs → (x : A) × Mem x xs
first_in [] h = absurd (omega arith)
first_in (x ∷ xs) h = (x, Memᴰ.head refl)

-- where some slot is free, the lowest is one
pub lowest_inside : (ws : Words) → 1 ≤ length (filter (is_free ws) slots) → lowest_free ws < SLOTS
lowest_inside ws h =
    let x = first_in (filter (is_free ws) slots) h in
    let f = filter_mem (is_free ws) slots x.1 in
    let lt : x.0 < SLOTS = (up_mem x.0 0 SLOTS f.0).1 in
    lt_of_le_of_lt (lowest_least ws x.0 lt f.1) lt

module _ {ws : Words} {l : ℕ} {t : Tree l} (h : Holds ws l t) (g : Sound l t) where
  -- ---- its slots

  pub used_in_tree : (s : ℕ) → s < SLOTS → is_free ws s ≡ false → Mem s (slots_of l t)
  used_in_tree s lt u =
      elim (number_in s (slots_of l t)) [
        | yes m ↦ m
        | no n ↦ absurd (false≢true (sym u ∙ free_part_free ws s (h.others s lt n)))
      ]

  pub held_complete : Complete ws l t
  held_complete = record { read = read_good ws (good_root g) h.stored; apart = g.apart; all = used_in_tree }

  pub tree_inside : (s : ℕ) → Mem s (slots_of l t) → s < SLOTS
  tree_inside s m = (read_slot ws l t held_complete.read m).1.inside

  pub tree_used : (s : ℕ) → Mem s (slots_of l t) → is_free ws s ≡ false
  tree_used s m = (read_slot ws l t held_complete.read m).1.used

  pub free_outside : (s : ℕ) → is_free ws s ≡ true → Mem s (slots_of l t) → ⊥
  free_outside s f m = false≢true (sym (tree_used s m) ∙ f)

  pub free_part_here : (s : ℕ) → s < SLOTS → is_free ws s ≡ true → part_at ws s ≡ free_words
  free_part_here s lt f = h.others s lt (free_outside s f)

  -- each used slot is the top of a subtree
  pub subtree_here : (s : ℕ) → s < SLOTS → is_free ws s ≡ false → Subtree ws (least_of l) l t s
  subtree_here s lt u = subtree ws (good_root g) h.stored s (used_in_tree s lt u)

  -- ---- how many

  pub free_number : length (filter (is_free ws) slots) ≡ SLOTS - length (slots_of l t)
  free_number = free_count_lem held_complete

  pub eight_free : 8 ≤ length (filter (is_free ws) slots)
  eight_free = subst (λ n. 8 ≤ n) (sym free_number) (omega (arith, (sound_bounds l t g).1))

  pub held_stations_length : points_of ws ≡ length (stations ws)
  held_stations_length = held_points h ∙ perm_length (leaves_perm held_complete) ∙ sym (stations_length ws)

  -- ---- its words fit 32 bits

  part_fits_here : (s : ℕ) → s < SLOTS → All IsWord (part_at ws s)
  part_fits_here s lt =
      by_test (is_free ws s) (λ f. subst (All IsWord) (sym (free_part_here s lt f)) free_fits)
      (λ u.
      let r = subtree_here s lt u in
      let p : Page = page r.level (entries_of_tree r.level r.tree) in
      let e : part_at ws s ≡ page_words p = ap (part_at ws) (sym r.top) ∙ stored_part ws r.level r.tree r.stored in
      subst (All IsWord) (sym e) (page_words_fit p (page_fits r.good)))

  pub held_fits : All IsWord ws
  held_fits =
      subst (All IsWord) (sym (table_parts ws h.long)) (
        subst IsWord (sym h.root) (omega (arith, top_inside (good_root g))),
        (
          subst IsWord (sym h.points) (omega (arith, g.few)),
          all_join IsWord (part_at ws) slots
              (up_all (λ s. All IsWord (part_at ws s)) 0 SLOTS (λ s k lt. part_fits_here s lt)),
        ),
      )

  -- ---- its stations

  pub held_stations : Perm (stations ws) (map station_of_entry (leaves_of l t))
  held_stations =
      subst (λ ss. Perm ss (map station_of_entry (leaves_of l t))) (sym (stations_leaves ws part_fits_here))
      (perm_map station_of_entry (psym (leaves_perm held_complete)))

  -- ---- it is not empty

  pub not_empty : is_empty ws ≡ false
  unfolding is_empty
  not_empty = ap (λ w. is_minus_one w && (eqb (points_of ws) 0 && every (is_free ws) slots)) h.root
