-- A table that holds a sound tree keeps every rule: each used slot is the top of a subtree, whose page the slot's words are; what rules 4 and 7 say of all slots the tree says of its own. Assumes nothing.
use Prim.Native.Nat.{ℕ, zero, suc, ◌+◌, ◌≤◌, ◌<◌}
use native.Mathlib.Omega.{arith}
use native.Mathlib.Decide.{ℕ_discrete}
use mathlib.Core.Path.{◌≡◌, sym, ap, subst, ◌∙◌}
use mathlib.Core.Logic.{⊎_elim}
use mathlib.Core.Bool.{Bool, true, false, cond}
use lib.Dec.{eqb}
use lib.ListN.{length}
use borrow.Author.Tests.{eq-eqb, ne_eqb}
use Rattle.order.specs.Lists.{one, count, join, Mem, All, NoDup}
use Rattle.order.proofs.Perm.{psym, perm_map, perm_length}
use Rattle.order.proofs.Lists.{perm_count, all_perm, all_mem, mem_all, perm_nodup}
use Rattle.order.proofs.Order.{mem_up}
use Rattle.table.specs.declared.node.Entry.{Entry}
use Rattle.figures.specs.Figures.{FAN, SLOTS}
use Rattle.table.specs.Words.{Words, part_at}
use Rattle.table.specs.Page.{Page, page, page_words, cover_of}
use Rattle.table.specs.Slots.{slots, is_free, level_at, entries_at}
use Rattle.rules.specs.Rules.{is_root, least_fill, leaf_entries, numbers_at, entries_above, times_referred}
use Rattle.table.specs.Stations.{is_point}
use Rattle.table.specs.Tree.{Tree, top_of, entry_of_tree, entries_of_tree, slots_of, least_of, Stored, Sound, Holds}
use Rattle.rules.proofs.Tests.{by_test}
use Rattle.rules.proofs.Joined.{map_join, all_parts}
use Rattle.rules.proofs.Counted.{number_counted, nodup_count}
use Rattle.rules.proofs.Size.{some_leaf}
use Rattle.rules.proofs.Reading.{Good, good_root, good_child, least_some, top_inside, entry_reference, entry_rect, entries_fill, entry_child, stored_part, stored_child, stored_used, stored_level, stored_entries, held_root, held_points}
use Rattle.rules.proofs.OneSlot.{above_above, above_in, least_most, least_root}
use Rattle.rules.proofs.Ruled.{Child}
use Rattle.rules.proofs.Complete.{leaves_perm, refs_perm}
use Rattle.rules.proofs.Subtrees.{Subtree}
use Rattle.rules.proofs.Held.{used_in_tree, held_complete, free_part_here, subtree_here}
use Rattle.rules.proofs.EachRule.{free_rule1, page_rule1, fact_rule2, free_rule3, page_rule3, fact_rule4, fact_rule5, fact_rule6, free_rule7, fact_rule7, fact_header}
use Rattle.rules.proofs.EachNew.{new_all}
use Rattle.rules.proofs.Passed.{Passed}

-- ---- rules 5 and 6, of an entry of a stored tree's top

-- what both rules say of an entry of slot s
Placed : Words → ℕ → Entry → Type 0
Placed ws s e = Child ws s e × (e.rect ≡ cover_of (entries_at ws e.reference))

module _ (ws : Words) where
  child_placed : {lo k : ℕ} {c : Tree k} → Good lo k c → Stored k ws c → (s : ℕ) → level_at ws s ≡ suc k → Placed ws s (entry_of_tree k c)
  unfolding Placed
  child_placed {k = k} {c = c} g st s e =
      let r : (entry_of_tree k c).reference ≡ top_of k c = entry_reference k c in
      let lv : level_at ws (entry_of_tree k c).reference ≡ k = ap (level_at ws) r ∙ stored_level ws g st in
      let es : entries_at ws (entry_of_tree k c).reference ≡ entries_of_tree k c = ap (entries_at ws) r ∙ stored_entries ws g st in (
        record {
          inside = omega (arith, r, top_inside g);
          used = ap (is_free ws) r ∙ stored_used ws k c st;
          below = omega (arith, lv, e);
        },
        entry_rect k c ∙ ap cover_of (sym es),
      )

  entry_placed : {lo k : ℕ} {c : Tree k} → Good lo k c → Stored k ws c → (l : ℕ) → level_at ws (top_of k c) ≡ suc l → {i : Entry} → Mem i (entries_at ws (top_of k c)) → Placed ws (top_of k c) i
  entry_placed {k = zero} g st l e m = absurd (omega (arith, stored_level ws g st))
  entry_placed {k = suc k} {c = c} g st l e {i} m =
      let d = entry_child k c (subst (λ es. Mem i es) (stored_entries ws g st) m) in
      subst (Placed ws c.slot) d.2 (child_placed (good_child g d.1) (stored_child ws k c st d.1) c.slot (stored_level ws g st))

-- ---- rule 7, of one slot

eqb_turn : (a b : ℕ) → eqb a b ≡ eqb b a
eqb_turn a b =
    elim (ℕ_discrete a b) [
      | yes e ↦ eq-eqb a b e ∙ sym (eq-eqb b a (sym e))
      | no n ↦ ne_eqb a b n ∙ sym (ne_eqb b a (λ e. n (sym e)))
    ]

-- what is counted once with the root is counted once without it, unless it is the root
times : (b : Bool) (x y : ℕ) → y ≡ 1 → y ≡ one b + x → x ≡ cond b 0 1
times true x y e f = omega arith
times false x y e f = omega arith

-- ---- the whole

module _ {ws : Words} {l : ℕ} {t : Tree l} (h : Holds ws l t) (g : Sound l t) where
  at : (s : ℕ) → s < SLOTS → is_free ws s ≡ false → Subtree ws (least_of l) l t s
  at s lt u = subtree_here h g s lt u

  -- what a used slot holds
  page_here : (s : ℕ) → s < SLOTS → is_free ws s ≡ false → Page
  page_here s lt u = page (at s lt u).level (entries_of_tree (at s lt u).level (at s lt u).tree)

  part_here : (s : ℕ) (lt : s < SLOTS) (u : is_free ws s ≡ false) → part_at ws s ≡ page_words (page_here s lt u)
  unfolding page_here
  part_here s lt u = ap (part_at ws) (sym (at s lt u).top) ∙ stored_part ws (at s lt u).level (at s lt u).tree (at s lt u).stored

  few_here : (s : ℕ) (lt : s < SLOTS) (u : is_free ws s ≡ false) → length (page_here s lt u).entries ≤ FAN
  unfolding page_here
  few_here s lt u = (entries_fill (at s lt u).good).1

  least_here : (s : ℕ) (lt : s < SLOTS) (u : is_free ws s ≡ false) → least_fill ws s ≤ length (page_here s lt u).entries
  unfolding page_here
  least_here s lt u =
      let r = at s lt u in
      let k = (entries_fill r.good).0 in
      let v : level_at ws s ≡ r.level = ap (level_at ws) (sym r.top) ∙ stored_level ws r.good r.stored in
      ⊎_elim
      (λ p. omega (arith, least_root ws s l (held_root h ∙ sym p.0) (v ∙ p.2), p.1))
      (λ p. omega (arith, least_most ws s))
      r.place

  -- rules 5 and 6
  placed_here : (s : ℕ) → s < SLOTS → (e : Entry) → Mem e (entries_above ws s) → Placed ws s e
  placed_here s lt e m =
      let a = above_in ws s lt m in
      let r = at s lt a.1.used in
      let n : Mem e (entries_at ws s) = subst (λ es. Mem e es) (above_above ws s a.1) m in
      subst (λ x. Placed ws x e) r.top
      (entry_placed ws r.good r.stored a.0 (ap (level_at ws) r.top ∙ a.1.level)
      (subst (λ x. Mem e (entries_at ws x)) (sym r.top) n))

  -- rule 4
  points_here : (s : ℕ) → s < SLOTS → All (λ e. is_point e ≡ true) (leaf_entries ws s)
  points_here s lt =
      let P : Entry → Type 0 = λ e. is_point e ≡ true in
      mem_all (λ i. All P (leaf_entries ws i)) slots
      (all_parts P (leaf_entries ws) slots (all_perm P (psym (leaves_perm (held_complete h g))) g.points))
      (mem_up s 0 SLOTS (omega arith) (omega arith))

  numbers_once : NoDup (join (numbers_at ws) slots)
  numbers_once =
      subst NoDup (map_join (λ e. e.reference) (leaf_entries ws) slots)
      (perm_nodup (perm_map (λ e. e.reference) (leaves_perm (held_complete h g))) g.once)

  -- rule 7
  referred_here : (s : ℕ) → s < SLOTS → is_free ws s ≡ false → times_referred ws s ≡ cond (is_root ws s) 0 1
  referred_here s lt u =
      let m = used_in_tree h g s lt u in
      let once : count (eqb s) (slots_of l t) ≡ 1 = omega (arith, number_counted m, nodup_count s (slots_of l t) g.apart) in
      let turn : eqb s (top_of l t) ≡ is_root ws s = eqb_turn s (top_of l t) ∙ ap (λ r. eqb r s) (sym (held_root h)) in
      times (is_root ws s) (times_referred ws s) (count (eqb s) (slots_of l t)) once
      (perm_count (refs_perm (held_complete h g)) (eqb s) ∙ ap (λ b. one b + times_referred ws s) turn)

  pub held_passed : Passed ws
  unfolding Placed
  held_passed =
      record {
        one = λ s lt.
            by_test (is_free ws s) (λ f. free_rule1 ws s (free_part_here h g s lt f))
            (λ u. page_rule1 ws s (page_here s lt u) (part_here s lt u) (few_here s lt u));
        two = fact_rule2 ws
            (record {
              inside = omega (arith, held_root h, top_inside (good_root g));
              used = ap (is_free ws) (held_root h) ∙ stored_used ws l t h.stored;
              some = omega (arith, held_points h, some_leaf (least_of l) l (least_some l) t g.fill);
              few = omega (arith, held_points h, g.few);
            });
        three = λ s lt.
            by_test (is_free ws s) (λ f. free_rule3 ws s f)
            (λ u. page_rule3 ws s (page_here s lt u) (part_here s lt u) (least_here s lt u) (few_here s lt u));
        four = λ s lt. fact_rule4 ws s (points_here s lt) (new_all (numbers_at ws) SLOTS numbers_once s lt);
        five = λ s lt. fact_rule5 ws s (all_mem (Child ws s) (entries_above ws s) (λ e m. (placed_here s lt e m).0));
        six = λ s lt.
            fact_rule6 ws s
            (all_mem (λ e. e.rect ≡ cover_of (entries_at ws e.reference)) (entries_above ws s) (λ e m. (placed_here s lt e m).1));
        header = fact_header ws (held_points h ∙ perm_length (leaves_perm (held_complete h g)));
        seven = λ s lt. by_test (is_free ws s) (λ f. free_rule7 ws s f) (λ u. fact_rule7 ws s (referred_here s lt u));
      }
