-- A table that keeps the rules holds a sound tree, the one read off it at the root. That each used slot stands once in the tree is counted: a slot stands in it as often as the one slot that refers to it, up to the root. Assumes nothing.
use Prim.Native.Nat.{ℕ, zero, suc, ◌+◌, ◌≤◌, ◌<◌, ◌^◌}
use native.Mathlib.Omega.{arith}
use mathlib.Core.Path.{◌≡◌, refl, sym, ap, subst, ◌∙◌}
use mathlib.Core.Bool.{true, false, cond}
use mathlib.Core.List.Memᴰ
use mathlib.Core.List.{List, map-map}
use lib.Dec.{eqb}
use lib.IntN.{pos}
use lib.ListN.{length, length-map}
use borrow.Author.Tests.{eqb-true, eqb-false, eq-eqb, ne_eqb}
use Rattle.order.specs.Lists.{one, count, join, Mem, All, NoDup}
use Rattle.order.specs.Order.{up_from}
use Rattle.order.proofs.Perm.{psym, perm_map, perm_length}
use Rattle.order.proofs.Lists.{by_bool, perm_count, all_mem, perm_nodup, all_map}
use Rattle.order.proofs.Order.{mem_up}
use Rattle.table.specs.declared.node.Entry.{Entry}
use Rattle.figures.specs.Figures.{LEAST, SLOTS}
use Rattle.table.specs.Words.{Words, root_of, points_of, part_at}
use Rattle.table.specs.Page.{page, page_words, cover_of}
use Rattle.table.specs.Slots.{slots, is_free, level_at, entries_at}
use Rattle.rules.specs.Rules.{is_root, leaf_entries, entries_above, refs_at}
use Rattle.table.specs.Stations.{is_point}
use Rattle.table.specs.Tree.{Tree, top_of, entry_of_tree, entries_of_tree, slots_of, leaves_of, Filled, least_of, Stored, Sound, Holds}
use Rattle.table.proofs.Nodes.{entry_ext, page_ext}
use Rattle.rules.proofs.Tests.{by_test}
use Rattle.rules.proofs.Joined.{mem_join, join_mem, map_join, all_join}
use Rattle.rules.proofs.Counted.{number_counted, counted_number, number_missing, count_nodup, Source, one_source, source_count, up_mem, nodup_up}
use Rattle.rules.proofs.Reading.{entry_tree}
use Rattle.rules.proofs.OneSlot.{Here, above_above, above_in, least_other, least_root}
use Rattle.rules.proofs.Ruled.{Ruled, below, covered}
use Rattle.rules.proofs.AsRead.{Read, tree_at, top_at, map_keeps, read_slot, read_leaves, read_refs}
use Rattle.rules.proofs.Complete.{Complete, leaves_perm}

ones : (p : ℕ) → one (eqb p p) ≡ 1
ones p = ap one (eq-eqb p p refl)

module _ {ws : Words} (h : Ruled ws) where
  -- ---- the tree is read and stored

  -- the entries of the tree are those of the slot: above the leaves by rule 6
  entries_at_lem : (l : ℕ) {s : ℕ} → Here ws l s → entries_of_tree l (tree_at l ws s) ≡ entries_at ws s
  entries_at_lem zero at = refl
  entries_at_lem (suc l) {s} at =
      map-map (entry_of_tree l) (λ e. tree_at l ws e.reference) (entries_at ws s)
      ∙ map_keeps (λ e. entry_of_tree l (tree_at l ws e.reference)) (entries_at ws s)
      (λ e m.
      let t = tree_at l ws e.reference in
      let a : top_of l t ≡ e.reference = top_at l ws e.reference in
      let b : cover_of (entries_of_tree l t) ≡ e.rect = ap cover_of (entries_at_lem l (below h at m)) ∙ sym (covered h at m) in
      entry_tree l t ∙ entry_ext a b)

  read_at : (l : ℕ) {s : ℕ} → Here ws l s → Read l ws (tree_at l ws s)
  read_at zero at = record { here = at; entries = refl }
  read_at (suc l) {s} at = (
    record { here = at; entries = sym (entries_at_lem (suc l) at) },
    all_map (Read l ws) (λ e. tree_at l ws e.reference) (entries_at ws s)
        (all_mem (λ e. Read l ws (tree_at l ws e.reference)) (entries_at ws s) (λ e m. read_at l (below h at m))),
  )

  part_at_lem : (l : ℕ) {s : ℕ} → Here ws l s → part_at ws s ≡ page_words (page l (entries_of_tree l (tree_at l ws s)))
  part_at_lem l {s} at = h.pages s at.inside at.used ∙ ap page_words (page_ext at.level (sym (entries_at_lem l at)))

  stored_at : (l : ℕ) {s : ℕ} → Here ws l s → Stored l ws (tree_at l ws s)
  stored_at zero at = part_at_lem zero at
  stored_at (suc l) {s} at = (
    part_at_lem (suc l) at,
    all_map (Stored l ws) (λ e. tree_at l ws e.reference) (entries_at ws s)
        (all_mem (λ e. Stored l ws (tree_at l ws e.reference)) (entries_at ws s) (λ e m. stored_at l (below h at m))),
  )

  -- ---- references, over the slots below n (as a number the list of 256 slots is not written out)

  module _ (n : ℕ) (size : n ≡ SLOTS) (referred : (s : ℕ) → s < SLOTS → is_free ws s ≡ false → count (eqb s) (join (refs_at ws) (up_from 0 n)) ≡ cond (is_root ws s) 0 1) where
    in_all : {r p : ℕ} → p < SLOTS → Mem r (refs_at ws p) → 1 ≤ count (eqb r) (join (refs_at ws) (up_from 0 n))
    in_all {r} {p} lt m = number_counted (mem_join (refs_at ws) (up_from 0 n) (mem_up p 0 n (omega arith) (omega arith)) m)

    -- the root is not referred to
    root_alone : {r p : ℕ} → r < SLOTS → is_free ws r ≡ false → p < SLOTS → Mem r (refs_at ws p) → is_root ws r ≡ false
    root_alone {r} {p} lr u lp m =
        let k : 1 ≤ cond (is_root ws r) 0 1 = subst (λ (c : ℕ). 1 ≤ c) (referred r lr u) (in_all lp m) in
        by_bool (λ b. 1 ≤ cond b 0 1 → b ≡ false) (is_root ws r) (λ y z. absurd (omega arith)) (λ y z. refl) k

    entry_ref : {l s : ℕ} {e : Entry} → Here ws (suc l) s → Mem e (entries_at ws s) → Mem e.reference (refs_at ws s)
    entry_ref {l} {s} {e} at m =
        Memᴰ.map (λ i. i.reference) (subst (λ (es : List Entry). Mem e es) (sym (above_above ws s at)) m)

    -- ---- fill

    filled_at : (lo l : ℕ) {s : ℕ} → Here ws l s → lo ≤ length (entries_at ws s) → Filled lo l (tree_at l ws s)
    filled_at lo zero {s} at le = (le, h.most s at.inside at.used)
    filled_at lo (suc l) {s} at le =
        let es = entries_at ws s in
        let k = length-map es (λ e. tree_at l ws e.reference) in (
          (omega (arith, k), omega (arith, k, h.most s at.inside at.used)),
          all_map (Filled LEAST l) (λ e. tree_at l ws e.reference) es
              (all_mem (λ e. Filled LEAST l (tree_at l ws e.reference)) es
              (λ e m.
              let c = below h at m in
              let r : is_root ws e.reference ≡ false = root_alone c.inside c.used at.inside (entry_ref at m) in
              filled_at LEAST l c (subst (λ (a : ℕ). a ≤ length (entries_at ws e.reference)) (least_other ws e.reference r) (h.least e.reference c.inside c.used)))),
        )

    -- ---- each used slot stands once in the tree

    source : (r : ℕ) → r < SLOTS → is_free ws r ≡ false → is_root ws r ≡ false → Source (refs_at ws) r (up_from 0 n)
    source r lt u e =
        let k : ◌≡◌ {A = ℕ} (cond (is_root ws r) 0 1) 1 = rw e in
        one_source (refs_at ws) r (up_from 0 n) (nodup_up 0 n) (referred r lt u ∙ k)

    -- what refers to r is a node of the level above
    above : {r p : ℕ} → p < SLOTS → Mem r (refs_at ws p) → Here ws (suc (level_at ws r)) p
    above {r} {p} lt m =
        let e = Memᴰ.of_map (λ i. i.reference) (entries_above ws p) m in
        let a = above_in ws p lt e.1 in
        let q : Mem e.0 (entries_at ws p) = subst (λ (es : List Entry). Mem e.0 es) (above_above ws p a.1) e.1 in
        let c = below h a.1 q in
        record { inside = lt; used = a.1.used; level = a.1.level ∙ ap suc (sym c.level ∙ ap (level_at ws) e.2) }

    module _ {l : ℕ} (at : Here ws l (root_of ws)) where
      abbrev all : List ℕ
      all = slots_of l (tree_at l ws (root_of ws))

      slot_in : {s : ℕ} → Mem s all → (k : ℕ) × Here ws k s
      slot_in m = read_slot ws l (tree_at l ws (root_of ws)) (read_at l at) m

      -- the top once, the rest as often as it is referred to
      counts : (r : ℕ) → count (eqb r) all ≡ one (eqb r (root_of ws)) + count (eqb r) (join (refs_at ws) all)
      counts r =
          perm_count (read_refs ws l (tree_at l ws (root_of ws)) (read_at l at)) (eqb r)
          ∙ ap (λ t. one (eqb r t) + count (eqb r) (join (refs_at ws) all)) (top_at l ws (root_of ws))

      counted_root : (r : ℕ) → r < SLOTS → is_free ws r ≡ false → is_root ws r ≡ true → count (eqb r) all ≡ 1
      counted_root r lt u e =
          let y : eqb r (root_of ws) ≡ true = eq-eqb r (root_of ws) (sym (eqb-true (root_of ws) r e)) in
          let none : count (eqb r) (join (refs_at ws) all) ≡ 0 =
          number_missing r (join (refs_at ws) all)
          (λ m.
          let p = join_mem (refs_at ws) all m in
          let f = root_alone lt u (slot_in p.1).1.inside p.2 in
          let z : ◌≡◌ {A = ℕ} 0 1 = cc in
          omega arith) in
          counts r ∙ rw (y, none)

      counted_other : (r : ℕ) → is_root ws r ≡ false → (s : Source (refs_at ws) r (up_from 0 n)) → count (eqb s.place) all ≡ 1 → count (eqb r) all ≡ 1
      counted_other r e s k =
          let y : eqb r (root_of ws) ≡ false = ne_eqb r (root_of ws) (λ q. eqb-false (root_of ws) r e (sym q)) in
          let c : count (eqb r) (join (refs_at ws) all) ≡ count (eqb s.place) all =
          source_count (refs_at ws) r s.place all (λ q m. s.only q (mem_up q 0 n (omega arith) (omega (arith, (slot_in m).1.inside)))) in
          counts r ∙ rw (y, c, k)

      counted : (d r : ℕ) → r < SLOTS → is_free ws r ≡ false → 2 ^ 31 ≤ level_at ws r + d → count (eqb r) all ≡ 1
      counted zero r lt u le = absurd (omega (arith, h.low r lt u))
      counted (suc d) r lt u le =
          by_test (is_root ws r) (λ e. counted_root r lt u e)
          (λ e.
          let s = source r lt u e in
          let p = s.place in
          let m : Mem r (refs_at ws p) = counted_number r (refs_at ws p) (omega (arith, s.only p s.there, ones p)) in
          let a = above (omega (arith, up_mem p 0 n s.there)) m in
          counted_other r e s (counted d p a.inside a.used (omega (arith, a.level))))

      complete_at : Complete ws l (tree_at l ws (root_of ws))
      complete_at =
          let once : (r : ℕ) → r < SLOTS → is_free ws r ≡ false → count (eqb r) all ≡ 1 = λ r lt u. counted (2 ^ 31) r lt u (omega arith) in
          record {
            read = read_at l at;
            apart = count_nodup all (λ r m. let k = (slot_in m).1 in omega (arith, once r k.inside k.used));
            all = λ s lt u. counted_number s all (omega (arith, once s lt u));
          }

  -- ---- the whole

  abbrev pub root_level : ℕ
  root_level = level_at ws (root_of ws)

  abbrev pub whole_tree : Tree root_level
  whole_tree = tree_at root_level ws (root_of ws)

  root_here : Here ws root_level (root_of ws)
  root_here = record { inside = h.inside; used = h.used; level = refl }

  complete : Complete ws root_level whole_tree
  complete = complete_at SLOTS refl h.referred root_here

  leaves_points : length (leaves_of root_level whole_tree) ≡ points_of ws
  leaves_points = perm_length (leaves_perm complete) ∙ sym h.counted

  pub decoded_sound : Sound root_level whole_tree
  decoded_sound =
      let inside : (s : ℕ) → Mem s (slots_of root_level whole_tree) → s < SLOTS = λ s m. (read_slot ws root_level whole_tree complete.read m).1.inside in
      record {
        fill = filled_at SLOTS refl h.referred (least_of root_level) root_level root_here
            (subst (λ (a : ℕ). a ≤ length (entries_at ws (root_of ws))) (least_root ws (root_of ws) root_level refl refl) (h.least (root_of ws) h.inside h.used));
        apart = complete.apart;
        inside = all_mem (λ s. s < SLOTS) (slots_of root_level whole_tree) inside;
        points =
            subst (All (λ e. is_point e ≡ true)) (sym (read_leaves ws root_level whole_tree complete.read))
            (all_join (λ e. is_point e ≡ true) (leaf_entries ws) (slots_of root_level whole_tree)
            (all_mem (λ s. All (λ e. is_point e ≡ true) (leaf_entries ws s)) (slots_of root_level whole_tree) (λ s m. h.points s (inside s m))));
        once = perm_nodup (perm_map (λ e. e.reference) (psym (leaves_perm complete)))
            (subst NoDup (sym (map_join (λ e. e.reference) (leaf_entries ws) slots)) h.once);
        few = omega (arith, leaves_points, h.few);
      }

  pub decoded_holds : Holds ws root_level whole_tree
  decoded_holds =
      record {
        long = h.long;
        root = h.first ∙ ap pos (sym (top_at root_level ws (root_of ws)));
        points = h.second ∙ ap pos (sym leaves_points);
        stored = stored_at root_level root_here;
        others = λ s lt n.
            by_test (is_free ws s) (λ e. h.frees s lt e) (λ e. absurd (n (complete.all s lt e)));
      }
