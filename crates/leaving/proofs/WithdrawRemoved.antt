-- A removal as the code has it: after the removal below a child the page above can be mended, since every child is stored and can be read. Assumes nothing.
use Prim.Native.Nat.{ℕ, zero, suc, ◌+◌, ◌-◌, ◌≤◌, ◌<◌}
use native.Mathlib.Omega.{arith}
use mathlib.Core.Path.{◌≡◌, refl, sym, ap, subst, ◌∙◌}
use mathlib.Core.Bool.{Bool, true, cond}
use mathlib.Core.List.{List, [], ◌∷◌, ◌++◌, map, map-append}
use lib.Dec.{eqb}
use lib.ListN.{length, get_or, length-append, length-map}
use borrow.Author.Tests.{ltb-true}
use Rattle.std.specs.Prelude.{Option, Some, position}
use Rattle.std.specs.Option.{IsSome}
use Rattle.order.specs.Lists.{one, some, first_place, join, Mem, All}
use Rattle.order.proofs.Lists.{by_bool, count_append, all_mem, mem_all, all_append, all_at, all_then, all_map}
use Rattle.table.specs.declared.node.Entry.{Entry}
use Rattle.table.specs.declared.node.Node.{Node}
use Rattle.figures.specs.Figures.{LEAST}
use Rattle.table.specs.Words.{Words}
use Rattle.table.specs.Page.{page, held, shown, Shows, without, EntryFits, PageFits, blank_entry}
use Rattle.table.specs.Slots.{page_at, level_at, entries_at, put_page}
use Rattle.grid.specs.Place.{RectOnGrid}
use Rattle.table.specs.Tree.{Tree, bough, top_of, entry_of_tree, entries_of_tree, slots_of, leaves_of, Filled, Stored}
use Rattle.table.proofs.Nodes.{shown_page, shows_on}
use Rattle.rules.proofs.Joined.{all_left, all_right}
use Rattle.rules.proofs.Counted.{part_count, count_nodup}
use Rattle.rules.proofs.Reading.{
  Good,
  top_inside,
  entry_reference,
  entries_fit,
  entries_upright,
  page_fits,
  stored_page,
  stored_level,
  stored_entries,
}
use Rattle.change.specs.Planted.{Planted}
use Rattle.change.specs.Choose.{entry_in}
use Rattle.leaving.specs.Withdraw.{holds, mended, removed, Removable, Child, Mendable}
use Rattle.change.proofs.Items.{slots_items}
use Rattle.change.proofs.Frame.{times, times_self, off_grid}
use Rattle.change.proofs.Flat.{flat_part, flat_good}
use Rattle.leaving.proofs.WithdrawJoin.{at_seam, Known}
use Rattle.leaving.proofs.WithdrawCut.{
  first_split,
  some_map,
  first_map,
  Ready,
  ready_good,
  child_ready,
  Cut,
  removal,
  new_known,
  before,
  after_all,
  child_fill,
  filled_two,
}
use Rattle.change.proofs.Planting.{planted_good, planted_page}
use Rattle.leaving.proofs.WithdrawPlanted.{by_pred, planted_ready, holds_down, planted_down}
use Rattle.leaving.proofs.WithdrawSearch.{first_some, position_first, position_found}
use Rattle.leaving.proofs.WithdrawPages.{without_fits, without_length, shown_fits}

-- ---- a child that is stored can be read

tree_child : (ws : Words) (l : ℕ) (t : Tree l) (e : Entry) → e.reference ≡ top_of l t → Good 2 l t → Stored l ws t → Child ws l e
tree_child ws l t e k g st =
    let r : entries_at ws e.reference ≡ entries_of_tree l t = ap (entries_at ws) k ∙ stored_entries ws g st in
    record {
      inside = omega (arith, k, top_inside g);
      level = ap (level_at ws) k ∙ stored_level ws g st;
      fits = subst (All EntryFits) (sym r) (entries_fit g);
      grid = subst (All (λ x. RectOnGrid x.rect)) (sym r)
          (all_then _ (λ x. RectOnGrid x.rect) (λ x u. u.grid) (entries_of_tree l t) (entries_upright g));
    }

known_good : (l : ℕ) (ws : Words) (xs : List (Tree l)) → Known l ws xs → All (Filled 2 l) xs → {t : Tree l} → Mem t xs → Good 2 l t
known_good l ws xs k f {t} m =
    flat_good 2 l t k.low (mem_all (Filled 2 l) xs f m)
    (flat_part (join (slots_of l) xs) (slots_of l t) (join (leaves_of l) xs) (leaves_of l t) (λ o. part_count (eqb o) (slots_of l) xs m)
    (part_count off_grid (leaves_of l) xs m) k.flat)

known_children : (l : ℕ) (ws : Words) (xs : List (Tree l)) → Known l ws xs → All (Filled 2 l) xs → All (λ t. Child ws l (entry_of_tree l t)) xs
known_children l ws xs k f =
    all_mem (λ t. Child ws l (entry_of_tree l t)) xs
    (λ t m. tree_child ws l t (entry_of_tree l t) (entry_reference l t) (known_good l ws xs k f m) (mem_all (Stored l ws) xs k.stored m))

-- a child is its slot
child_same : (ws : Words) (l : ℕ) (e d : Entry) → e.reference ≡ d.reference → Child ws l e → Child ws l d
child_same ws l e d k h = record {
  inside = omega (arith, k, h.inside);
  level = ap (level_at ws) (sym k) ∙ h.level;
  fits = subst (λ o. All EntryFits (entries_at ws o)) k h.fits;
  grid = subst (λ o. All (λ x. RectOnGrid x.rect) (entries_at ws o)) k h.grid;
}

-- the slots of the children are among those of their trees
tops_times : (l : ℕ) (xs : List (Tree l)) (o : ℕ) → times o (map (λ e. e.reference) (map (entry_of_tree l) xs)) ≤ times o (join (slots_of l) xs)
tops_times l [] o = omega arith
tops_times l (x ∷ xs) o =
    omega (arith, tops_times l xs o, count_append (eqb o) (slots_of l x) (join (slots_of l) xs), ap (times o) (slots_items l x), ap (λ k. one (eqb o k)) (entry_reference l x))

-- ---- the page above a child that has changed

module _ (l : ℕ) (ws : Words) (s n : ℕ) (bs : List (Tree l)) (c : Tree l) (zs : List (Tree l)) (ready : Ready (suc l) ws (bough s (bs ++ c ∷ zs)))
    (mid : Words) (cut : Cut l ws c n mid) where
  new_filled : All (Filled 2 l) (bs ++ cut.tree ∷ zs)
  new_filled =
      all_append (Filled 2 l) bs (cut.tree ∷ zs)
      (all_then (Filled LEAST l) (Filled 2 l) (filled_two l) bs (before l ws s n bs c zs ready mid cut))
      (child_fill l ws s n bs c zs ready mid cut, all_then (Filled LEAST l) (Filled 2 l) (filled_two l) zs (after_all l ws s n bs c zs ready mid cut))

  old_children : All (λ t. Child mid l (entry_of_tree l t)) (bs ++ c ∷ zs)
  old_children =
      let Q : Tree l → Type 0 = λ t. Child mid l (entry_of_tree l t) in
      let a = known_children l mid (bs ++ cut.tree ∷ zs) (new_known l ws s n bs c zs ready mid cut) new_filled in
      let r = all_right Q bs (cut.tree ∷ zs) a in
      all_append Q bs (c ∷ zs) (all_left Q bs (cut.tree ∷ zs) a)
      (child_same mid l (entry_of_tree l cut.tree) (entry_of_tree l c) (entry_reference l cut.tree ∙ cut.top ∙ sym (entry_reference l c)) r.0, r.1)

  cut_mendable : (i : ℕ) → i ≡ length bs → PageFits (page (suc l) (map (entry_of_tree l) (bs ++ c ∷ zs)))
      → Mendable mid s (page (suc l) (map (entry_of_tree l) (bs ++ c ∷ zs))) i
  cut_mendable i e f =
      let k = length-map (bs ++ c ∷ zs) (entry_of_tree l) in
      let d : suc l - 1 ≡ l = omega arith in
      record {
        long = cut.frame.long ∙ ready.long;
        inside = ready.flat.inside s (omega (arith, times_self s));
        above = omega arith;
        fits = f;
        place = omega (arith, length-append bs (c ∷ zs));
        two = omega (arith, ready.fill.0.0);
        children = subst (λ j. All (Child mid j) (map (entry_of_tree l) (bs ++ c ∷ zs))) (sym d) (all_map (Child mid l) (entry_of_tree l) (bs ++ c ∷ zs) old_children);
        apart = count_nodup (map (λ x. x.reference) (map (entry_of_tree l) (bs ++ c ∷ zs)))
            (λ o m. omega (arith, tops_times l (bs ++ c ∷ zs) o, ready.flat.once o));
      }

mendable_at : (l : ℕ) (ws : Words) (t : Tree (suc l)) (n : ℕ) → Ready (suc l) ws t → PageFits (page (suc l) (map (entry_of_tree l) t.items))
    → (bs : List (Tree l)) (c : Tree l) (zs : List (Tree l)) → t.items ≡ bs ++ c ∷ zs → holds l ws (entry_of_tree l c).reference n ≡ true
    → (mid : Words) → mid ≡ removed l ws (top_of l c) n → Mendable mid t.slot (page (suc l) (map (entry_of_tree l) t.items)) (length bs)
mendable_at l ws t n ready fits bs c zs e h mid em =
    let r : Ready (suc l) ws (bough t.slot (bs ++ c ∷ zs)) = subst (λ xs. Ready (suc l) ws (bough t.slot xs)) e ready in
    let cut : Cut l ws c n mid =
    subst (Cut l ws c n) (sym em)
    (removal l ws c n (child_ready l ws t.slot bs c zs r) (ap (λ o. holds l ws o n) (sym (entry_reference l c)) ∙ h)) in
    subst (λ xs. Mendable mid t.slot (page (suc l) (map (entry_of_tree l) xs)) (length bs)) (sym e)
    (cut_mendable l ws t.slot n bs c zs r mid cut (length bs) refl (subst (λ xs. PageFits (page (suc l) (map (entry_of_tree l) xs))) e fits))

-- the first entry that leads to the number is that of the child at the seam
seam_reference : (l : ℕ) (es : List Entry) (xs : List (Tree l)) (i : ℕ) (bs : List (Tree l)) (c : Tree l) (zs : List (Tree l))
    → es ≡ map (entry_of_tree l) xs → xs ≡ bs ++ c ∷ zs → i ≡ length bs → (entry_in es i).reference ≡ top_of l c
seam_reference l es xs i bs c zs e f k =
    ap (λ x. (entry_in x i).reference) (e ∙ ap (map (entry_of_tree l)) f ∙ map-append (entry_of_tree l) bs (c ∷ zs))
    ∙ ap (λ j. (entry_in (map (entry_of_tree l) bs ++ entry_of_tree l c ∷ map (entry_of_tree l) zs) j).reference) k
    ∙ ap (λ x. x.reference) (at_seam l bs (entry_of_tree l c) (map (entry_of_tree l) zs)) ∙ entry_reference l c

tree_mendable : (l : ℕ) (ws : Words) (n : ℕ) (t : Tree (suc l)) → Ready (suc l) ws t → holds (suc l) ws t.slot n ≡ true → (mid : Words)
    → let es = entries_at ws t.slot in
    let i = first_place (λ e. holds l ws e.reference n) es in
    mid ≡ removed l ws (entry_in es i).reference n → Mendable mid t.slot (page_at ws t.slot) i
tree_mendable l ws n t ready h mid em =
    let P : Entry → Bool = λ x. holds l ws x.reference n in
    let q : page_at ws t.slot ≡ page (suc l) (map (entry_of_tree l) t.items) = stored_page ws (ready_good ready) ready.stored in
    let e : entries_at ws t.slot ≡ map (entry_of_tree l) t.items = ap (λ x. x.entries) q in
    let p = first_split (λ c. P (entry_of_tree l c)) t.items (sym (some_map (entry_of_tree l) P t.items) ∙ subst (λ es. some P es ≡ true) e h) in
    let k : first_place P (entries_at ws t.slot) ≡ length p.0 = ap (first_place P) e ∙ first_map (entry_of_tree l) P t.items ∙ p.4 in
    let f = seam_reference l (entries_at ws t.slot) t.items (first_place P (entries_at ws t.slot)) p.0 p.1 p.2 e p.3 k in
    let m = mendable_at l ws t n ready (page_fits (ready_good ready)) p.0 p.1 p.2 p.3 p.5 mid (em ∙ ap (λ o. removed l ws o n) f) in
    subst (λ x. Mendable mid t.slot x (first_place P (entries_at ws t.slot))) (sym q)
    (subst (Mendable mid t.slot (page (suc l) (map (entry_of_tree l) t.items))) (sym k) m)

pub removed_mendable : (ws : Words) (s n l : ℕ) → 0 < l → Removable l ws s n → (mid : Words)
    → let i = first_place (λ e. holds (l - 1) ws e.reference n) (entries_at ws s) in
    mid ≡ removed (l - 1) ws (entry_in (entries_at ws s) i).reference n → Mendable mid s (page_at ws s) i
removed_mendable ws s n =
    by_pred
    (λ l k. Removable l ws s n → (mid : Words)
    → let i = first_place (λ e. holds k ws e.reference n) (entries_at ws s) in
    mid ≡ removed k ws (entry_in (entries_at ws s) i).reference n → Mendable mid s (page_at ws s) i)
    (λ l r mid.
    let p = r.planted in
    subst
    (λ o. holds (suc l) ws o n ≡ true
    → let i = first_place (λ e. holds l ws e.reference n) (entries_at ws o) in
    mid ≡ removed l ws (entry_in (entries_at ws o) i).reference n → Mendable mid o (page_at ws o) i)
    p.top (λ h. tree_mendable l ws n p.tree (planted_ready p) h mid) r.found)

-- ---- where the number is found

pub found_leaf : (ws : Words) (s n l : ℕ) → l ≡ 0 → Removable l ws s n → first_place (λ e. eqb e.reference n) (entries_at ws s) < length (entries_at ws s)
found_leaf ws s n l z r =
    ltb-true _ _ (first_some (λ e. eqb e.reference n) (entries_at ws s) ∙ ap (λ k. holds k ws s n) (sym z) ∙ r.found)

pub found_child : (ws : Words) (s n l : ℕ) → 0 < l → Removable l ws s n
    → first_place (λ e. holds (l - 1) ws e.reference n) (entries_at ws s) < length (entries_at ws s)
found_child ws s n l h r =
    ltb-true _ _ (first_some (λ e. holds (l - 1) ws e.reference n) (entries_at ws s) ∙ sym (holds_down ws s n l h) ∙ r.found)

-- below the child at that place too
first_passes : {A : Type 0} (P : A → Bool) (xs : List A) (d : A) → first_place P xs < length xs → P (get_or xs (first_place P xs) d) ≡ true
first_passes P [] d h = absurd (omega arith)
first_passes P (x ∷ xs) d h =
    by_bool (λ b. P x ≡ b → cond b 0 (1 + first_place P xs) < length (x ∷ xs) → P (get_or (x ∷ xs) (cond b 0 (1 + first_place P xs)) d) ≡ true) (P x)
    (λ e f k. f)
    (λ e f k.
    let j : suc (first_place P xs) ≡ 1 + first_place P xs = omega arith in
    subst (λ i. P (get_or (x ∷ xs) i d) ≡ true) j (first_passes P xs d (omega arith))) refl h

pub child_removable : (ws : Words) (s n l : ℕ) → 0 < l → Removable l ws s n
    → let i = first_place (λ e. holds (l - 1) ws e.reference n) (entries_at ws s) in
    Removable (l - 1) ws (entry_in (entries_at ws s) i).reference n
child_removable ws s n l h r =
    let P : Entry → Bool = λ e. holds (l - 1) ws e.reference n in
    let k = found_child ws s n l h r in
    record {
      planted = all_at (λ e. Planted (l - 1) ws e.reference) (entries_at ws s) (first_place P (entries_at ws s)) blank_entry k (planted_down ws s l h r.planted);
      found = first_passes P (entries_at ws s) blank_entry k;
    }

-- ---- the page of a leaf with one entry less

pub leaf_page_fits : (ws : Words) (s l i : ℕ) → Planted l ws s → i < length (entries_at ws s) → PageFits (page (level_at ws s) (without i (entries_at ws s)))
leaf_page_fits ws s l i p h =
    let f : PageFits (page_at ws s) = subst PageFits (sym (planted_page p)) (page_fits (planted_good p)) in
    record {
      level = f.level;
      few = omega (arith, f.few, without_length (entries_at ws s) i h);
      entries = without_fits (entries_at ws s) i f.entries;
    }

-- ---- the definition, one level down

pub removed_down : (ws : Words) (s n l : ℕ) → 0 < l
    → let i = first_place (λ e. holds (l - 1) ws e.reference n) (entries_at ws s) in
    removed l ws s n ≡ mended (removed (l - 1) ws (entry_in (entries_at ws s) i).reference n) s (l - 1) (entries_at ws s) i
removed_down ws s n =
    by_pred
    (λ l k. let i = first_place (λ e. holds k ws e.reference n) (entries_at ws s) in
    removed l ws s n ≡ mended (removed k ws (entry_in (entries_at ws s) i).reference n) s k (entries_at ws s) i)
    (λ l. refl)

-- ---- as a node by value has it

module _ (ws : Words) (s n l : ℕ) (r : Removable l ws s n) (node : Node) (shows : Shows node (page_at ws s)) where
  node_level : node.level ≡ l
  node_level = shows.level ∙ ap (λ p. p.level) (planted_page r.planted)

  -- the search in the node finds the place that it finds in the slot
  found_in : (P : Entry → Bool) → first_place P (entries_at ws s) < length (entries_at ws s) → (o : Option ℕ) → o ≡ position P (held node) → IsSome o
  found_in P h o e =
      subst IsSome (sym (e ∙ ap (position P) shows.entries ∙ position_found P (entries_at ws s) h)) refl

  place_in : (P : Entry → Bool) (o : Option ℕ) → o ≡ position P (held node) → (i : ℕ) → o ≡ Some i → i ≡ first_place P (entries_at ws s)
  place_in P o e i f = position_first P (entries_at ws s) i (sym (e ∙ ap (position P) shows.entries) ∙ f)

  pub leaf_some : l ≡ 0 → (o : Option ℕ) → o ≡ position (λ e. eqb e.reference n) (held node) → IsSome o
  leaf_some z = found_in (λ e. eqb e.reference n) (found_leaf ws s n l z r)

  pub child_some : 0 < l → (o : Option ℕ) → o ≡ position (λ e. holds (l - 1) ws e.reference n) (held node) → IsSome o
  child_some h = found_in (λ e. holds (l - 1) ws e.reference n) (found_child ws s n l h r)

  module _ (z : l ≡ 0) (o : Option ℕ) (eo : o ≡ position (λ e. eqb e.reference n) (held node)) (i : ℕ) (ei : o ≡ Some i) where
    leaf_place : i ≡ first_place (λ e. eqb e.reference n) (entries_at ws s)
    leaf_place = place_in (λ e. eqb e.reference n) o eo i ei

    pub leaf_in : i < node.count
    leaf_in = omega (arith, leaf_place, found_leaf ws s n l z r, shows.count)

    module _ (m : Node) (em : Shows m (page node.level (without i (held node)))) where
      leaf_shows : Shows m (page (level_at ws s) (without i (entries_at ws s)))
      leaf_shows = shows_on shows m (without i) em

      pub leaf_fits : PageFits (shown m)
      leaf_fits =
          shown_fits leaf_shows (leaf_page_fits ws s l i r.planted (omega (arith, leaf_place, found_leaf ws s n l z r)))

      pub leaf_done : (w : Words) → w ≡ put_page ws s (shown m) → w ≡ removed l ws s n
      leaf_done w e =
          e ∙ ap (put_page ws s) (shown_page leaf_shows) ∙ ap (λ k. put_page ws s (page k (without i (entries_at ws s)))) (sym shows.level ∙ node_level ∙ z)
          ∙ ap (λ k. put_page ws s (page zero (without k (entries_at ws s)))) leaf_place ∙ ap (λ k. removed k ws s n) (sym z)

  module _ (h : 0 < l) (o : Option ℕ) (eo : o ≡ position (λ e. holds (l - 1) ws e.reference n) (held node)) (i : ℕ) (ei : o ≡ Some i) where
    child_place : i ≡ first_place (λ e. holds (l - 1) ws e.reference n) (entries_at ws s)
    child_place = place_in (λ e. holds (l - 1) ws e.reference n) o eo i ei

    pub child_in : i < node.count
    child_in = omega (arith, child_place, found_child ws s n l h r, shows.count)

    module _ (c : ℕ) (ec : c ≡ (entry_in (held node) i).reference) where
      child_slot : c ≡ (entry_in (entries_at ws s) (first_place (λ e. holds (l - 1) ws e.reference n) (entries_at ws s))).reference
      child_slot = ec ∙ ap (λ es. (entry_in es i).reference) shows.entries ∙ ap (λ k. (entry_in (entries_at ws s) k).reference) child_place

      pub below_removable : Removable (l - 1) ws c n
      below_removable = subst (λ o. Removable (l - 1) ws o n) (sym child_slot) (child_removable ws s n l h r)

      module _ (mid : Words) (em : mid ≡ removed (l - 1) ws c n) where
        mid_is : mid ≡ removed (l - 1) ws (entry_in (entries_at ws s) (first_place (λ e. holds (l - 1) ws e.reference n) (entries_at ws s))).reference n
        mid_is = em ∙ ap (λ o. removed (l - 1) ws o n) child_slot

        pub mid_mendable : Mendable mid s (shown node) i
        mid_mendable =
            subst (λ p. Mendable mid s p i) (sym (shown_page shows))
            (subst (Mendable mid s (page_at ws s)) (sym child_place) (removed_mendable ws s n l h r mid mid_is))

        pub child_done : (w : Words) → w ≡ mended mid s (node.level - 1) (held node) i → w ≡ removed l ws s n
        child_done w e =
            e ∙ ap (λ k. mended mid s (k - 1) (held node) i) node_level ∙ ap (λ es. mended mid s (l - 1) es i) shows.entries
            ∙ ap (mended mid s (l - 1) (entries_at ws s)) child_place
            ∙ ap (λ w. mended w s (l - 1) (entries_at ws s) (first_place (λ e. holds (l - 1) ws e.reference n) (entries_at ws s))) mid_is
            ∙ sym (removed_down ws s n l h)
