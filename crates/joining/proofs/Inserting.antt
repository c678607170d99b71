-- What the code of an insertion may count on at each step, from the tree that stands below: entries on the grid that a slot can hold, a child that is a slot, a free slot. Assumes nothing.
use Prim.Native.Nat.{ℕ, zero, suc, ◌≤◌, ◌<◌, ◌^◌}
use native.Mathlib.Omega.{arith}
use mathlib.Core.Path.{◌≡◌, sym, ap, subst, ◌∙◌}
use mathlib.Core.Bool.{true}
use mathlib.Core.List.{List, [], ◌∷◌, ◌++◌, map, map-id}
use lib.ListN.{length, get_or, set, length-map}
use Rattle.std.specs.Prelude.{Option}
use Rattle.grid.specs.Place.{RectOnGrid, Upright}
use Rattle.order.specs.Lists.{count, All}
use Rattle.order.proofs.Lists.{join_one, all_at, all_then, all_map}
use Rattle.table.specs.declared.node.Entry.{Entry}
use Rattle.table.specs.declared.node.Node.{Node}
use Rattle.figures.specs.Figures.{FAN, LEAST, LENGTH}
use Rattle.table.specs.Words.{Words}
use Rattle.table.specs.Page.{page, held, Shows, EntryFits, blank_entry}
use Rattle.table.specs.Slots.{page_at, level_at, entries_at, entry_for}
use Rattle.table.proofs.Nodes.{shows_on}
use Rattle.table.specs.Stations.{is_point}
use Rattle.table.specs.Tree.{Tree, top_of, entry_of_tree, entries_of_tree, slots_of, leaves_of, Stored}
use Rattle.rules.proofs.Reading.{point, point_upright, Good, good_child, top_inside, entry_reference, entries_upright, entry_upright, child_at, child_in, stored_child, stored_entries}
use Rattle.change.specs.Choose.{entry_in, chosen}
use Rattle.joining.specs.Enrol.{Grown, settled, inserted}
use Rattle.joining.specs.Within.{new_of, grew, free_count, MaySettle, MayInsert}
use Rattle.change.specs.Planted.{Planted}
use Rattle.change.proofs.Items.{Item, entry_of_item}
use Rattle.change.proofs.Planting.{planted_good, planted_page, planted_below}
use Rattle.change.proofs.Frame.{off_grid}
use Rattle.change.proofs.Held.{held_at}
use Rattle.joining.proofs.EnrolFree.{some_free}
use Rattle.change.proofs.Counts.{sited_points, items_good}
use Rattle.joining.proofs.EnrolNode.{Made, Ready}
use Rattle.joining.proofs.EnrolTree.{ready_leaf, ready_above, above_entries, chosen_place, chosen_slot, insert_made}

-- ---- an entry that a slot can hold, on the grid

pub record Sits (e : Entry) : Type 0 where
  pub fits : EntryFits e
  pub grid : RectOnGrid e.rect

sits : (e : Entry) → e.reference < 2 ^ 31 → Upright e.rect → Sits e
sits e h u =
    record {
      fits = record { reference = h; x_low = omega arith; y_low = omega arith; x_high = omega arith; y_high = omega arith };
      grid = u.grid;
    }

pub point_sits : (e : Entry) → is_point e ≡ true → Sits e
point_sits e h = sits e (omega (arith, (point e h).most)) (point_upright (point e h))

pub tree_sits : {lo l : ℕ} (t : Tree l) → 1 ≤ lo → Good lo l t → Sits (entry_of_tree l t)
tree_sits {l = l} t h g = sits (entry_of_tree l t) (omega (arith, entry_reference l t, top_inside g)) (entry_upright h g)

ready_sits : (lo l : ℕ) (ws : Words) (s : ℕ) (xs : List (Item l)) → Ready lo l ws s xs → All Sits (map (entry_of_item l) xs)
ready_sits lo zero ws s xs r =
    all_map Sits (entry_of_item zero) xs
    (all_then (λ e. is_point e ≡ true) Sits point_sits xs (sited_points xs (ap (count off_grid) (sym (join_one xs)) ∙ r.sited)))
ready_sits lo (suc l) ws s xs r =
    all_map Sits (entry_of_tree l) xs
    (all_then (Good LEAST l) (λ c. Sits (entry_of_tree l c)) (λ c g. tree_sits c (omega arith) g) xs
    (items_good l (omega (arith, r.six)) xs r.filled r.once r.inside r.sited))

-- a node that is ready to take its items, as a value of the code
pub ready_settles : {lo l : ℕ} {ws : Words} {s : ℕ} {xs : List (Item l)} → Ready lo l ws s xs → (m : Node) → Shows m (page l (map (entry_of_item l) xs)) → MaySettle ws s m
ready_settles {lo} {l} {ws} {s} {xs} r m h =
    let a : All Sits (held m) = subst (λ es. All Sits es) (sym h.entries) (ready_sits lo l ws s xs r) in
    record {
      low = r.low;
      level = omega (arith, h.level, r.six);
      nine = omega (arith, h.count, length-map xs (entry_of_item l), r.nine);
      fits = all_then Sits EntryFits (λ e i. i.fits) (held m) a;
      grid = all_then Sits (λ e. RectOnGrid e.rect) (λ e i. i.grid) (held m) a;
      room = some_free ws r.room;
    }

-- ---- what is read where an insertion may go

module _ {l : ℕ} {ws : Words} {s : ℕ} (p : Planted l ws s) where
  level_is : level_at ws s ≡ l
  level_is = ap (λ q. q.level) (planted_page p)

  entries_are : entries_at ws s ≡ entries_of_tree l p.tree
  entries_are = ap (λ q. q.entries) (planted_page p)

-- ---- in a leaf

pub leaf_settles : {ws : Words} {s : ℕ} {e : Entry} → MayInsert zero ws s e → (m : Node) → Shows m (page zero (entries_at ws s ++ e ∷ [])) → MaySettle ws s m
leaf_settles {ws} {s} {e} may m h =
    let p = may.planted in
    let t = p.tree in
    let xs = t.items ++ e ∷ [] in
    let same : entries_at ws s ++ e ∷ [] ≡ map (entry_of_item zero) xs = ap (λ es. es ++ e ∷ []) (entries_are p) ∙ sym (map-id xs) in
    subst (λ o. MaySettle ws o m) p.top
    (ready_settles (ready_leaf 1 ws t e p.long (planted_good p) p.stored may.point may.room) m
    (subst (λ es. Shows m (page zero es)) same h))

-- ---- above the leaves

-- the child that the newcomer goes to
abbrev pub child_of : Words → ℕ → Entry → ℕ
child_of ws s e = (entry_in (entries_at ws s) (chosen e.rect (entries_at ws s))).reference

pub record Steps (k : ℕ) (ws : Words) (s : ℕ) (e : Entry) : Type 0 where
  pub some : 0 < length (entries_at ws s)
  pub few : length (entries_at ws s) ≤ FAN
  pub grid : All (λ i. RectOnGrid i.rect) (entries_at ws s)
  pub place : chosen e.rect (entries_at ws s) < length (entries_at ws s)
  -- after the child
  pub long : length (inserted k ws (child_of ws s e) e).words ≡ LENGTH
  pub single : length (inserted k ws (child_of ws s e) e).new ≤ 1
  pub settles : (m : Node)
      → Shows m (page (suc k) (set (entries_at ws s) (chosen e.rect (entries_at ws s)) (entry_for (inserted k ws (child_of ws s e) e).words (child_of ws s e)) ++ (inserted k ws (child_of ws s e) e).new))
      → MaySettle (inserted k ws (child_of ws s e) e).words s m

module _ (lo k : ℕ) (ws : Words) (t : Tree (suc k)) (e : Entry) (some : 1 ≤ lo) (good : Good lo (suc k) t) (stored : Stored (suc k) ws t)
    (long : length ws ≡ LENGTH) (room : suc (suc k) ≤ free_count ws) (point : is_point e ≡ true) where
  abbrev i : ℕ
  i = chosen e.rect (entries_at ws t.slot)

  lt : i < length t.items
  lt = chosen_place lo k ws t some good stored e.rect

  below_good : Good LEAST k (child_at k t i)
  below_good = good_child good (child_in k t i lt)

  below_stored : Stored k ws (child_at k t i)
  below_stored = stored_child ws k t stored (child_in k t i lt)

  made : Made LEAST k (suc k) ws (top_of k (child_at k t i)) (slots_of k (child_at k t i)) (e ∷ leaves_of k (child_at k t i)) (inserted k ws (top_of k (child_at k t i)) e)
  made = insert_made e point LEAST k (omega arith) (omega arith) ws (child_at k t i) long below_good below_stored (omega arith)

  child_slot : child_of ws t.slot e ≡ top_of k (child_at k t i)
  child_slot = chosen_slot lo k ws t some good stored e.rect

  steps : Steps k ws t.slot e
  steps =
      let n : length (entries_at ws t.slot) ≡ length t.items = ap length (stored_entries ws good stored) ∙ length-map t.items (entry_of_tree k) in
      record {
        some = omega (arith, good.fill.0);
        few = omega (arith, good.fill.0);
        grid = rw (stored_entries ws good stored) (all_then (λ x. Upright x.rect) (λ x. RectOnGrid x.rect) (λ x u. u.grid) (entries_of_tree (suc k) t) (entries_upright good));
        place = omega (arith, lt);
        long = rw child_slot (made.frame.long ∙ long);
        single = rw child_slot (omega (arith, ap length made.handed, length-map made.new (entry_of_tree k), made.single));
        settles = rw child_slot (λ m h. ready_settles (ready_above lo k ws t e i (inserted k ws (top_of k (child_at k t i)) e) lt long good stored point room made) m
            (subst (λ es. Shows m (page (suc k) es)) (above_entries lo k ws t e i (inserted k ws (top_of k (child_at k t i)) e) lt long good stored point room made) h));
      }

-- the child that is chosen
pub child_may : {k : ℕ} {ws : Words} {s : ℕ} {e : Entry} → MayInsert (suc k) ws s e → chosen e.rect (entries_at ws s) < length (entries_at ws s) → MayInsert k ws (child_of ws s e) e
child_may {k} {ws} {s} {e} may lt = record {
  planted = all_at (λ x. Planted k ws x.reference) (entries_at ws s) (chosen e.rect (entries_at ws s)) blank_entry lt (planted_below k ws s may.planted);
  room = omega (arith, may.room);
  point = may.point;
}

pub may_steps : {k : ℕ} {ws : Words} {s : ℕ} {e : Entry} → MayInsert (suc k) ws s e → Steps k ws s e
may_steps {k} {ws} {s} {e} may =
    let p = may.planted in
    subst (λ o. Steps k ws o e) p.top (steps 2 k ws p.tree e (omega arith) (planted_good p) p.stored p.long may.room may.point)

-- ---- the values of the code

-- a leaf with the newcomer last
module _ {ws : Words} {s : ℕ} {e : Entry} (may : MayInsert zero ws s e) {n m : Node} (shown : Shows n (page_at ws s))
    (more : Shows m (page n.level (held n ++ e ∷ []))) where
  leaf_took : Shows m (page zero (entries_at ws s ++ e ∷ []))
  leaf_took =
      subst (λ l. Shows m (page l (entries_at ws s ++ e ∷ []))) (level_is may.planted) (shows_on shown m (λ es. es ++ e ∷ []) more)

  pub leaf_may : MaySettle ws s m
  leaf_may = leaf_settles may m leaf_took

  pub leaf_done : (g : Grown) → g ≡ settled ws s m.level (held m) → g ≡ inserted zero ws s e
  leaf_done g h = h ∙ rw (leaf_took.level, leaf_took.entries)

-- a node above, with the child that is chosen
module _ {k : ℕ} {ws : Words} {s : ℕ} {e : Entry} (may : MayInsert (suc k) ws s e) {n : Node} (shown : Shows n (page_at ws s)) {i : ℕ}
    (picked : i ≡ chosen e.rect (held n)) where
  pub place_in : i < n.count
  place_in = omega (arith, (may_steps may).place, picked ∙ ap (chosen e.rect) shown.entries, shown.count)

  child_is : (get_or n.entries i blank_entry).reference ≡ child_of ws s e
  child_is =
      ap (λ x. x.reference) (sym (held_at n i place_in))
      ∙ ap (λ es. (entry_in es i).reference) shown.entries
      ∙ ap (λ j. (entry_in (entries_at ws s) j).reference) (picked ∙ ap (chosen e.rect) shown.entries)

  pub child_insert : MayInsert k ws (get_or n.entries i blank_entry).reference e
  child_insert = rw child_is (child_may may (may_steps may).place)

  -- and what came back
  module _ (us : Words) (new : Option Entry) (below : grew us new ≡ inserted k ws (get_or n.entries i blank_entry).reference e) where
    below_is : grew us new ≡ inserted k ws (child_of ws s e) e
    below_is = below ∙ ap (λ o. inserted k ws o e) child_is

    module _ {tight : Entry} (read : tight ≡ entry_for us (get_or n.entries i blank_entry).reference) {r m : Node}
        (put : Shows r (page n.level (set (held n) i tight))) (more : Shows m (page r.level (held r ++ new_of new))) where
      above_took : Shows m (page (suc k) (set (entries_at ws s) (chosen e.rect (entries_at ws s)) (entry_for (inserted k ws (child_of ws s e) e).words (child_of ws s e)) ++ (inserted k ws (child_of ws s e) e).new))
      above_took =
          let es = entries_at ws s in
          let g = inserted k ws (child_of ws s e) e in
          let place : i ≡ chosen e.rect es = picked ∙ ap (chosen e.rect) shown.entries in
          let words : us ≡ g.words = ap (λ x. x.words) below_is in
          let box : tight ≡ entry_for g.words (child_of ws s e) = read ∙ ap (entry_for us) child_is ∙ ap (λ vs. entry_for vs (child_of ws s e)) words in
          let same : held r ++ new_of new ≡ set es (chosen e.rect es) (entry_for g.words (child_of ws s e)) ++ g.new =
          ap (λ fs. fs ++ new_of new) (put.entries ∙ ap (λ fs. set fs i tight) shown.entries ∙ ap (λ j. set es j tight) place ∙ ap (set es (chosen e.rect es)) box)
          ∙ ap (λ fs. set es (chosen e.rect es) (entry_for g.words (child_of ws s e)) ++ fs) (ap (λ x. x.new) below_is) in
          record {
            level = more.level ∙ put.level ∙ shown.level ∙ level_is may.planted;
            count = more.count ∙ ap length same;
            entries = more.entries ∙ same;
          }

      pub above_may : MaySettle us s m
      above_may = subst (λ ws'. MaySettle ws' s m) (sym (ap (λ g. g.words) below_is)) ((may_steps may).settles m above_took)

      pub above_done : (g : Grown) → g ≡ settled us s m.level (held m) → g ≡ inserted (suc k) ws s e
      above_done g h =
          h ∙ ap (λ vs. settled vs s m.level (held m)) (ap (λ x. x.words) below_is) ∙ rw (above_took.level, above_took.entries)
