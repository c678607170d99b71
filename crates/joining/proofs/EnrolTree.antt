-- The insertion goes down the levels: what is stored below is good, so it can be read, and the node above takes its new items. Assumes nothing.
use Prim.Native.Nat.{ℕ, zero, suc, ◌+◌, ◌≤◌, ◌<◌}
use native.Mathlib.Omega.{arith}
use native.Mathlib.Decide.{dec_lt}
use native.Mathlib.Nat.{le_of_suc-le-suc}
use mathlib.Core.Path.{◌≡◌, refl, sym, ap, ◌∙◌}
use mathlib.Core.Bool.{Bool, true, false}
use mathlib.Core.List.{List, [], ◌∷◌, ◌++◌, map, map-id, map-append}
use lib.Dec.{eqb}
use lib.ListN.{length, get_or, set, length-append, length-set, length-map}
use Rattle.grid.specs.declared.rect.Rect.{Rect}
use Rattle.order.specs.Lists.{one, count, join, All}
use Rattle.order.proofs.Lists.{count_append, join_append, join_one, all_append, all_set}
use Rattle.table.specs.declared.node.Entry.{Entry}
use Rattle.figures.specs.Figures.{LEAST, SLOTS, LENGTH}
use Rattle.table.specs.Words.{Words}
use Rattle.table.specs.Page.{page}
use Rattle.table.specs.Slots.{is_free, entries_at, entry_for}
use Rattle.table.specs.Stations.{is_point}
use Rattle.table.specs.Tree.{Tree, top_of, entry_of_tree, slots_of, leaves_of, Filled, Stored}
use Rattle.table.proofs.Slots.{page_part_used}
use Rattle.change.specs.Choose.{entry_in, chosen}
use Rattle.joining.specs.Within.{free_count}
use Rattle.joining.specs.Enrol.{Grown, settled, inserted}
use Rattle.change.proofs.Chosen.{chosen_in}
use Rattle.change.proofs.Items.{join_none, all_unit, slots_of_item}
use Rattle.change.proofs.Frame.{times, times_self, times_one, Frame, off_grid, frame_wide, frame_then, stored_kept, items_kept}
use Rattle.rules.proofs.Reading.{Good, good_child, top_inside, no_tree, child_at, child_in, child_entry, stored_child, stored_used, stored_entries, stored_entry, entry_reference}
use Rattle.change.proofs.Counts.{good_counts, counts_good, items_good, point_counts}
use Rattle.joining.proofs.EnrolFree.{free_part}
use Rattle.joining.proofs.EnrolNode.{Made, Ready, free_used, settled_made}

-- ---- lists

pub map_set : {A B : Type 0} (f : A → B) (xs : List A) (i : ℕ) (y : A) → map f (set xs i y) ≡ set (map f xs) i (f y)
map_set f [] i y = refl
map_set f (x ∷ xs) zero y = refl
map_set f (x ∷ xs) (suc i) y = ap (λ l. f x ∷ l) (map_set f xs i y)

-- what the others hold stays
pub count_set : {A B : Type 0} (T : A → List B) (P : B → Bool) (xs : List A) (i : ℕ) (d y : A) → i < length xs
    → count P (join T (set xs i y)) + count P (T (get_or xs i d)) ≡ count P (join T xs) + count P (T y)
count_set T P [] i d y h = absurd (omega arith)
count_set T P (x ∷ xs) zero d y h = omega (arith, count_append P (T y) (join T xs), count_append P (T x) (join T xs))
count_set T P (x ∷ xs) (suc i) d y h =
    omega (
      arith,
      count_append P (T x) (join T (set xs i y)),
      count_append P (T x) (join T xs),
      count_set T P xs i d y (le_of_suc-le-suc h),
    )

pub count_at : {A B : Type 0} (T : A → List B) (P : B → Bool) (xs : List A) (i : ℕ) (d : A) → i < length xs
    → count P (T (get_or xs i d)) ≤ count P (join T xs)
count_at T P [] i d h = absurd (omega arith)
count_at T P (x ∷ xs) zero d h = omega (arith, count_append P (T x) (join T xs))
count_at T P (x ∷ xs) (suc i) d h = omega (arith, count_append P (T x) (join T xs), count_at T P xs i d (le_of_suc-le-suc h))

-- ---- the slots of what is stored are used

pub used_all : (l : ℕ) (ws : Words) → ((t : Tree l) → Stored l ws t → (o : ℕ) → 1 ≤ times o (slots_of l t) → is_free ws o ≡ false)
    → (ts : List (Tree l)) → All (Stored l ws) ts → (o : ℕ) → 1 ≤ times o (join (slots_of l) ts) → is_free ws o ≡ false
used_all l ws h [] s o m = absurd (omega arith)
used_all l ws h (t ∷ ts) s o m =
    let e = count_append (eqb o) (slots_of l t) (join (slots_of l) ts) in
    elim (dec_lt 0 (times o (slots_of l t))) [ yes k ↦ h t s.0 o (omega arith) | no k ↦ used_all l ws h ts s.1 o (omega arith) ]

pub used : (l : ℕ) (ws : Words) (t : Tree l) → Stored l ws t → (o : ℕ) → 1 ≤ times o (slots_of l t) → is_free ws o ≡ false
used zero ws t s o m =
    let e : o ≡ t.slot = times_one o t.slot (omega arith) in
    ap (is_free ws) e ∙ page_part_used ws t.slot (page zero t.items) s
used (suc l) ws t s o m =
    elim (dec_lt 0 (one (eqb o t.slot))) [
      | yes k ↦ ap (is_free ws) (times_one o t.slot (omega arith)) ∙ page_part_used ws t.slot (page (suc l) (map (entry_of_tree l) t.items)) s.0
      | no k ↦ used_all l ws (used l ws) t.items s.1 o (omega arith)
    ]

-- ---- what is stored stays, but for one that another takes the place of

module _ (l : ℕ) (ws us : Words) (taken : List ℕ) (d h : Tree l) (st : Stored l us h) where
  set_kept : (xs : List (Tree l)) (i : ℕ) → i < length xs → ((o : ℕ) → times o taken + times o (join (slots_of l) xs) ≤ 1)
      → Frame (slots_of l (get_or xs i d) ++ taken) ws us → All (Stored l ws) xs → All (Stored l us) (set xs i h)
  set_kept [] i lt one f a = absurd (omega arith)
  set_kept (x ∷ xs) zero lt one f a = (
    st,
    items_kept (slots_of l x ++ taken) ws us f (suc l) xs
        (λ o m. omega (arith, one o, count_append (eqb o) (slots_of l x) taken, count_append (eqb o) (slots_of l x) (join (slots_of l) xs))) a.1,
  )
  set_kept (x ∷ xs) (suc i) lt one f a =
      let c = get_or xs i d in
      let e : (o : ℕ) → times o (slots_of l x ++ join (slots_of l) xs) ≡ times o (slots_of l x) + times o (join (slots_of l) xs) =
      λ o. count_append (eqb o) (slots_of l x) (join (slots_of l) xs) in (
        stored_kept (slots_of l c ++ taken) ws us f l x
            (λ o m. omega (arith, one o, e o, count_append (eqb o) (slots_of l c) taken, count_at (slots_of l) (eqb o) xs i d (le_of_suc-le-suc lt))) a.0,
        set_kept xs i (le_of_suc-le-suc lt) (λ o. omega (arith, one o, e o)) f a.1,
      )

-- ---- what was made, said of other lists that hold the same

pub made_as : {lo l n m : ℕ} {ws : Words} {s : ℕ} {old old' : List ℕ} {points points' : List Entry} {g : Grown} → n ≤ m
    → ((o : ℕ) → times o old ≡ times o old') → ((P : Entry → Bool) → count P points ≡ count P points')
    → Made lo l n ws s old points g → Made lo l m ws s old' points' g
made_as {old = old} {old' = old'} h a b k = record {
  here = k.here;
  new = k.new;
  taken = k.taken;
  top = k.top;
  stored = k.stored;
  stored_new = k.stored_new;
  handed = k.handed;
  slots = λ o. omega (arith, k.slots o, a o);
  leaves = λ P. k.leaves P ∙ b P;
  filled = k.filled;
  filled_new = k.filled_new;
  parted = k.parted;
  single = k.single;
  frame = frame_wide (old ++ k.taken) (old' ++ k.taken) _ _
      (λ o z. omega (arith, count_append (eqb o) old k.taken, count_append (eqb o) old' k.taken, a o)) k.frame;
  free = k.free;
  once = k.once;
  left = k.left;
  few = omega (arith, k.few);
}

-- ---- slots that were taken were free, so they are none of the tree's

pub taken_off : {lo l : ℕ} (ws : Words) {t : Tree l} → Good lo l t → Stored l ws t → (taken : List ℕ)
    → ((o : ℕ) → 1 ≤ times o taken → (o < SLOTS) × (is_free ws o ≡ true)) → ((o : ℕ) → times o taken ≤ 1)
    → (o : ℕ) → times o taken + times o (slots_of l t) ≤ 1
taken_off {l = l} ws {t = t} good stored taken free once o =
    elim (dec_lt 0 (times o taken)) [
      | yes m ↦ elim (dec_lt 0 (times o (slots_of l t))) [
        | yes p ↦ absurd (free_used ws o o (free o (omega arith)).1 (used l ws t stored o (omega arith)) refl)
        | no p ↦ omega (arith, once o)
      ]
      | no m ↦ omega (arith, (good_counts good).once o)
    ]

-- ---- the new tree is good

module _ {lo l n : ℕ} {ws : Words} {s : ℕ} {t : Tree l} {e : Entry} {g : Grown} (old : Good lo l t) (stored : Stored l ws t) (point : is_point e ≡ true)
    (k : Made lo l n ws s (slots_of l t) (e ∷ leaves_of l t) g) where
  pub all_once : (o : ℕ) → times o (slots_of l k.here) + times o (join (slots_of l) k.new) ≤ 1
  all_once o = omega (arith, k.slots o, taken_off ws old stored k.taken k.free k.once o)

  pub all_inside : (o : ℕ) → 1 ≤ times o (slots_of l k.here) + times o (join (slots_of l) k.new) → o < SLOTS
  all_inside o m =
      elim (dec_lt 0 (times o k.taken)) [
        | yes p ↦ (k.free o (omega arith)).0
        | no p ↦ (good_counts old).inside o (omega (arith, k.slots o))
      ]

  pub all_points : count off_grid (leaves_of l k.here) + count off_grid (join (leaves_of l) k.new) ≡ 0
  all_points = omega (arith, k.leaves off_grid, (good_counts old).sited, point_counts e point)

  pub good_here : Good lo l k.here
  good_here =
      counts_good old.low k.filled
      (record { once = λ o. omega (arith, all_once o); inside = λ o m. all_inside o (omega arith); sited = omega (arith, all_points) })

  pub good_new : All (Good LEAST l) k.new
  good_new =
      items_good l old.low k.new k.filled_new (λ o. omega (arith, all_once o)) (λ o m. all_inside o (omega arith)) (omega (arith, all_points))

-- ---- a leaf is to take a point

module _ (lo : ℕ) (ws : Words) (t : Tree zero) (e : Entry) (long : length ws ≡ LENGTH) (good : Good lo zero t) (stored : Stored zero ws t)
    (point : is_point e ≡ true) (room : 0 < free_count ws) where
  pub ready_leaf : Ready lo zero ws t.slot (t.items ++ e ∷ [])
  ready_leaf =
      let xs = t.items ++ e ∷ [] in
      let none : (o : ℕ) → times o (join (slots_of_item zero) xs) ≡ 0 = λ o. ap (times o) (join_none xs) in
      record {
        long = long;
        low = top_inside good;
        used = stored_used ws zero t stored;
        stored = all_unit xs;
        six = omega arith;
        apart = λ o m. absurd (omega (arith, none o));
        once = λ o. omega (arith, none o);
        inside = λ o m. absurd (omega (arith, none o));
        sited = ap (count off_grid) (join_one xs)
            ∙ omega (arith, count_append off_grid t.items (e ∷ []), (good_counts good).sited, point_counts e point);
        full = omega (arith, length-append t.items (e ∷ []), good.fill.0);
        nine = omega (arith, length-append t.items (e ∷ []), good.fill.1);
        filled = all_unit xs;
        room = room;
      }

-- ---- a node above is to take its child's new trees

module _ (lo l : ℕ) (ws : Words) (t : Tree (suc l)) (e : Entry) (i : ℕ) (g : Grown) (lt : i < length t.items) (long : length ws ≡ LENGTH)
    (good : Good lo (suc l) t) (stored : Stored (suc l) ws t) (point : is_point e ≡ true) (room : suc (suc l) ≤ free_count ws)
    (k : Made LEAST l (suc l) ws (top_of l (child_at l t i)) (slots_of l (child_at l t i)) (e ∷ leaves_of l (child_at l t i)) g) where
  abbrev pub new_items : List (Tree l)
  new_items = set t.items i k.here ++ k.new

  -- what the new items hold together
  new_slots : (o : ℕ) → times o (join (slots_of l) new_items) ≡ times o (join (slots_of l) t.items) + times o k.taken
  new_slots o =
      let S = slots_of l in
      ap (times o) (join_append S (set t.items i k.here) k.new)
      ∙ omega (
        arith,
        count_append (eqb o) (join S (set t.items i k.here)) (join S k.new),
        count_set S (eqb o) t.items i (no_tree l) k.here lt,
        k.slots o,
      )

  new_leaves : (P : Entry → Bool) → count P (join (leaves_of l) new_items) ≡ one (P e) + count P (join (leaves_of l) t.items)
  new_leaves P =
      let L = leaves_of l in
      ap (count P) (join_append L (set t.items i k.here) k.new)
      ∙ omega (
        arith,
        count_append P (join L (set t.items i k.here)) (join L k.new),
        count_set L P t.items i (no_tree l) k.here lt,
        k.leaves P,
      )

  off_taken : (o : ℕ) → times o k.taken + times o (slots_of (suc l) t) ≤ 1
  off_taken o = taken_off ws good stored k.taken k.free k.once o

  top_off : times t.slot (join (slots_of l) new_items) ≡ 0
  top_off = omega (arith, new_slots t.slot, off_taken t.slot, times_self t.slot)

  new_stored : All (Stored l g.words) new_items
  new_stored =
      all_append (Stored l g.words) (set t.items i k.here) k.new
      (set_kept l ws g.words k.taken (no_tree l) k.here k.stored t.items i lt (λ o. omega (arith, off_taken o)) k.frame stored.1)
      k.stored_new

  pub ready_above : Ready lo (suc l) g.words t.slot new_items
  ready_above =
      let c = child_at l t i in
      let s = t.slot in
      let n : length new_items ≡ length t.items + length k.new = simp (length-append, length-set) in
      let off : times s (slots_of l c ++ k.taken) ≡ 0 =
      omega (
        arith,
        count_append (eqb s) (slots_of l c) k.taken,
        count_at (slots_of l) (eqb s) t.items i (no_tree l) lt,
        off_taken s,
        times_self s,
      ) in
      record {
        long = k.frame.long ∙ long;
        low = top_inside good;
        used = free_part g.words ws s (k.frame.kept s off) ∙ stored_used ws (suc l) t stored;
        stored = new_stored;
        six = good.low;
        once = λ o. omega (arith, new_slots o, off_taken o);
        apart = λ o m. (
          (λ h. omega (arith, m, ap (λ z. times z (join (slots_of l) new_items)) h, top_off)),
          used_all l g.words (used l g.words) new_items new_stored o m,
        );
        inside = λ o m.
            elim (dec_lt 0 (times o k.taken)) [
              | yes p ↦ (k.free o (omega arith)).0
              | no p ↦ (good_counts good).inside o (omega (arith, new_slots o))
            ];
        sited = omega (arith, new_leaves off_grid, (good_counts good).sited, point_counts e point);
        full = omega (arith, good.fill.0);
        nine = omega (arith, good.fill.0, k.single);
        filled = all_append (Filled LEAST l) (set t.items i k.here) k.new
            (all_set (Filled LEAST l) t.items i k.here good.fill.1 k.filled) k.filled_new;
        room = omega (arith, k.left, k.few);
      }

  -- the entries that the node gets are those of its new items
  pub above_entries : set (entries_at ws t.slot) i (entry_for g.words (top_of l (child_at l t i))) ++ g.new ≡ map (entry_of_tree l) new_items
  above_entries =
      let c = child_at l t i in
      let a : entries_at ws t.slot ≡ map (entry_of_tree l) t.items = stored_entries ws good stored in
      let below : Good LEAST l c = good_child good (child_in l t i lt) in
      let b : entry_for g.words (top_of l c) ≡ entry_of_tree l k.here =
      ap (entry_for g.words) (sym k.top)
      ∙ stored_entry g.words (good_here below (stored_child ws l t stored (child_in l t i lt)) point k) k.stored in
      rw (a, b, k.handed, map-append (entry_of_tree l) (set t.items i k.here) k.new, map_set (entry_of_tree l) t.items i k.here)

  -- the node with its new items, after the child
  pub above_made : lo ≤ 4 → Made lo (suc l) (suc (suc l)) ws t.slot (slots_of (suc l) t) (e ∷ leaves_of (suc l) t)
      (settled g.words t.slot (suc l) (map (entry_of_tree l) new_items))
  above_made lo4 =
      let s = t.slot in
      let c = child_at l t i in
      let m = settled_made lo (suc l) g.words s new_items ready_above lo4 in
      let all = slots_of (suc l) t ++ (m.taken ++ k.taken) in
      let at : (o : ℕ) → times o all ≡ (one (eqb o s) + times o (join (slots_of l) t.items)) + (times o m.taken + times o k.taken) = λ o.
      omega (arith, count_append (eqb o) (slots_of (suc l) t) (m.taken ++ k.taken), count_append (eqb o) m.taken k.taken) in
      let below : (o : ℕ) → times o (slots_of l c ++ k.taken) ≤ times o (join (slots_of l) t.items) + times o k.taken = λ o.
      omega (arith, count_append (eqb o) (slots_of l c) k.taken, count_at (slots_of l) (eqb o) t.items i (no_tree l) lt) in
      -- a slot that the node takes was free after the child, so it is none of the child's and was free before
      let apart : (o : ℕ) → 1 ≤ times o m.taken → times o (join (slots_of l) new_items) ≡ 0 = λ o p.
      elim (dec_lt 0 (times o (join (slots_of l) new_items))) [
        | yes q ↦ absurd (free_used g.words o o (m.free o p).1 (ready_above.apart o (omega arith)).1 refl)
        | no q ↦ omega arith
      ] in
      record {
        here = m.here;
        new = m.new;
        taken = m.taken ++ k.taken;
        top = m.top;
        stored = m.stored;
        stored_new = m.stored_new;
        handed = m.handed;
        slots = λ o. omega (arith, m.slots o, new_slots o, count_append (eqb o) m.taken k.taken);
        leaves = λ P. omega (arith, m.leaves P, new_leaves P);
        filled = m.filled;
        filled_new = m.filled_new;
        parted = m.parted;
        single = m.single;
        frame = frame_then all ws g.words _
            (frame_wide (slots_of l c ++ k.taken) all ws g.words (λ o z. omega (arith, z, at o, below o)) k.frame)
            (frame_wide ((s ∷ join (slots_of l) new_items) ++ m.taken) all g.words _
            (λ o z. omega (arith, z, at o, new_slots o, count_append (eqb o) (s ∷ join (slots_of l) new_items) m.taken)) m.frame);
        free = λ o z.
            elim (dec_lt 0 (times o m.taken)) [
              | yes p ↦ (
                (m.free o p).0,
                sym (free_part g.words ws o (k.frame.kept o (omega (arith, apart o p, new_slots o, below o)))) ∙ (m.free o p).1,
              )
              | no p ↦ k.free o (omega (arith, z, count_append (eqb o) m.taken k.taken))
            ];
        once = λ o.
            elim (dec_lt 0 (times o m.taken)) [
              | yes p ↦ omega (arith, m.once o, apart o p, new_slots o, count_append (eqb o) m.taken k.taken)
              | no p ↦ omega (arith, k.once o, count_append (eqb o) m.taken k.taken)
            ];
        left = omega (arith, m.left, k.left, length-append m.taken k.taken);
        few = omega (arith, m.few, k.few, length-append m.taken k.taken);
      }

-- ---- the insertion

-- the child that is chosen is one of the node's
module _ (lo l : ℕ) (ws : Words) (t : Tree (suc l)) (some : 1 ≤ lo) (good : Good lo (suc l) t) (stored : Stored (suc l) ws t) (new : Rect) where
  pub chosen_place : chosen new (entries_at ws t.slot) < length t.items
  chosen_place =
      let es = entries_at ws t.slot in
      let n : length es ≡ length t.items = ap length (stored_entries ws good stored) ∙ length-map t.items (entry_of_tree l) in
      omega (arith, chosen_in new es (omega (arith, good.fill.0)))

  pub chosen_slot : (entry_in (entries_at ws t.slot) (chosen new (entries_at ws t.slot))).reference
      ≡ top_of l (child_at l t (chosen new (entries_at ws t.slot)))
  chosen_slot =
      let i = chosen new (entries_at ws t.slot) in
      ap (λ es. (entry_in es i).reference) (stored_entries ws good stored)
      ∙ ap (λ (e : Entry). e.reference) (child_entry l t i chosen_place)
      ∙ entry_reference l (child_at l t i)

module _ (e : Entry) (point : is_point e ≡ true) where
  insert_leaf : (lo : ℕ) → lo ≤ 4 → (ws : Words) (t : Tree zero) → length ws ≡ LENGTH → Good lo zero t → Stored zero ws t → 1 ≤ free_count ws
      → Made lo zero 1 ws t.slot (t.slot ∷ []) (e ∷ t.items) (inserted zero ws t.slot e)
  insert_leaf lo lo4 ws t long good stored room =
      let xs = t.items ++ e ∷ [] in
      rw (stored_entries ws good stored, ← map-id xs)
      (made_as (omega arith) (λ o. omega (arith, ap (times o) (join_none {B = ℕ} xs)))
      (λ P. ap (count P) (join_one xs) ∙ omega (arith, count_append P t.items (e ∷ [])))
      (settled_made lo zero ws t.slot xs (ready_leaf lo ws t e long good stored point (omega arith)) lo4))

  insert_above : (lo l : ℕ) → 1 ≤ lo → lo ≤ 4 → (ws : Words) (t : Tree (suc l)) → length ws ≡ LENGTH → Good lo (suc l) t → Stored (suc l) ws t → suc (suc l) ≤ free_count ws
      → ((c : Tree l) → Good LEAST l c → Stored l ws c → Made LEAST l (suc l) ws (top_of l c) (slots_of l c) (e ∷ leaves_of l c) (inserted l ws (top_of l c) e))
      → Made lo (suc l) (suc (suc l)) ws t.slot (slots_of (suc l) t) (e ∷ leaves_of (suc l) t) (inserted (suc l) ws t.slot e)
  insert_above lo l some lo4 ws t long good stored room ih =
      let i = chosen e.rect (entries_at ws t.slot) in
      let lt = chosen_place lo l ws t some good stored e.rect in
      let m = child_in l t i lt in
      let k = ih (child_at l t i) (good_child good m) (stored_child ws l t stored m) in
      let g = inserted l ws (top_of l (child_at l t i)) e in
      rw (chosen_slot lo l ws t some good stored e.rect, above_entries lo l ws t e i g lt long good stored point room k)
      (above_made lo l ws t e i g lt long good stored point room k lo4)

  pub insert_made : (lo l : ℕ) → 1 ≤ lo → lo ≤ 4 → (ws : Words) (t : Tree l) → length ws ≡ LENGTH → Good lo l t → Stored l ws t → suc l ≤ free_count ws
      → Made lo l (suc l) ws (top_of l t) (slots_of l t) (e ∷ leaves_of l t) (inserted l ws (top_of l t) e)
  insert_made lo zero some lo4 ws t long good stored room = insert_leaf lo lo4 ws t long good stored room
  insert_made lo (suc l) some lo4 ws t long good stored room =
      insert_above lo l some lo4 ws t long good stored room
      (λ c h s. insert_made LEAST l (omega arith) (omega arith) ws c long h s (omega arith))
