-- A point is taken out of a stored tree: what the words hold afterwards is a tree with the same top slot and all other points, whose top has at most one item less. By recursion on the level; a child that falls to two joins a sibling. Assumes nothing.
use Prim.Native.Nat.{ℕ, zero, suc, ◌+◌, ◌-◌, ◌≤◌, ◌<◌}
use native.Mathlib.Omega.{arith}
use mathlib.Core.Path.{◌≡◌, refl, sym, ap, subst, ◌∙◌}
use mathlib.Core.Bool.{Bool, true, cond, ◌||◌}
use mathlib.Core.List.{List, [], ◌∷◌, ◌++◌, map, map-append, append_assoc}
use lib.Dec.{eqb, ltb}
use lib.ListN.{length, set, length-append, length-map}
use borrow.Author.Tests.{eqb-true, ltb-true, ltb-false, lt-ltb, le-ltb}
use Rattle.order.specs.Lists.{one, count, some, first_place, join, All}
use Rattle.order.proofs.Lists.{by_bool, by_leb, count_append, all_append}
use Rattle.table.specs.declared.node.Entry.{Entry}
use Rattle.figures.specs.Figures.{FAN, LEAST, SLOTS, LENGTH}
use Rattle.table.specs.Words.{Words, part_at}
use Rattle.table.specs.Page.{page, free_words, without}
use Rattle.table.specs.Slots.{entries_at, put_page, entry_for}
use Rattle.table.specs.Tree.{Tree, bough, top_of, entry_of_tree, slots_of, leaves_of, least_of, Filled, Stored}
use Rattle.table.proofs.Slots.{put_here, put_other}
use Rattle.rules.proofs.Joined.{all_left, all_right}
use Rattle.rules.proofs.Reading.{Good, entry_reference, stored_entries, stored_entry}
use Rattle.change.specs.Choose.{entry_in}
use Rattle.leaving.specs.Withdraw.{holds, tight_at, joined, lower_place, mended, removed}
use Rattle.change.proofs.Items.{
  items_of,
  FilledItem,
  entry_of_item,
  entries_items,
  filled_node,
  node_filled,
  tree_same,
}
use Rattle.change.proofs.Planting.{filled_least}
use Rattle.change.proofs.Flat.{Flat, flat_part, flat_good}
use Rattle.change.proofs.Frame.{
  times,
  times_self,
  Frame,
  frame_none,
  frame_wide,
  frame_then,
  put_frame,
  items_kept,
  off_grid,
}
use Rattle.leaving.proofs.WithdrawJoin.{count_mid, without_at, put_stored, Known, Written, at_seam, set_seam, joined_written}

-- ---- the first that passes a test

pub first_split : {A : Type 0} (P : A → Bool) (xs : List A) → some P xs ≡ true
    → (bs : List A) × (x : A) × (zs : List A) × (xs ≡ bs ++ x ∷ zs) × (first_place P xs ≡ length bs) × (P x ≡ true)
first_split P [] h = absurd (let z : ◌≡◌ {A = ℕ} 0 1 = cc in omega arith)
first_split {A} P (x ∷ xs) h =
    let ih : some P xs ≡ true → (bs : List A) × (y : A) × (zs : List A) × (xs ≡ bs ++ y ∷ zs) × (first_place P xs ≡ length bs) × (P y ≡ true) =
    λ k. first_split P xs k in
    by_bool
    (λ b. P x ≡ b → (b || some P xs) ≡ true
    → (bs : List A) × (y : A) × (zs : List A) × (x ∷ xs ≡ bs ++ y ∷ zs) × (cond b 0 (1 + first_place P xs) ≡ length bs) × (P y ≡ true))
    (P x)
    (λ e f k. ([], x, xs, refl, refl, f))
    (λ e f k. let r = ih k in (x ∷ r.0, r.1, r.2, ap (λ l. x ∷ l) r.3, omega (arith, r.4), r.5)) refl h

pub some_map : {A B : Type 0} (f : A → B) (P : B → Bool) (xs : List A) → some P (map f xs) ≡ some (λ x. P (f x)) xs
some_map f P [] = refl
some_map f P (x ∷ xs) = ap (λ b. P (f x) || b) (some_map f P xs)

pub first_map : {A B : Type 0} (f : A → B) (P : B → Bool) (xs : List A) → first_place P (map f xs) ≡ first_place (λ x. P (f x)) xs
first_map f P [] = refl
first_map f P (x ∷ xs) = ap (λ n. cond (P (f x)) 0 (1 + n)) (first_map f P xs)

last_split : {A : Type 0} (xs : List A) → 1 ≤ length xs → (ys : List A) × (y : A) × (xs ≡ ys ++ y ∷ [])
last_split [] h = absurd (omega arith)
last_split (x ∷ []) h = ([], x, refl)
last_split (x ∷ y ∷ ys) h = let r = last_split (y ∷ ys) (omega arith) in (x ∷ r.0, r.1, ap (λ l. x ∷ l) r.2)

-- ---- a tree that is stored and can be read

pub record Ready (l : ℕ) (ws : Words) (t : Tree l) : Type 0 where
  pub low : l ≤ 5
  pub long : length ws ≡ LENGTH
  pub fill : Filled (least_of l) l t
  pub flat : Flat (slots_of l t) (leaves_of l t)
  pub stored : Stored l ws t

pub ready_good : {l : ℕ} {ws : Words} {t : Tree l} → Ready l ws t → Good (least_of l) l t
ready_good {l} {ws} {t} r = flat_good (least_of l) l t r.low r.fill r.flat

pub child_ready : (l : ℕ) (ws : Words) (s : ℕ) (bs : List (Tree l)) (c : Tree l) (zs : List (Tree l))
    → Ready (suc l) ws (bough s (bs ++ c ∷ zs)) → Ready l ws c
child_ready l ws s bs c zs r = record {
  low = omega (arith, r.low);
  long = r.long;
  fill = filled_least l c (all_right (Filled LEAST l) bs (c ∷ zs) r.fill.1).0;
  flat = flat_part (slots_of (suc l) (bough s (bs ++ c ∷ zs))) (slots_of l c) (leaves_of (suc l) (bough s (bs ++ c ∷ zs))) (leaves_of l c)
      (λ o. omega (arith, count_mid (slots_of l) (eqb o) bs c zs)) (omega (arith, count_mid (leaves_of l) off_grid bs c zs)) r.flat;
  stored = (all_right (Stored l ws) bs (c ∷ zs) r.stored.1).0;
}

-- ---- a tree with one point less

pub record Cut (l : ℕ) (ws : Words) (t : Tree l) (n : ℕ) (after : Words) : Type 0 where
  pub tree : Tree l
  pub gone : Entry
  -- the slots that became free
  pub free : List ℕ
  pub number : gone.reference ≡ n
  pub top : top_of l tree ≡ top_of l t
  pub least : length (items_of l t) ≤ 1 + length (items_of l tree)
  pub most : length (items_of l tree) ≤ length (items_of l t)
  pub filled : All (FilledItem l) (items_of l tree)
  pub leaves : (P : Entry → Bool) → one (P gone) + count P (leaves_of l tree) ≡ count P (leaves_of l t)
  pub slots : (P : ℕ → Bool) → count P (slots_of l tree) + count P free ≡ count P (slots_of l t)
  pub stored : Stored l after tree
  pub freed : (o : ℕ) → 1 ≤ times o free → part_at after o ≡ free_words
  pub frame : Frame (slots_of l t) ws after

-- ---- a leaf

module _ (ws : Words) (s n : ℕ) (bs : List Entry) (e : Entry) (zs : List Entry) (ready : Ready zero ws (bough s (bs ++ e ∷ zs))) (is : e.reference ≡ n) where
  leaf_cut : Cut zero ws (bough s (bs ++ e ∷ zs)) n (put_page ws s (page zero (bs ++ zs)))
  leaf_cut =
      let a = length-append bs (e ∷ zs) in
      let b = length-append bs zs in
      let low : s < SLOTS = ready.flat.inside s (omega (arith, times_self s)) in
      let few : length (bs ++ zs) ≤ FAN = omega (arith, ready.fill.1) in
      record {
        tree = bough s (bs ++ zs);
        gone = e;
        free = [];
        number = is;
        top = refl;
        least = omega arith;
        most = omega arith;
        filled = (filled_node zero 0 (bough s (bs ++ zs)) (omega arith, few)).2;
        leaves = λ P. omega (arith, count_append P bs (e ∷ zs), count_append P bs zs);
        slots = λ P. omega arith;
        stored = put_here ws s (page zero (bs ++ zs)) ready.long low few;
        freed = λ o m. absurd (omega arith);
        frame = put_frame (s ∷ []) ws s ready.long low (omega (arith, times_self s)) (page zero (bs ++ zs)) few;
      }

-- ---- a node above: the child's words have changed, and the node is written over them

module _ (l : ℕ) (ws : Words) (s n : ℕ) (bs : List (Tree l)) (c : Tree l) (zs : List (Tree l)) (ready : Ready (suc l) ws (bough s (bs ++ c ∷ zs)))
    (mid : Words) (cut : Cut l ws c n mid) where
  abbrev c' : Tree l
  c' = cut.tree

  abbrev old : List (Tree l)
  old = bs ++ c ∷ zs

  abbrev new : List (Tree l)
  new = bs ++ c' ∷ zs

  new_slots : (P : ℕ → Bool) → count P (join (slots_of l) new) + count P cut.free ≡ count P (join (slots_of l) old)
  new_slots P = omega (arith, count_mid (slots_of l) P bs c zs, count_mid (slots_of l) P bs c' zs, cut.slots P)

  new_leaves : (P : Entry → Bool) → one (P cut.gone) + count P (join (leaves_of l) new) ≡ count P (join (leaves_of l) old)
  new_leaves P = omega (arith, count_mid (leaves_of l) P bs c zs, count_mid (leaves_of l) P bs c' zs, cut.leaves P)

  new_length : length new ≡ length old
  new_length = omega (arith, length-append bs (c ∷ zs), length-append bs (c' ∷ zs))

  s_low : s < SLOTS
  s_low = ready.flat.inside s (omega (arith, times_self s))

  s_out : times s (join (slots_of l) old) ≡ 0
  s_out = omega (arith, ready.flat.once s, times_self s)

  mid_long : length mid ≡ LENGTH
  mid_long = cut.frame.long ∙ ready.long

  -- a sibling stays
  stay : (xs : List (Tree l)) → ((o : ℕ) → times o (join (slots_of l) xs) ≤ times o (join (slots_of l) bs) + times o (join (slots_of l) zs))
      → All (Stored l ws) xs → All (Stored l mid) xs
  stay xs h st =
      items_kept (slots_of l c) ws mid cut.frame (suc l) xs
      (λ o m. omega (arith, ready.flat.once o, h o, count_mid (slots_of l) (eqb o) bs c zs)) st

  pub new_known : Known l mid new
  new_known = record {
    low = omega (arith, ready.low);
    long = mid_long;
    stored = all_append (Stored l mid) bs (c' ∷ zs) (stay bs (λ o. omega arith) (all_left (Stored l ws) bs (c ∷ zs) ready.stored.1))
        (cut.stored, stay zs (λ o. omega arith) (all_right (Stored l ws) bs (c ∷ zs) ready.stored.1).1);
    flat = flat_part (slots_of (suc l) (bough s old)) (join (slots_of l) new) (leaves_of (suc l) (bough s old)) (join (leaves_of l) new)
        (λ o. omega (arith, new_slots (eqb o))) (omega (arith, new_leaves off_grid)) ready.flat;
  }

  pub written_cut : (after : Words) → Written l mid s new after → Cut (suc l) ws (bough s old) n after
  written_cut after w =
      let now = w.0 in
      let ys = w.1 in
      let free = w.2 in
      let r = w.3 in
      let p = page (suc l) (map (entry_of_tree l) ys) in
      let long : length now ≡ LENGTH = r.frame.long ∙ mid_long in
      let few : length ys ≤ FAN = omega (arith, ready.fill.0.1, r.most, new_length) in
      let wide : length p.entries ≤ FAN = omega (arith, length-map ys (entry_of_tree l)) in
      let other : (o : ℕ) → 1 ≤ times o (join (slots_of l) old) → part_at (put_page now s p) o ≡ part_at now o =
      λ o m. put_other now s p long s_low wide o (λ e. omega (arith, s_out, subst (λ k. 1 ≤ times k (join (slots_of l) old)) e m)) in
      subst (Cut (suc l) ws (bough s old) n) (sym w.4)
      (record {
        tree = bough s ys;
        gone = cut.gone;
        free = free ++ cut.free;
        number = cut.number;
        top = refl;
        least = omega (arith, r.least, new_length);
        most = omega (arith, r.most, new_length);
        filled = r.filled;
        leaves = λ P. omega (arith, r.leaves P, new_leaves P);
        slots = λ P. omega (arith, r.slots P, new_slots P, count_append P free cut.free);
        stored = put_stored (suc l) now s ys long s_low few (omega (arith, s_out, r.slots (eqb s), new_slots (eqb s))) r.stored;
        freed = λ o m. other o (omega (arith, r.slots (eqb o), new_slots (eqb o), count_append (eqb o) free cut.free))
            ∙ by_leb (λ b. part_at now o ≡ free_words) 1 (times o free) (λ h. r.freed o h)
            (λ h. r.frame.kept o (omega (arith, ready.flat.once o, new_slots (eqb o), count_append (eqb o) free cut.free))
            ∙ cut.freed o (omega (arith, count_append (eqb o) free cut.free)));
        frame = frame_then (slots_of (suc l) (bough s old)) ws now (put_page now s p)
            (frame_then (slots_of (suc l) (bough s old)) ws mid now
            (frame_wide (slots_of l c) (slots_of (suc l) (bough s old)) ws mid (λ o z. omega (arith, count_mid (slots_of l) (eqb o) bs c zs)) cut.frame)
            (frame_wide (join (slots_of l) new) (slots_of (suc l) (bough s old)) mid now (λ o z. omega (arith, new_slots (eqb o))) r.frame))
            (put_frame (slots_of (suc l) (bough s old)) now s long s_low (omega (arith, times_self s)) p wide);
      })

  -- ---- the child afterwards

  pub before : All (Filled LEAST l) bs
  before = all_left (Filled LEAST l) bs (c ∷ zs) ready.fill.1

  pub after_all : All (Filled LEAST l) zs
  after_all = (all_right (Filled LEAST l) bs (c ∷ zs) ready.fill.1).1

  pub child_fill : Filled 2 l c'
  child_fill =
      let f = filled_node l LEAST c (all_right (Filled LEAST l) bs (c ∷ zs) ready.fill.1).0 in
      subst (Filled 2 l) (tree_same l c')
      (node_filled l 2 (top_of l c') (items_of l c') (omega (arith, f.0, cut.least), omega (arith, f.1, cut.most), cut.filled))

  child_good : Good 2 l c'
  child_good =
      flat_good 2 l c' new_known.low child_fill
      (flat_part (join (slots_of l) new) (slots_of l c') (join (leaves_of l) new) (leaves_of l c')
      (λ o. omega (arith, count_mid (slots_of l) (eqb o) bs c' zs)) (omega (arith, count_mid (leaves_of l) off_grid bs c' zs)) new_known.flat)

  abbrev entries : List Entry
  entries = map (entry_of_tree l) bs ++ entry_of_tree l c ∷ map (entry_of_tree l) zs

  child_ref : (entry_in entries (length bs)).reference ≡ top_of l c'
  child_ref =
      ap (λ e. e.reference) (at_seam l bs (entry_of_tree l c) (map (entry_of_tree l) zs)) ∙ entry_reference l c ∙ sym cut.top

  child_count : length (entries_at mid (entry_in entries (length bs)).reference) ≡ length (items_of l c')
  child_count =
      ap (λ k. length (entries_at mid k)) child_ref
      ∙ ap length (stored_entries mid child_good cut.stored ∙ entries_items l c')
      ∙ length-map (items_of l c') (entry_of_item l)

  -- the child has enough, and the box above it is made tight
  tight_written : LEAST ≤ length (items_of l c') → Written l mid s new (put_page mid s (page (suc l) (tight_at mid entries (length bs))))
  tight_written h =
      let f : Filled LEAST l c' =
      subst (Filled LEAST l) (tree_same l c') (node_filled l LEAST (top_of l c') (items_of l c') (h, (filled_node l 2 c' child_fill).1, cut.filled)) in
      let e : tight_at mid entries (length bs) ≡ map (entry_of_tree l) new =
      ap (set entries (length bs)) (ap (entry_for mid) child_ref ∙ stored_entry mid child_good cut.stored)
      ∙ set_seam l bs (entry_of_tree l c) (map (entry_of_tree l) zs) (entry_of_tree l c')
      ∙ sym (map-append (entry_of_tree l) bs (c' ∷ zs)) in (
        mid,
        new,
        [],
        record {
          frame = frame_none (join (slots_of l) new) mid;
          stored = new_known.stored;
          filled = all_append (Filled LEAST l) bs (c' ∷ zs) before (f, after_all);
          slots = λ P. omega arith;
          leaves = λ P. refl;
          freed = λ o m. absurd (omega arith);
          least = omega arith;
          most = omega arith;
        },
        ap (λ x. put_page mid s (page (suc l) x)) e,
      )

-- ---- the child has two: it joins the next sibling by place, or the previous one if it is last

pub filled_two : (l : ℕ) (t : Tree l) → Filled LEAST l t → Filled 2 l t
filled_two zero t f = (omega arith, f.1)
filled_two (suc l) t f = ((omega arith, f.0.1), f.1)

next_written : (l : ℕ) (ws : Words) (s n : ℕ) (bs : List (Tree l)) (c q : Tree l) (zs : List (Tree l)) (ready : Ready (suc l) ws (bough s (bs ++ c ∷ q ∷ zs)))
    (mid : Words) (cut : Cut l ws c n mid) → length (items_of l cut.tree) < LEAST
    → Written l mid s (bs ++ cut.tree ∷ q ∷ zs) (joined mid s l (map (entry_of_tree l) bs ++ entry_of_tree l c ∷ entry_of_tree l q ∷ map (entry_of_tree l) zs) (length bs))
next_written l ws s n bs c q zs ready mid cut h =
    let t = cut.tree in
    let fq = (after_all l ws s n bs c (q ∷ zs) ready mid cut).0 in
    let ft = child_fill l ws s n bs c (q ∷ zs) ready mid cut in
    let nq = filled_node l LEAST q fq in
    let nt = filled_node l 2 t ft in
    let k = length-append (items_of l t) (items_of l q) in
    joined_written l mid bs t q zs (new_known l ws s n bs c (q ∷ zs) ready mid cut)
    (before l ws s n bs c (q ∷ zs) ready mid cut) (after_all l ws s n bs c (q ∷ zs) ready mid cut).1
    ft (filled_two l q fq) (omega (arith, nq.0, nt.0)) (omega (arith, nq.1, nt.1))
    s (entry_of_tree l c) (entry_of_tree l q) (entry_reference l c ∙ sym cut.top) (entry_reference l q)

last_written : (l : ℕ) (ws : Words) (s n : ℕ) (bs : List (Tree l)) (p c : Tree l) (ready : Ready (suc l) ws (bough s ((bs ++ p ∷ []) ++ c ∷ [])))
    (mid : Words) (cut : Cut l ws c n mid) → length (items_of l cut.tree) < LEAST
    → Written l mid s ((bs ++ p ∷ []) ++ cut.tree ∷ []) (joined mid s l (map (entry_of_tree l) (bs ++ p ∷ []) ++ entry_of_tree l c ∷ []) (length bs))
last_written l ws s n bs p c ready mid cut h =
    let t = cut.tree in
    let fs = before l ws s n (bs ++ p ∷ []) c [] ready mid cut in
    let fp = (all_right (Filled LEAST l) bs (p ∷ []) fs).0 in
    let ft = child_fill l ws s n (bs ++ p ∷ []) c [] ready mid cut in
    let np = filled_node l LEAST p fp in
    let nt = filled_node l 2 t ft in
    let k = length-append (items_of l p) (items_of l t) in
    let e : (bs ++ p ∷ []) ++ t ∷ [] ≡ bs ++ p ∷ t ∷ [] = append_assoc bs (p ∷ []) (t ∷ []) in
    let g : map (entry_of_tree l) (bs ++ p ∷ []) ++ entry_of_tree l c ∷ [] ≡ map (entry_of_tree l) bs ++ entry_of_tree l p ∷ entry_of_tree l c ∷ [] =
    ap (λ x. x ++ entry_of_tree l c ∷ []) (map-append (entry_of_tree l) bs (p ∷ [])) ∙ append_assoc (map (entry_of_tree l) bs) (entry_of_tree l p ∷ []) (entry_of_tree l c ∷ []) in
    let w : Written l mid s (bs ++ p ∷ t ∷ []) (joined mid s l (map (entry_of_tree l) bs ++ entry_of_tree l p ∷ entry_of_tree l c ∷ []) (length bs)) =
    joined_written l mid bs p t [] (subst (Known l mid) e (new_known l ws s n (bs ++ p ∷ []) c [] ready mid cut))
    (all_left (Filled LEAST l) bs (p ∷ []) fs) tt
    (filled_two l p fp) ft (omega (arith, np.0, nt.0)) (omega (arith, np.1, nt.1))
    s (entry_of_tree l p) (entry_of_tree l c) (entry_reference l p) (entry_reference l c ∙ sym cut.top) in
    rw (e, g) w

-- the place of the lower of the two
lower_next : (es : List Entry) (i : ℕ) → i + 1 < length es → lower_place es i ≡ i
lower_next es i h = ap (λ b. cond b i (i - 1)) (lt-ltb (i + 1) (length es) h)

lower_last : (es : List Entry) (i : ℕ) → length es ≡ i + 1 → lower_place es i ≡ i - 1
lower_last es i h = ap (λ b. cond b i (i - 1)) (le-ltb (i + 1) (length es) (omega arith))

low_written : (l : ℕ) (ws : Words) (s n : ℕ) (bs : List (Tree l)) (c : Tree l) (zs : List (Tree l)) (ready : Ready (suc l) ws (bough s (bs ++ c ∷ zs)))
    (mid : Words) (cut : Cut l ws c n mid) → length (items_of l cut.tree) < LEAST
    → let es = map (entry_of_tree l) bs ++ entry_of_tree l c ∷ map (entry_of_tree l) zs in
    Written l mid s (bs ++ cut.tree ∷ zs) (joined mid s l es (lower_place es (length bs)))
low_written l ws s n bs c [] ready mid cut h =
    let n = length-append bs (c ∷ []) in
    let r = last_split bs (omega (arith, ready.fill.0.0)) in
    let ys = r.0 in
    let y = r.1 in
    let goal : List (Tree l) → Type 0 = λ b. Ready (suc l) ws (bough s (b ++ c ∷ [])) → let es = map (entry_of_tree l) b ++ entry_of_tree l c ∷ [] in
    Written l mid s (b ++ cut.tree ∷ []) (joined mid s l es (lower_place es (length b))) in
    let g : goal (ys ++ y ∷ []) = λ rd.
    let es = map (entry_of_tree l) (ys ++ y ∷ []) ++ entry_of_tree l c ∷ [] in
    let k = length-append ys (y ∷ []) in
    let m = length-append (map (entry_of_tree l) (ys ++ y ∷ [])) (entry_of_tree l c ∷ []) in
    let j = length-map (ys ++ y ∷ []) (entry_of_tree l) in
    let e : lower_place es (length (ys ++ y ∷ [])) ≡ length ys = lower_last es (length (ys ++ y ∷ [])) (omega arith) ∙ omega arith in
    rw e (last_written l ws s _ ys y c rd mid cut h) in
    subst goal (sym r.2) g ready
low_written l ws s n bs c (q ∷ zs) ready mid cut h =
    let es = map (entry_of_tree l) bs ++ entry_of_tree l c ∷ entry_of_tree l q ∷ map (entry_of_tree l) zs in
    let m = length-append (map (entry_of_tree l) bs) (entry_of_tree l c ∷ entry_of_tree l q ∷ map (entry_of_tree l) zs) in
    let j = length-map bs (entry_of_tree l) in
    let e : lower_place es (length bs) ≡ length bs = lower_next es (length bs) (omega arith) in
    rw e (next_written l ws s n bs c q zs ready mid cut h)

-- ---- the node is mended

mended_cut : (l : ℕ) (ws : Words) (s n : ℕ) (bs : List (Tree l)) (c : Tree l) (zs : List (Tree l)) → Ready (suc l) ws (bough s (bs ++ c ∷ zs))
    → (mid : Words) → Cut l ws c n mid
    → Cut (suc l) ws (bough s (bs ++ c ∷ zs)) n (mended mid s l (map (entry_of_tree l) bs ++ entry_of_tree l c ∷ map (entry_of_tree l) zs) (length bs))
unfolding mended
mended_cut l ws s n bs c zs ready mid cut =
    let es = map (entry_of_tree l) bs ++ entry_of_tree l c ∷ map (entry_of_tree l) zs in
    let k = length (entries_at mid (entry_in es (length bs)).reference) in
    let e : k ≡ length (items_of l cut.tree) = child_count l ws s n bs c zs ready mid cut in
    let to : (after : Words) → Written l mid s (bs ++ cut.tree ∷ zs) after → Cut (suc l) ws (bough s (bs ++ c ∷ zs)) n after =
    written_cut l ws s n bs c zs ready mid cut in
    by_bool
    (λ b. ltb k LEAST ≡ b
    → Cut (suc l) ws (bough s (bs ++ c ∷ zs)) n (cond b (joined mid s l es (lower_place es (length bs))) (put_page mid s (page (suc l) (tight_at mid es (length bs))))))
    (ltb k LEAST)
    (λ h f. to _ (low_written l ws s n bs c zs ready mid cut (omega (arith, ltb-true k LEAST h))))
    (λ h f. to _ (tight_written l ws s n bs c zs ready mid cut (omega (arith, ltb-false k LEAST h)))) refl

-- the way down leads to the first child that holds the number
node_removal : (l : ℕ) (ws : Words) (s n : ℕ) (bs : List (Tree l)) (c : Tree l) (zs : List (Tree l)) → Ready (suc l) ws (bough s (bs ++ c ∷ zs))
    → first_place (λ x. holds l ws (entry_of_tree l x).reference n) (bs ++ c ∷ zs) ≡ length bs
    → Cut l ws c n (removed l ws (top_of l c) n) → Cut (suc l) ws (bough s (bs ++ c ∷ zs)) n (removed (suc l) ws s n)
node_removal l ws s n bs c zs r first below =
    let f = entry_of_tree l in
    let P : Entry → Bool = λ e. holds l ws e.reference n in
    let es = map f bs ++ f c ∷ map f zs in
    let e : entries_at ws s ≡ map f (bs ++ c ∷ zs) = stored_entries ws (ready_good r) r.stored in
    let m : map f (bs ++ c ∷ zs) ≡ es = map-append f bs (c ∷ zs) in
    let i : first_place P es ≡ length bs = ap (first_place P) (sym m) ∙ first_map f P (bs ++ c ∷ zs) ∙ first in
    let a : (entry_in es (length bs)).reference ≡ top_of l c = ap (λ x. x.reference) (at_seam l bs (f c) (map f zs)) ∙ entry_reference l c in
    let w : removed (suc l) ws s n ≡ mended (removed l ws (top_of l c) n) s l es (length bs) =
    ap (λ x. mended (removed l ws (entry_in x (first_place P x)).reference n) s l x (first_place P x)) (e ∙ m)
    ∙ ap (λ j. mended (removed l ws (entry_in es j).reference n) s l es j) i
    ∙ ap (λ o. mended (removed l ws o n) s l es (length bs)) a in
    subst (Cut (suc l) ws (bough s (bs ++ c ∷ zs)) n) (sym w) (mended_cut l ws s n bs c zs r (removed l ws (top_of l c) n) below)

removal_at : (l : ℕ) (ws : Words) (t : Tree (suc l)) (n : ℕ) → ((c : Tree l) → Ready l ws c → holds l ws (top_of l c) n ≡ true → Cut l ws c n (removed l ws (top_of l c) n))
    → Ready (suc l) ws t → (bs : List (Tree l)) (c : Tree l) (zs : List (Tree l)) → t.items ≡ bs ++ c ∷ zs
    → first_place (λ x. holds l ws (entry_of_tree l x).reference n) t.items ≡ length bs → holds l ws (entry_of_tree l c).reference n ≡ true
    → Cut (suc l) ws t n (removed (suc l) ws t.slot n)
removal_at l ws t n below r bs c zs e first h =
    let s = t.slot in
    let r' : Ready (suc l) ws (bough s (bs ++ c ∷ zs)) = subst (λ xs. Ready (suc l) ws (bough s xs)) e r in
    let b = below c (child_ready l ws s bs c zs r') (ap (λ o. holds l ws o n) (sym (entry_reference l c)) ∙ h) in
    subst (λ xs. Cut (suc l) ws (bough s xs) n (removed (suc l) ws s n)) (sym e)
    (node_removal l ws s n bs c zs r' (ap (first_place (λ x. holds l ws (entry_of_tree l x).reference n)) (sym e) ∙ first) b)

-- ---- the removal

pub removal : (l : ℕ) (ws : Words) (t : Tree l) (n : ℕ) → Ready l ws t → holds l ws (top_of l t) n ≡ true → Cut l ws t n (removed l ws (top_of l t) n)
removal zero ws t n r h =
    let s = t.slot in
    let P : Entry → Bool = λ e. eqb e.reference n in
    let e : entries_at ws s ≡ t.items = stored_entries ws (ready_good r) r.stored in
    let p = first_split P t.items (subst (λ es. some P es ≡ true) e h) in
    let bs = p.0 in
    let x = p.1 in
    let zs = p.2 in
    let w : without (first_place P (entries_at ws s)) (entries_at ws s) ≡ bs ++ zs =
    ap (λ es. without (first_place P es) es) e ∙ ap (λ i. without i t.items) p.4 ∙ ap (without (length bs)) p.3 ∙ without_at bs x zs (length bs) refl in
    let leaf : Cut zero ws (bough s (bs ++ x ∷ zs)) n (put_page ws s (page zero (bs ++ zs))) =
    leaf_cut ws s n bs x zs (subst (λ xs. Ready zero ws (bough s xs)) p.3 r) (eqb-true x.reference n p.5) in
    let back : Cut zero ws t n (put_page ws s (page zero (bs ++ zs))) =
    subst (λ xs. Cut zero ws (bough s xs) n (put_page ws s (page zero (bs ++ zs)))) (sym p.3) leaf in
    subst (λ es. Cut zero ws t n (put_page ws s (page zero es))) (sym w) back
removal (suc l) ws t n r h =
    let P : Entry → Bool = λ x. holds l ws x.reference n in
    let e : entries_at ws t.slot ≡ map (entry_of_tree l) t.items = stored_entries ws (ready_good r) r.stored in
    let p = first_split (λ c. P (entry_of_tree l c)) t.items (sym (some_map (entry_of_tree l) P t.items) ∙ subst (λ es. some P es ≡ true) e h) in
    removal_at l ws t n (λ c. removal l ws c n) r p.0 p.1 p.2 p.3 p.4 p.5
