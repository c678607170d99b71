-- A withdrawal of a point from a table that holds a sound tree: the last point leaves the empty table, any other leaves a table that holds a sound tree of all other points. The removal from the tree, and then the cases of its top: it stays, it gives way to its one child, or nothing is left. Assumes nothing.
use Prim.Native.Nat.{ℕ, zero, suc, ◌+◌, ◌-◌, ◌≤◌, ◌<◌}
use native.Mathlib.Omega.{arith}
use mathlib.Core.Path.{◌≡◌, refl, sym, ap, subst, ◌∙◌}
use mathlib.Core.Logic.{⊎_elim}
use mathlib.Core.Bool.{Bool, true, false, cond, not, ◌&&◌, ◌||◌}
use mathlib.Core.List.Memᴰ
use mathlib.Core.List.{List, [], ◌∷◌, ◌++◌, map, append-nil}
use lib.Dec.{eqb}
use lib.IntN.{pos, negsuc}
use lib.ListN.{length, set, length-append, length-map, length-set}
use lib.Seq.{get_or-set_same, get_or-set_other}
use borrow.Author.Tests.{eqb-true, eqb-false, eq-eqb, ne_eqb}
use Rattle.order.specs.Lists.{one, some, join, Mem, All, NoDup}
use Rattle.order.specs.Order.{Perm}
use Rattle.order.proofs.Perm.{psym, perm_length, perm_map, perm_mem}
use Rattle.order.proofs.Lists.{by_bool, by_leb, count_append, perm_count, all_mem, all_at, perm_nodup, all_map}
use Rattle.table.specs.declared.node.Entry.{Entry}
use Rattle.figures.specs.Figures.{LEAST, SLOTS, LENGTH}
use Rattle.table.specs.Words.{Words, word, points_of, part_at}
use Rattle.table.specs.Page.{free_words, blank_entry}
use Rattle.table.specs.Empty.{empty_table}
use Rattle.table.specs.Slots.{level_at, entries_at, freed, with_points}
use Rattle.table.specs.Tree.{Tree, top_of, entry_of_tree, entries_of_tree, slots_of, leaves_of, least_of, Filled, Stored, Sound, Holds}
use Rattle.table.proofs.Slots.{header_part, freed_here, freed_other, freed_long}
use Rattle.rules.proofs.Counted.{number_missing, number_counted}
use Rattle.rules.proofs.EmptyTable.{blank_empty}
use Rattle.rules.proofs.Size.{some_leaf}
use Rattle.rules.proofs.Reading.{Good, good_root, good_child, top_inside, entry_reference, stored_entries, stored_level, stored_child, stored_frame, held_root, held_points}
use Rattle.change.specs.Choose.{entry_in}
use Rattle.leaving.specs.Withdraw.{holds, removed, emptied, given_way, lowered, withdrawn, Lowerable}
use Rattle.change.proofs.Counts.{counts_perm}
use Rattle.change.proofs.Items.{items_of, entry_of_item, entries_items, slots_items, node_filled, filled_node, tree_same}
use Rattle.change.proofs.Frame.{times, times_self, off_grid}
use Rattle.change.proofs.Flat.{flat_part, flat_good, good_flat}
use Rattle.leaving.proofs.WithdrawCut.{some_map, Ready, Cut, removal}
use Rattle.change.proofs.Planting.{filled_least}

-- ---- a number stands below a slot exactly if a leaf there has it

or_assoc : (a b c : Bool) → (a || (b || c)) ≡ ((a || b) || c)
or_assoc true b c = refl
or_assoc false b c = refl

some_append : {A : Type 0} (P : A → Bool) (xs ys : List A) → some P (xs ++ ys) ≡ (some P xs || some P ys)
some_append P [] ys = refl
some_append P (x ∷ xs) ys = ap (λ b. P x || b) (some_append P xs ys) ∙ or_assoc (P x) (some P xs) (some P ys)

some_join : {A B : Type 0} (Q : A → Bool) (S : A → List B) (P : B → Bool) (xs : List A) → ((x : A) → Mem x xs → Q x ≡ some P (S x))
    → some Q xs ≡ some P (join S xs)
some_join Q S P [] h = refl
some_join Q S P (x ∷ xs) h =
    let a = h x (Memᴰ.head refl) in
    let b = some_join Q S P xs (λ y m. h y (Memᴰ.tail m)) in
    rw (some_append, a, b)

pub mem_some : {A : Type 0} (P : A → Bool) {a : A} (xs : List A) → Mem a xs → P a ≡ true → some P xs ≡ true
mem_some P [] m h = absurd (Memᴰ.not-nil m)
mem_some P {a} (x ∷ xs) m h =
    ⊎_elim (λ e. ap (λ b. b || some P xs) (ap P (sym e) ∙ h))
    (λ k. ap (λ b. P x || b) (mem_some P xs k h) ∙ or_true (P x)) (Memᴰ.cases_cons m)
  where
    or_true : (b : Bool) → (b || true) ≡ true
    or_true true = refl
    or_true false = refl

pub holds_leaves : {lo l : ℕ} {t : Tree l} (ws : Words) (n : ℕ) → Good lo l t → Stored l ws t
    → holds l ws (top_of l t) n ≡ some (λ e. eqb e.reference n) (leaves_of l t)
holds_leaves {l = zero} ws n g st = ap (some (λ e. eqb e.reference n)) (stored_entries ws g st)
holds_leaves {l = suc l} {t = t} ws n g st =
    ap (some (λ e. holds l ws e.reference n)) (stored_entries ws g st)
    ∙ some_map (entry_of_tree l) (λ e. holds l ws e.reference n) t.items
    ∙ some_join (λ c. holds l ws (entry_of_tree l c).reference n) (leaves_of l) (λ e. eqb e.reference n) t.items
    (λ c m. ap (λ o. holds l ws o n) (entry_reference l c) ∙ holds_leaves ws n (good_child g m) (stored_child ws l t st m))

-- ---- what is left of a sound tree

-- two elements of a list that agree on a map without repetition are one
map_only : {A B : Type 0} (f : A → B) {a b : A} (xs : List A) → NoDup (map f xs) → Mem a xs → Mem b xs → f a ≡ f b → a ≡ b
map_only f [] d m k e = absurd (Memᴰ.not-nil m)
map_only f {a} {b} (x ∷ xs) d m k e =
    ⊎_elim
    (λ p. ⊎_elim (λ q. p ∙ sym q) (λ q. absurd (d.0 (subst (λ y. Mem y (map f xs)) (sym e ∙ ap f p) (Memᴰ.map f q)))) (Memᴰ.cases_cons k))
    (λ p. ⊎_elim (λ q. absurd (d.0 (subst (λ y. Mem y (map f xs)) (e ∙ ap f q) (Memᴰ.map f p)))) (λ q. map_only f xs d.1 p q e) (Memᴰ.cases_cons k))
    (Memᴰ.cases_cons m)

abbrev numbers : List Entry → List ℕ
numbers es = map (λ e. e.reference) es

module _ (l : ℕ) (t : Tree l) (e : Entry) (sound : Sound l t) (l' : ℕ) (t' : Tree l') (low : l' ≤ 5) (fill : Filled (least_of l') l' t')
    (slots : (o : ℕ) → times o (slots_of l' t') ≤ times o (slots_of l t)) (leaves : Perm (e ∷ leaves_of l' t') (leaves_of l t)) where
  rest_sound : Sound l' t'
  rest_sound =
      let f = good_flat (least_of l) l t (good_root sound) in
      let k = perm_count leaves off_grid in
      let g = flat_good (least_of l') l' t' low fill
      (flat_part (slots_of l t) (slots_of l' t') (leaves_of l t) (leaves_of l' t') slots (omega arith) f) in
      let d : NoDup (numbers (e ∷ leaves_of l' t')) = perm_nodup (perm_map (λ x. x.reference) (psym leaves)) sound.once in
      record {
        fill = fill;
        apart = g.apart;
        inside = g.inside;
        points = g.points;
        once = d.1;
        few = omega (arith, perm_length leaves, sound.few);
      }

-- ---- the words of the header

module _ (ws : Words) (l : ℕ) (t : Tree l) (long : length ws ≡ LENGTH) (root : word ws 0 ≡ pos (top_of l t)) (stored : Stored l ws t)
    (others : (s : ℕ) → s < SLOTS → times s (slots_of l t) ≡ 0 → part_at ws s ≡ free_words) where
  rest_holds : Holds (with_points ws (length (leaves_of l t))) l t
  rest_holds =
      let v = pos (length (leaves_of l t)) in
      record {
        long = length-set ws 1 v ∙ long;
        root = get_or-set_other ws 1 0 v (pos 0) (λ e. omega arith) ∙ root;
        points = get_or-set_same ws 1 v (pos 0) (omega arith);
        stored = stored_frame ws (set ws 1 v) l t (λ s m. header_part ws 1 v (omega arith) s) stored;
        others = λ s h n. header_part ws 1 v (omega arith) s ∙ others s h (number_missing s (slots_of l t) n);
      }

-- ---- the withdrawal

first_inside : {lo : ℕ} (l : ℕ) (t : Tree l) → Good lo l t → 0 < l → 1 ≤ length (entries_of_tree l t) → (entry_in (entries_of_tree l t) 0).reference < SLOTS
first_inside zero t g h k = absurd (omega arith)
first_inside (suc l) t g h k =
    all_at (λ e. e.reference < SLOTS) (map (entry_of_tree l) t.items) 0 blank_entry k
    (all_map (λ e. e.reference < SLOTS) (entry_of_tree l) t.items
    (all_mem (λ c. (entry_of_tree l c).reference < SLOTS) t.items (λ c m. omega (arith, entry_reference l c, top_inside (good_child g m)))))

pub record Withdrawn (l : ℕ) (t : Tree l) (e : Entry) (after : Words) : Type 0 where
  pub level : ℕ
  pub tree : Tree level
  pub holds : Holds after level tree
  pub sound : Sound level tree
  pub leaves : Perm (e ∷ leaves_of level tree) (leaves_of l t)

module _ (ws : Words) (l : ℕ) (t : Tree l) (held : Holds ws l t) (sound : Sound l t) where
  pub root_ready : Ready l ws t
  root_ready =
      let g = good_root sound in
      record { low = g.low; long = held.long; fill = sound.fill; flat = good_flat (least_of l) l t g; stored = held.stored }

  -- the tree that the words hold after the removal, and which entry went
  module _ (e : Entry) (n : ℕ) (m : Mem e (leaves_of l t)) (is : e.reference ≡ n) where
    abbrev after : Words
    after = removed l ws (top_of l t) n

    pub found : holds l ws (top_of l t) n ≡ true
    found = holds_leaves ws n (good_root sound) held.stored ∙ mem_some (λ x. eqb x.reference n) (leaves_of l t) m (eq-eqb e.reference n is)

    cut : Cut l ws t n after
    cut = removal l ws t n root_ready found

    abbrev rest : Tree l
    rest = cut.tree

    abbrev s : ℕ
    s = top_of l t

    gone_perm : Perm (cut.gone ∷ leaves_of l rest) (leaves_of l t)
    gone_perm = counts_perm (cut.gone ∷ leaves_of l rest) (leaves_of l t) (λ P. cut.leaves P)

    gone_is : cut.gone ≡ e
    gone_is =
        map_only (λ x. x.reference) (leaves_of l t) sound.once (perm_mem gone_perm (Memᴰ.head refl)) m (cut.number ∙ sym is)

    rest_perm : Perm (e ∷ leaves_of l rest) (leaves_of l t)
    rest_perm = subst (λ x. Perm (x ∷ leaves_of l rest) (leaves_of l t)) gone_is gone_perm

    rest_fill : (lo : ℕ) → lo ≤ length (items_of l rest) → Filled lo l rest
    rest_fill lo h =
        subst (Filled lo l) (tree_same l rest)
        (node_filled l lo (top_of l rest) (items_of l rest) (h, omega (arith, cut.most, (filled_node l (least_of l) t sound.fill).1), cut.filled))

    rest_slots : (o : ℕ) → times o (slots_of l rest) ≤ times o (slots_of l t)
    rest_slots o = omega (arith, cut.slots (eqb o))

    rest_good : Good 0 l rest
    rest_good =
        flat_good 0 l rest root_ready.low (rest_fill 0 (omega arith))
        (flat_part (slots_of l t) (slots_of l rest) (leaves_of l t) (leaves_of l rest) rest_slots (omega (arith, cut.leaves off_grid)) root_ready.flat)

    after_long : length after ≡ LENGTH
    after_long = cut.frame.long ∙ held.long

    s_low : s < SLOTS
    s_low = root_ready.flat.inside s (omega (arith, ap (times s) (slots_items l t), times_self s))

    -- every slot that the tree does not take is free
    elsewhere : (o : ℕ) → o < SLOTS → times o (slots_of l rest) ≡ 0 → part_at after o ≡ free_words
    elsewhere o h z =
        by_leb (λ b. part_at after o ≡ free_words) 1 (times o cut.free) (λ k. cut.freed o k)
        (λ k.
        let y : times o (slots_of l t) ≡ 0 = omega (arith, cut.slots (eqb o)) in
        cut.frame.kept o y ∙ held.others o h (λ i. omega (arith, number_counted i)))

    rest_count : length (entries_at after s) ≡ length (items_of l rest)
    rest_count =
        ap (λ o. length (entries_at after o)) (sym cut.top) ∙ ap length (stored_entries after rest_good cut.stored ∙ entries_items l rest)
        ∙ length-map (items_of l rest) (entry_of_item l)

    rest_level : level_at after s ≡ l
    rest_level = ap (level_at after) (sym cut.top) ∙ stored_level after rest_good cut.stored

    -- a root above the leaves has its children in slots
    pub root_lowerable : Lowerable after s
    root_lowerable = record {
      inside = s_low;
      child = λ h k.
          let q : entries_at after s ≡ entries_of_tree l rest = ap (entries_at after) (sym cut.top) ∙ stored_entries after rest_good cut.stored in
          subst (λ es. (entry_in es 0).reference < SLOTS) (sym q) (first_inside l rest rest_good (omega (arith, rest_level)) (omega (arith, ap length q)));
    }

    points_left : points_of ws - 1 ≡ length (leaves_of l rest)
    points_left = omega (arith, held_points held, perm_length rest_perm)

    -- the cases of the top
    abbrev lower : ℕ → ℕ → Words
    lower k j = cond (eqb k 0) (emptied after s) (cond (not (eqb j 0) && eqb k 1) (given_way after s) after)

    withdrawn_is : withdrawn ws n ≡ with_points (lower (length (items_of l rest)) l) (length (leaves_of l rest))
    unfolding withdrawn lowered
    withdrawn_is =
        ap (λ o. with_points (lowered (removed (level_at ws o) ws o n) o) (points_of ws - 1)) (held_root held)
        ∙ ap (λ j. with_points (lowered (removed j ws s n) s) (points_of ws - 1)) (stored_level ws (good_root sound) held.stored)
        ∙ ap (λ k. with_points (lower k (level_at after s)) (points_of ws - 1)) rest_count
        ∙ ap (λ j. with_points (lower (length (items_of l rest)) j) (points_of ws - 1)) rest_level
        ∙ ap (with_points (lower (length (items_of l rest)) l)) points_left

    -- the tree stays at its top
    stays : least_of l ≤ length (items_of l rest) → Withdrawn l t e (with_points after (length (leaves_of l rest)))
    stays h = record {
      level = l;
      tree = rest;
      holds = rest_holds after l rest after_long (cut.frame.header 0 (omega arith) ∙ held.root ∙ ap pos (sym cut.top)) cut.stored elsewhere;
      sound = rest_sound l t e sound l rest root_ready.low (rest_fill (least_of l) h) rest_slots rest_perm;
      leaves = rest_perm;
    }

-- ---- the last point

module _ (ws : Words) (t : Tree zero) (held : Holds ws zero t) (sound : Sound zero t) (e : Entry) (n : ℕ) (m : Mem e (leaves_of zero t))
    (is : e.reference ≡ n) where
  leaf_emptied : with_points (emptied (after ws zero t held sound e n m is) t.slot) 0 ≡ empty_table
  leaf_emptied =
      let a = after ws zero t held sound e n m is in
      let low = s_low ws zero t held sound e n m is in
      let k = after_long ws zero t held sound e n m is in
      let c = cut ws zero t held sound e n m is in
      let f = freed a t.slot in
      let long : length f ≡ LENGTH = freed_long a t.slot k low ∙ k in
      let r = set f 0 (negsuc 0) in
      let long' : length r ≡ LENGTH = length-set f 0 (negsuc 0) ∙ long in
      blank_empty
      (record {
        long = length-set r 1 (pos 0) ∙ long';
        first = get_or-set_other r 1 0 (pos 0) (pos 0) (λ z. omega arith) ∙ get_or-set_same f 0 (negsuc 0) (pos 0) (omega arith);
        second = get_or-set_same r 1 (pos 0) (pos 0) (omega arith);
        frees = λ o h.
            header_part r 1 (pos 0) (omega arith) o ∙ header_part f 0 (negsuc 0) (omega arith) o
            ∙ by_bool (λ b. eqb o t.slot ≡ b → part_at f o ≡ free_words) (eqb o t.slot)
            (λ y z. subst (λ x. part_at f x ≡ free_words) (sym (eqb-true o t.slot y)) (freed_here a t.slot k low))
            (λ y z.
            freed_other a t.slot k low o (eqb-false o t.slot y)
            ∙ elsewhere ws zero t held sound e n m is o h (omega (arith, ap one (ap (eqb o) c.top ∙ y)))) refl;
      })

two_leaves : (l : ℕ) (xs : List (Tree l)) → 2 ≤ length xs → All (Filled LEAST l) xs → 2 ≤ length (join (leaves_of l) xs)
two_leaves l [] h f = absurd (omega arith)
two_leaves l (x ∷ []) h f = absurd (omega arith)
two_leaves l (x ∷ y ∷ xs) h f =
    omega (
      arith,
      length-append (leaves_of l x) (leaves_of l y ++ join (leaves_of l) xs),
      length-append (leaves_of l y) (join (leaves_of l) xs),
      some_leaf LEAST l (omega arith) x f.0,
      some_leaf LEAST l (omega arith) y f.1.0,
    )

pub withdrawn_last : (ws : Words) (l : ℕ) (t : Tree l) → Holds ws l t → Sound l t → (e : Entry) (n : ℕ) → Mem e (leaves_of l t) → e.reference ≡ n
    → length (leaves_of l t) ≡ 1 → withdrawn ws n ≡ empty_table
withdrawn_last ws zero t held sound e n m is h =
    let r = rest ws zero t held sound e n m is in
    let k : length r.items ≡ 0 = omega (arith, perm_length (rest_perm ws zero t held sound e n m is)) in
    withdrawn_is ws zero t held sound e n m is
    ∙ ap (λ j. with_points (lower ws zero t held sound e n m is j 0) j) k ∙ leaf_emptied ws t held sound e n m is
withdrawn_last ws (suc l) t held sound e n m is h =
    absurd (omega (arith, two_leaves l t.items sound.fill.0.0 sound.fill.1))

-- ---- a root above the leaves with one child gives way to it

one_item : {A : Type 0} (xs : List A) → length xs ≡ 1 → (x : A) × (xs ≡ x ∷ [])
one_item [] h = absurd (omega arith)
one_item (x ∷ []) h = (x, refl)
one_item (x ∷ y ∷ xs) h = absurd (omega arith)

module _ (ws : Words) (l : ℕ) (t : Tree (suc l)) (held : Holds ws (suc l) t) (sound : Sound (suc l) t) (e : Entry) (n : ℕ) (m : Mem e (leaves_of (suc l) t))
    (is : e.reference ≡ n) (c : Tree l) (only : (rest ws (suc l) t held sound e n m is).items ≡ c ∷ []) where
  abbrev left : Tree (suc l)
  left = rest ws (suc l) t held sound e n m is

  abbrev end : Words
  end = after ws (suc l) t held sound e n m is

  abbrev done : Cut (suc l) ws t n end
  done = cut ws (suc l) t held sound e n m is

  left_slots : (o : ℕ) → times o (slots_of (suc l) left) ≡ one (eqb o t.slot) + times o (slots_of l c)
  left_slots o =
      omega (arith, ap (λ xs. times o (join (slots_of l) xs)) only, ap (λ x. one (eqb o x)) done.top, count_append (eqb o) (slots_of l c) [])

  left_leaves : leaves_of (suc l) left ≡ leaves_of l c
  left_leaves = ap (join (leaves_of l)) only ∙ append-nil (leaves_of l c)

  way : Withdrawn (suc l) t e (with_points (given_way end t.slot) (length (leaves_of (suc l) left)))
  way =
      let s = t.slot in
      let low = s_low ws (suc l) t held sound e n m is in
      let k = after_long ws (suc l) t held sound e n m is in
      let f = freed end s in
      let long : length f ≡ LENGTH = freed_long end s k low ∙ k in
      let w = set f 0 (pos (top_of l c)) in
      let once : (o : ℕ) → times o (slots_of (suc l) left) ≤ 1 =
      λ o. omega (arith, rest_slots ws (suc l) t held sound e n m is o, (root_ready ws (suc l) t held sound).flat.once o) in
      let st : Stored l w c =
      stored_frame end w l c
      (λ o i. header_part f 0 (pos (top_of l c)) (omega arith) o
      ∙ freed_other end s k low o (λ z. omega (arith, number_counted i, once o, left_slots o, ap one (eq-eqb o s z))))
      (subst (All (Stored l end)) only done.stored.1).0 in
      let others : (o : ℕ) → o < SLOTS → times o (slots_of l c) ≡ 0 → part_at w o ≡ free_words = λ o h z.
      header_part f 0 (pos (top_of l c)) (omega arith) o
      ∙ by_bool (λ b. eqb o s ≡ b → part_at f o ≡ free_words) (eqb o s)
      (λ y v. subst (λ x. part_at f x ≡ free_words) (sym (eqb-true o s y)) (freed_here end s k low))
      (λ y v. freed_other end s k low o (eqb-false o s y) ∙ elsewhere ws (suc l) t held sound e n m is o h (omega (arith, left_slots o, ap one y))) refl in
      let p : Perm (e ∷ leaves_of l c) (leaves_of (suc l) t) = subst (λ es. Perm (e ∷ es) (leaves_of (suc l) t)) left_leaves (rest_perm ws (suc l) t held sound e n m is) in
      let root : (entry_in (entries_at end s) 0).reference ≡ top_of l c =
      ap (λ o. (entry_in (entries_at end o) 0).reference) (sym done.top)
      ∙ ap (λ es. (entry_in es 0).reference) (stored_entries end (rest_good ws (suc l) t held sound e n m is) done.stored ∙ ap (map (entry_of_tree l)) only)
      ∙ entry_reference l c in
      let h : Holds (with_points w (length (leaves_of l c))) l c = rest_holds w l c (length-set f 0 (pos (top_of l c)) ∙ long) (get_or-set_same f 0 (pos (top_of l c)) (pos 0) (omega arith)) st others in
      let back : with_points w (length (leaves_of l c)) ≡ with_points (given_way end s) (length (leaves_of (suc l) left)) =
      ap (λ o. with_points (set f 0 (pos o)) (length (leaves_of l c))) (sym root) ∙ ap (λ es. with_points (given_way end s) (length es)) (sym left_leaves) in
      subst (Withdrawn (suc l) t e) back
      (record {
        level = l;
        tree = c;
        holds = h;
        sound = rest_sound (suc l) t e sound l c (omega (arith, (root_ready ws (suc l) t held sound).low))
            (filled_least l c (subst (All (Filled LEAST l)) only done.filled).0)
            (λ o. omega (arith, left_slots o, rest_slots ws (suc l) t held sound e n m is o)) p;
        leaves = p;
      })

pub withdrawn_tree : (ws : Words) (l : ℕ) (t : Tree l) → Holds ws l t → Sound l t → (e : Entry) (n : ℕ) → Mem e (leaves_of l t) → e.reference ≡ n
    → 2 ≤ length (leaves_of l t) → Withdrawn l t e (withdrawn ws n)
withdrawn_tree ws zero t held sound e n m is h =
    let r = rest ws zero t held sound e n m is in
    let a = after ws zero t held sound e n m is in
    let k : 1 ≤ length r.items = omega (arith, perm_length (rest_perm ws zero t held sound e n m is)) in
    let z : eqb (length r.items) 0 ≡ false = ne_eqb (length r.items) 0 (λ x. omega arith) in
    let w : withdrawn ws n ≡ with_points a (length r.items) =
    withdrawn_is ws zero t held sound e n m is ∙ ap (λ b. with_points (cond b (emptied a t.slot) a) (length r.items)) z in
    subst (Withdrawn zero t e) (sym w) (stays ws zero t held sound e n m is k)
withdrawn_tree ws (suc l) t held sound e n m is h =
    let r = rest ws (suc l) t held sound e n m is in
    let a = after ws (suc l) t held sound e n m is in
    let k : 1 ≤ length r.items = omega (arith, (cut ws (suc l) t held sound e n m is).least, sound.fill.0.0) in
    let z : eqb (length r.items) 0 ≡ false = ne_eqb (length r.items) 0 (λ x. omega arith) in
    let y : eqb (suc l) 0 ≡ false = ne_eqb (suc l) 0 (λ x. omega arith) in
    let w : withdrawn ws n ≡ with_points (cond (eqb (length r.items) 1) (given_way a t.slot) a) (length (leaves_of (suc l) r)) =
    withdrawn_is ws (suc l) t held sound e n m is
    ∙ ap (λ b. with_points (cond b (emptied a t.slot) (cond (not (eqb (suc l) 0) && eqb (length r.items) 1) (given_way a t.slot) a)) (length (leaves_of (suc l) r))) z
    ∙ ap (λ b. with_points (cond (not b && eqb (length r.items) 1) (given_way a t.slot) a) (length (leaves_of (suc l) r))) y in
    subst (Withdrawn (suc l) t e) (sym w)
    (by_bool (λ b. eqb (length r.items) 1 ≡ b → Withdrawn (suc l) t e (with_points (cond b (given_way a t.slot) a) (length (leaves_of (suc l) r)))) (eqb (length r.items) 1)
    (λ x v. let o = one_item r.items (eqb-true (length r.items) 1 x) in way ws l t held sound e n m is o.0 o.1)
    (λ x v. stays ws (suc l) t held sound e n m is (omega (arith, eqb-false (length r.items) 1 x))) refl)
