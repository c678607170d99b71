-- Two children of one node join: what the words hold afterwards is the node with one child less, or with its two children refilled. Each page is written apart from the trees that stay. Assumes nothing.
use Prim.Native.Nat.{ℕ, suc, ◌+◌, ◌≤◌, ◌<◌}
use native.Mathlib.Omega.{arith}
use mathlib.Core.Path.{◌≡◌, sym, ap, subst, ◌∙◌}
use mathlib.Core.Bool.{Bool, cond}
use mathlib.Core.List.{List, [], ◌∷◌, ◌++◌, map, map-append, append_assoc}
use lib.Dec.{eqb, leb}
use lib.ListN.{length, set, take, drop, length-append, length-map}
use lib.Seq.{set_at, take_at, drop_at, get_or_at}
use Rattle.order.specs.Lists.{one, count, join, All}
use Rattle.order.proofs.Lists.{by_leb, count_append, join_append, count_join, all_append}
use Rattle.table.specs.declared.node.Entry.{Entry}
use Rattle.figures.specs.Figures.{FAN, LEAST, SLOTS, LENGTH}
use Rattle.table.specs.Words.{Words, part_at}
use Rattle.table.specs.Page.{page, free_words, without, blank_entry}
use Rattle.table.specs.Slots.{entries_at, put_page, freed, entry_for}
use Rattle.table.specs.Tree.{Tree, top_of, entry_of_tree, slots_of, leaves_of, Filled, Stored}
use Rattle.table.proofs.Slots.{put_here, freed_here}
use Rattle.rules.proofs.Joined.{all_left, all_right}
use Rattle.rules.proofs.Reading.{stored_entries, stored_entry}
use Rattle.change.specs.Choose.{entry_in}
use Rattle.change.specs.Share.{first_share, other_share}
use Rattle.leaving.specs.Withdraw.{tight_at, merged, shared, joined}
use Rattle.change.proofs.Shares.{first_by, other_by, first_map, other_map, share_by_perm, first_by_length, other_by_length, first_by_all, other_by_all}
use Rattle.change.proofs.Items.{
  Item,
  items_of,
  tree_of,
  entry_of_item,
  slots_of_item,
  leaves_of_item,
  StoredItem,
  FilledItem,
  FilledNode,
  filled_node,
  tree_top,
  tree_items,
  entries_items,
  slots_items,
  leaves_items,
  stored_node,
  node_stored,
  node_filled,
}
use Rattle.change.proofs.Flat.{Flat, flat_part, flat_good}
use Rattle.change.proofs.Frame.{times, times_self, Frame, frame_wide, frame_then, put_frame, freed_frame, items_kept, stored_kept, off_grid, apart_one, times_one}

-- ---- lists

module _ {A B : Type 0} (S : A → List B) (P : B → Bool) where
  pub count_mid : (bs : List A) (x : A) (zs : List A)
      → count P (join S (bs ++ x ∷ zs)) ≡ count P (join S bs) + (count P (S x) + count P (join S zs))
  count_mid bs x zs =
      ap (count P) (join_append S bs (x ∷ zs)) ∙ count_append P (join S bs) (S x ++ join S zs)
      ∙ ap (λ n. count P (join S bs) + n) (count_append P (S x) (join S zs))

  pub count_two : (bs : List A) (x y : A) (zs : List A)
      → count P (join S (bs ++ x ∷ y ∷ zs)) ≡ count P (join S bs) + (count P (S x) + (count P (S y) + count P (join S zs)))
  count_two bs x y zs = omega (arith, count_mid bs x (y ∷ zs), count_append P (S y) (join S zs))

-- one entry less
pub without_at : (ps : List Entry) (x : Entry) (r : List Entry) (n : ℕ) → length ps ≡ n → without n (ps ++ x ∷ r) ≡ ps ++ r
without_at ps x r n h =
    let t : take n (ps ++ x ∷ r) ≡ ps = take_at ps (x ∷ r) n h in
    let k : length (ps ++ x ∷ []) ≡ n + 1 = length-append ps (x ∷ []) ∙ ap (λ m. m + 1) h in
    let u : drop (n + 1) (ps ++ x ∷ r) ≡ r =
    ap (drop (n + 1)) (sym (append_assoc ps (x ∷ []) r)) ∙ drop_at (ps ++ x ∷ []) r (n + 1) k in
    cc

-- ---- what a tree counts, by its slot and its items

module _ (l s : ℕ) (xs : List (Item l)) where
  pub tree_slots : (P : ℕ → Bool) → count P (slots_of l (tree_of l s xs)) ≡ one (P s) + count P (join (slots_of_item l) xs)
  tree_slots P =
      let e : slots_of l (tree_of l s xs) ≡ s ∷ join (slots_of_item l) xs = slots_items l (tree_of l s xs) ∙ cc (tree_top l s xs, tree_items l s xs) in
      ap (count P) e

  pub tree_leaves : (P : Entry → Bool) → count P (leaves_of l (tree_of l s xs)) ≡ count P (join (leaves_of_item l) xs)
  tree_leaves P =
      let e : leaves_of l (tree_of l s xs) ≡ join (leaves_of_item l) xs = leaves_items l (tree_of l s xs) ∙ ap (join (leaves_of_item l)) (tree_items l s xs) in
      ap (count P) e

pub slots_count : (l : ℕ) (t : Tree l) (P : ℕ → Bool) → count P (slots_of l t) ≡ one (P (top_of l t)) + count P (join (slots_of_item l) (items_of l t))
slots_count l t P = ap (count P) (slots_items l t)

pub leaves_count : (l : ℕ) (t : Tree l) (P : Entry → Bool) → count P (leaves_of l t) ≡ count P (join (leaves_of_item l) (items_of l t))
leaves_count l t P = ap (count P) (leaves_items l t)

-- ---- a page is written and its node is stored

pub put_stored : (l : ℕ) (ws : Words) (s : ℕ) (xs : List (Item l)) → length ws ≡ LENGTH → s < SLOTS → length xs ≤ FAN
    → times s (join (slots_of_item l) xs) ≡ 0 → All (StoredItem l ws) xs
    → Stored l (put_page ws s (page l (map (entry_of_item l) xs))) (tree_of l s xs)
put_stored l ws s xs long low few out st =
    let p = page l (map (entry_of_item l) xs) in
    let k : length p.entries ≤ FAN = omega (arith, length-map xs (entry_of_item l)) in
    let f : Frame (s ∷ []) ws (put_page ws s p) = put_frame (s ∷ []) ws s long low (omega (arith, times_self s)) p k in
    node_stored l (put_page ws s p) s xs
    (put_here ws s p long low k, items_kept (s ∷ []) ws (put_page ws s p) (f) l xs (apart_one (join (slots_of_item l) xs) s out) st)

-- what stands above a node that is stored
read_tree : (lo l : ℕ) (ws : Words) (s : ℕ) (xs : List (Item l)) → l ≤ 5 → FilledNode l lo xs
    → Flat (slots_of l (tree_of l s xs)) (leaves_of l (tree_of l s xs)) → Stored l ws (tree_of l s xs) → entry_for ws s ≡ entry_of_tree l (tree_of l s xs)
read_tree lo l ws s xs low fill flat st =
    ap (entry_for ws) (sym (tree_top l s xs))
    ∙ stored_entry ws (flat_good lo l (tree_of l s xs) low (node_filled l lo s xs fill) flat) st

-- ---- the children of a node are redone

pub record Redone (l : ℕ) (ws : Words) (xs : List (Tree l)) (now : Words) (ys : List (Tree l)) (free : List ℕ) : Type 0 where
  pub frame : Frame (join (slots_of l) xs) ws now
  pub stored : All (Stored l now) ys
  pub filled : All (Filled LEAST l) ys
  pub slots : (P : ℕ → Bool) → count P (join (slots_of l) ys) + count P free ≡ count P (join (slots_of l) xs)
  pub leaves : (P : Entry → Bool) → count P (join (leaves_of l) ys) ≡ count P (join (leaves_of l) xs)
  pub freed : (o : ℕ) → 1 ≤ times o free → part_at now o ≡ free_words
  pub least : length xs ≤ 1 + length ys
  pub most : length ys ≤ length xs

-- children that are stored and can be read, each slot once
pub record Known (l : ℕ) (ws : Words) (xs : List (Tree l)) : Type 0 where
  pub low : l ≤ 5
  pub long : length ws ≡ LENGTH
  pub stored : All (Stored l ws) xs
  pub flat : Flat (join (slots_of l) xs) (join (leaves_of l) xs)

-- what the words are when the node in slot s has been written over such children
abbrev pub Written : (l : ℕ) → Words → ℕ → List (Tree l) → Words → Type 0
Written l ws s xs after =
    (now : Words) × (ys : List (Tree l)) × (free : List ℕ) × Redone l ws xs now ys free × (after ≡ put_page now s (page (suc l) (map (entry_of_tree l) ys)))

-- ---- the entries of a node, at two places that follow each other

module _ (l : ℕ) (bs : List (Tree l)) (e : Entry) (r : List Entry) where
  pub at_seam : entry_in (map (entry_of_tree l) bs ++ e ∷ r) (length bs) ≡ e
  at_seam = get_or_at (map (entry_of_tree l) bs) e r blank_entry (length bs) (length-map bs (entry_of_tree l))

  pub set_seam : (d : Entry) → set (map (entry_of_tree l) bs ++ e ∷ r) (length bs) d ≡ map (entry_of_tree l) bs ++ d ∷ r
  set_seam d = set_at (map (entry_of_tree l) bs) e r d (length bs) (length-map bs (entry_of_tree l))

module _ (l : ℕ) (bs : List (Tree l)) (e d : Entry) (r : List Entry) where
  longer : length (map (entry_of_tree l) bs ++ e ∷ []) ≡ length bs + 1
  longer = length-append (map (entry_of_tree l) bs) (e ∷ []) ∙ ap (λ n. n + 1) (length-map bs (entry_of_tree l))

  pub at_next : entry_in (map (entry_of_tree l) bs ++ e ∷ d ∷ r) (length bs + 1) ≡ d
  at_next =
      ap (λ es. entry_in es (length bs + 1)) (sym (append_assoc (map (entry_of_tree l) bs) (e ∷ []) (d ∷ r)))
      ∙ get_or_at (map (entry_of_tree l) bs ++ e ∷ []) d r blank_entry (length bs + 1) longer

  pub set_next : (a : Entry) → set (map (entry_of_tree l) bs ++ e ∷ d ∷ r) (length bs + 1) a ≡ map (entry_of_tree l) bs ++ e ∷ a ∷ r
  set_next a =
      ap (λ es. set es (length bs + 1) a) (sym (append_assoc (map (entry_of_tree l) bs) (e ∷ []) (d ∷ r)))
      ∙ set_at (map (entry_of_tree l) bs ++ e ∷ []) d r a (length bs + 1) longer
      ∙ append_assoc (map (entry_of_tree l) bs) (e ∷ []) (a ∷ r)

  pub without_next : without (length bs + 1) (map (entry_of_tree l) bs ++ e ∷ d ∷ r) ≡ map (entry_of_tree l) bs ++ e ∷ r
  without_next =
      ap (without (length bs + 1)) (sym (append_assoc (map (entry_of_tree l) bs) (e ∷ []) (d ∷ r)))
      ∙ without_at (map (entry_of_tree l) bs ++ e ∷ []) d r (length bs + 1) longer
      ∙ append_assoc (map (entry_of_tree l) bs) (e ∷ []) r

-- ---- the join

module _ (l : ℕ) (ws : Words) (bs : List (Tree l)) (p q : Tree l) (zs : List (Tree l)) (known : Known l ws (bs ++ p ∷ q ∷ zs))
    (before : All (Filled LEAST l) bs) (after : All (Filled LEAST l) zs)
    (p-fill : Filled 2 l p) (q-fill : Filled 2 l q)
    (least : 5 ≤ length (items_of l p ++ items_of l q)) (most : length (items_of l p ++ items_of l q) ≤ 10) where
  abbrev c : ℕ
  c = top_of l p

  abbrev d : ℕ
  d = top_of l q

  abbrev all : List (Item l)
  all = items_of l p ++ items_of l q

  abbrev two : List (Tree l)
  two = bs ++ p ∷ q ∷ zs

  slots_two : (P : ℕ → Bool) → count P (join (slots_of l) two)
      ≡ count P (join (slots_of l) bs) + (one (P c) + (one (P d) + (count P (join (slots_of_item l) all) + count P (join (slots_of l) zs))))
  slots_two P =
      omega (
        arith,
        count_two (slots_of l) P bs p q zs,
        slots_count l p P,
        slots_count l q P,
        ap (count P) (join_append (slots_of_item l) (items_of l p) (items_of l q)),
        count_append P (join (slots_of_item l) (items_of l p)) (join (slots_of_item l) (items_of l q)),
      )

  leaves_two : (P : Entry → Bool) → count P (join (leaves_of l) two)
      ≡ count P (join (leaves_of l) bs) + (count P (join (leaves_of_item l) all) + count P (join (leaves_of l) zs))
  leaves_two P =
      omega (
        arith,
        count_two (leaves_of l) P bs p q zs,
        leaves_count l p P,
        leaves_count l q P,
        ap (count P) (join_append (leaves_of_item l) (items_of l p) (items_of l q)),
        count_append P (join (leaves_of_item l) (items_of l p)) (join (leaves_of_item l) (items_of l q)),
      )

  part : (t : Tree l) → ((o : ℕ) → times o (slots_of l t) ≤ times o (join (slots_of l) two)) → count off_grid (leaves_of l t) ≤ count off_grid (join (leaves_of l) two)
      → Flat (slots_of l t) (leaves_of l t)
  part t h k = flat_part (join (slots_of l) two) (slots_of l t) (join (leaves_of l) two) (leaves_of l t) h k known.flat

  c_low : c < SLOTS
  c_low = known.flat.inside c (omega (arith, slots_two (eqb c), times_self c))

  d_low : d < SLOTS
  d_low = known.flat.inside d (omega (arith, slots_two (eqb d), times_self d))

  stored_p : Stored l ws p
  stored_p = (all_right (Stored l ws) bs (p ∷ q ∷ zs) known.stored).0

  stored_q : Stored l ws q
  stored_q = (all_right (Stored l ws) bs (p ∷ q ∷ zs) known.stored).1.0

  stored_items : All (StoredItem l ws) all
  stored_items =
      all_append (StoredItem l ws) (items_of l p) (items_of l q) (stored_node l ws p stored_p).1 (stored_node l ws q stored_q).1

  pub joint_read : entries_at ws c ++ entries_at ws d ≡ map (entry_of_item l) all
  joint_read =
      let at : (o : ℕ) → times o (join (slots_of l) two) ≡ times o (join (slots_of l) bs) + (times o (slots_of l p) + (times o (slots_of l q) + times o (join (slots_of l) zs))) =
      λ o. count_two (slots_of l) (eqb o) bs p q zs in
      let on = count_two (leaves_of l) off_grid bs p q zs in
      let f : Flat (slots_of l p) (leaves_of l p) = part p (λ o. omega (arith, at o)) (omega arith) in
      let g : Flat (slots_of l q) (leaves_of l q) = part q (λ o. omega (arith, at o)) (omega arith) in
      let a : entries_at ws c ≡ map (entry_of_item l) (items_of l p) = stored_entries ws (flat_good 2 l p known.low p-fill f) stored_p ∙ entries_items l p in
      let b : entries_at ws d ≡ map (entry_of_item l) (items_of l q) = stored_entries ws (flat_good 2 l q known.low q-fill g) stored_q ∙ entries_items l q in
      rw (a, b) (sym (map-append (entry_of_item l) (items_of l p) (items_of l q)))

  below : All (FilledItem l) all
  below = all_append (FilledItem l) (items_of l p) (items_of l q) (filled_node l 2 p p-fill).2 (filled_node l 2 q q-fill).2

  -- what is written into the two slots leaves the others
  stay : (now : Words) → Frame (c ∷ d ∷ []) ws now → (xs : List (Tree l))
      → ((o : ℕ) → times o (join (slots_of l) xs) ≤ times o (join (slots_of l) bs) + times o (join (slots_of l) zs))
      → All (Stored l ws) xs → All (Stored l now) xs
  stay now f xs h st =
      items_kept (c ∷ d ∷ []) ws now f (suc l) xs (λ o m. omega (arith, slots_two (eqb o), known.flat.once o, h o)) st

  wide : (now : Words) → Frame (c ∷ d ∷ []) ws now → Frame (join (slots_of l) two) ws now
  wide now f = frame_wide (c ∷ d ∷ []) (join (slots_of l) two) ws now (λ o z. omega (arith, slots_two (eqb o))) f

  -- ---- up to eight

  module _ (few : length all ≤ FAN) where
    abbrev one_page : Words
    one_page = put_page ws c (page l (map (entry_of_item l) all))

    abbrev one_now : Words
    one_now = freed one_page d

    abbrev one_tree : Tree l
    one_tree = tree_of l c all

    one_fill : FilledNode l LEAST all
    one_fill = (omega arith, few, below)

    one_frame : Frame (c ∷ d ∷ []) ws one_page
    one_frame =
        put_frame (c ∷ d ∷ []) ws c known.long c_low (omega (arith, times_self c)) (page l (map (entry_of_item l) all)) (omega (arith, length-map all (entry_of_item l)))

    one_stored : Stored l one_now one_tree
    one_stored =
        let long' = one_frame.long ∙ known.long in
        stored_kept (d ∷ []) one_page one_now (freed_frame (d ∷ []) one_page d long' d_low (omega (arith, times_self d))) l one_tree
        (apart_one (slots_of l one_tree) d (omega (arith, tree_slots l c all (eqb d), slots_two (eqb d), known.flat.once d, times_self d)))
        (put_stored l ws c all known.long c_low few (omega (arith, slots_two (eqb c), known.flat.once c, times_self c)) stored_items)

    pub one_redone : Redone l ws two one_now (bs ++ one_tree ∷ zs) (d ∷ [])
    one_redone =
        let long' = one_frame.long ∙ known.long in
        let f : Frame (c ∷ d ∷ []) ws one_now =
        frame_then (c ∷ d ∷ []) ws one_page one_now one_frame (freed_frame (c ∷ d ∷ []) one_page d long' d_low (omega (arith, times_self d))) in
        record {
          frame = wide one_now f;
          stored = all_append (Stored l one_now) bs (one_tree ∷ zs) (stay one_now f bs (λ o. omega arith) (all_left (Stored l ws) bs (p ∷ q ∷ zs) known.stored))
              (one_stored, stay one_now f zs (λ o. omega arith) (all_right (Stored l ws) bs (p ∷ q ∷ zs) known.stored).1.1);
          filled = all_append (Filled LEAST l) bs (one_tree ∷ zs) before (node_filled l LEAST c all one_fill, after);
          slots = λ P. omega (arith, count_mid (slots_of l) P bs one_tree zs, tree_slots l c all P, slots_two P);
          leaves = λ P. omega (arith, count_mid (leaves_of l) P bs one_tree zs, tree_leaves l c all P, leaves_two P);
          freed = λ o m. subst (λ k. part_at one_now k ≡ free_words) (sym (times_one o d m)) (freed_here one_page d long' d_low);
          least = omega (arith, length-append bs (p ∷ q ∷ zs), length-append bs (one_tree ∷ zs));
          most = omega (arith, length-append bs (p ∷ q ∷ zs), length-append bs (one_tree ∷ zs));
        }

  -- ---- nine or ten

  module _ (many : FAN < length all) where
    abbrev lows : List (Item l)
    lows = first_by (entry_of_item l) all

    abbrev highs : List (Item l)
    highs = other_by (entry_of_item l) all

    abbrev low_page : Words
    low_page = put_page ws c (page l (map (entry_of_item l) lows))

    abbrev both_now : Words
    both_now = put_page low_page d (page l (map (entry_of_item l) highs))

    abbrev low_tree : Tree l
    low_tree = tree_of l c lows

    abbrev high_tree : Tree l
    high_tree = tree_of l d highs

    share_lengths : (length lows ≤ 5) × (4 ≤ length lows) × (length highs ≤ 5) × (4 ≤ length highs)
    share_lengths =
        let a = first_by_length (entry_of_item l) all in
        let b = other_by_length (entry_of_item l) all in
        (omega arith, omega arith, omega arith, omega arith)

    low_fill : FilledNode l LEAST lows
    low_fill =
        (omega (arith, share_lengths), omega (arith, share_lengths), first_by_all (entry_of_item l) (FilledItem l) all below)

    high_fill : FilledNode l LEAST highs
    high_fill =
        (omega (arith, share_lengths), omega (arith, share_lengths), other_by_all (entry_of_item l) (FilledItem l) all below)

    -- what the two shares count
    share_count : {B : Type 0} (S : Item l → List B) (P : B → Bool) → count P (join S lows) + count P (join S highs) ≡ count P (join S all)
    share_count S P =
        sym (count_append P (join S lows) (join S highs)) ∙ ap (count P) (sym (join_append S lows highs))
        ∙ count_join S P (share_by_perm (entry_of_item l) all)

    low_frame : (ss : List ℕ) → 1 ≤ times c ss → Frame ss ws low_page
    low_frame ss m =
        put_frame ss ws c known.long c_low m (page l (map (entry_of_item l) lows)) (omega (arith, share_lengths, length-map lows (entry_of_item l)))

    high_frame : (ss : List ℕ) → 1 ≤ times d ss → Frame ss low_page both_now
    high_frame ss m =
        put_frame ss low_page d ((low_frame (c ∷ []) (omega (arith, times_self c))).long ∙ known.long) d_low m
        (page l (map (entry_of_item l) highs)) (omega (arith, share_lengths, length-map highs (entry_of_item l)))

    low_stored : Stored l both_now low_tree
    low_stored =
        stored_kept (d ∷ []) low_page both_now (high_frame (d ∷ []) (omega (arith, times_self d))) l low_tree
        (apart_one (slots_of l low_tree) d (omega (arith, tree_slots l c lows (eqb d), share_count (slots_of_item l) (eqb d), slots_two (eqb d), known.flat.once d, times_self d)))
        (put_stored l ws c lows known.long c_low (omega (arith, share_lengths))
        (omega (arith, share_count (slots_of_item l) (eqb c), slots_two (eqb c), known.flat.once c, times_self c))
        (first_by_all (entry_of_item l) (StoredItem l ws) all stored_items))

    high_stored : Stored l both_now high_tree
    high_stored =
        put_stored l low_page d highs ((low_frame (c ∷ []) (omega (arith, times_self c))).long ∙ known.long) d_low (omega (arith, share_lengths))
        (omega (arith, share_count (slots_of_item l) (eqb d), slots_two (eqb d), known.flat.once d, times_self d))
        (items_kept (c ∷ []) ws low_page (low_frame (c ∷ []) (omega (arith, times_self c))) l highs
        (apart_one (join (slots_of_item l) highs) c (omega (arith, share_count (slots_of_item l) (eqb c), slots_two (eqb c), known.flat.once c, times_self c)))
        (other_by_all (entry_of_item l) (StoredItem l ws) all stored_items))

    pub both_redone : Redone l ws two both_now (bs ++ low_tree ∷ high_tree ∷ zs) []
    both_redone =
        let f : Frame (c ∷ d ∷ []) ws both_now =
        frame_then (c ∷ d ∷ []) ws low_page both_now (low_frame (c ∷ d ∷ []) (omega (arith, times_self c))) (high_frame (c ∷ d ∷ []) (omega (arith, times_self d))) in
        record {
          frame = wide both_now f;
          stored = all_append (Stored l both_now) bs (low_tree ∷ high_tree ∷ zs) (stay both_now f bs (λ o. omega arith) (all_left (Stored l ws) bs (p ∷ q ∷ zs) known.stored))
              (low_stored, (high_stored, stay both_now f zs (λ o. omega arith) (all_right (Stored l ws) bs (p ∷ q ∷ zs) known.stored).1.1));
          filled = all_append (Filled LEAST l) bs (low_tree ∷ high_tree ∷ zs) before
              (node_filled l LEAST c lows low_fill, (node_filled l LEAST d highs high_fill, after));
          slots = λ P. omega (arith, count_two (slots_of l) P bs low_tree high_tree zs, tree_slots l c lows P, tree_slots l d highs P, share_count (slots_of_item l) P, slots_two P);
          leaves = λ P. omega (arith, count_two (leaves_of l) P bs low_tree high_tree zs, tree_leaves l c lows P, tree_leaves l d highs P, share_count (leaves_of_item l) P, leaves_two P);
          freed = λ o m. absurd (omega arith);
          least = omega (arith, length-append bs (p ∷ q ∷ zs), length-append bs (low_tree ∷ high_tree ∷ zs));
          most = omega (arith, length-append bs (p ∷ q ∷ zs), length-append bs (low_tree ∷ high_tree ∷ zs));
        }

  -- ---- as the words have it

  module _ (s : ℕ) (e g : Entry) (e-of : e.reference ≡ c) (g-of : g.reference ≡ d) where
    abbrev es : List Entry
    es = map (entry_of_tree l) bs ++ e ∷ g ∷ map (entry_of_tree l) zs

    abbrev a : ℕ
    a = length bs

    first_ref : (entry_in es a).reference ≡ c
    first_ref = ap (λ x. x.reference) (at_seam l bs e (g ∷ map (entry_of_tree l) zs)) ∙ e-of

    next_ref : (entry_in es (a + 1)).reference ≡ d
    next_ref = ap (λ x. x.reference) (at_next l bs e g (map (entry_of_tree l) zs)) ∙ g-of

    one_written : (few : length all ≤ FAN)
        → merged ws s l es a (map (entry_of_item l) all) ≡ put_page (one_now few) s (page (suc l) (map (entry_of_tree l) (bs ++ one_tree few ∷ zs)))
    one_written few =
        let m = one_tree few in
        let now : freed (put_page ws (entry_in es a).reference (page l (map (entry_of_item l) all))) (entry_in es (a + 1)).reference ≡ one_now few = rw (first_ref, next_ref) in
        let r : entry_for (one_now few) (entry_in es a).reference ≡ entry_of_tree l m =
        ap (entry_for (one_now few)) first_ref
        ∙ read_tree LEAST l (one_now few) c all known.low (one_fill few)
        (part (one_tree few) (λ o. omega (arith, tree_slots l c all (eqb o), slots_two (eqb o))) (omega (arith, tree_leaves l c all off_grid, leaves_two off_grid)))
        (one_stored few) in
        let t : tight_at (one_now few) es a ≡ map (entry_of_tree l) bs ++ entry_of_tree l m ∷ g ∷ map (entry_of_tree l) zs =
        ap (set es a) r ∙ set_seam l bs e (g ∷ map (entry_of_tree l) zs) (entry_of_tree l m) in
        let u : without (a + 1) (tight_at (one_now few) es a) ≡ map (entry_of_tree l) (bs ++ m ∷ zs) =
        ap (without (a + 1)) t ∙ without_next l bs (entry_of_tree l m) g (map (entry_of_tree l) zs) ∙ sym (map-append (entry_of_tree l) bs (m ∷ zs)) in
        ap (λ w. put_page w s (page (suc l) (without (a + 1) (tight_at w es a)))) now
        ∙ ap (λ x. put_page (one_now few) s (page (suc l) x)) u

    both_written : (many : FAN < length all)
        → shared ws s l es a (map (entry_of_item l) all) ≡ put_page (both_now many) s (page (suc l) (map (entry_of_tree l) (bs ++ low_tree many ∷ high_tree many ∷ zs)))
    both_written many =
        let m = low_tree many in
        let n = high_tree many in
        let f = first_map (entry_of_item l) all in
        let h = other_map (entry_of_item l) all in
        let now : put_page (put_page ws (entry_in es a).reference (page l (first_share (map (entry_of_item l) all)))) (entry_in es (a + 1)).reference (page l (other_share (map (entry_of_item l) all))) ≡ both_now many =
        rw (first_ref, next_ref, f, h) in
        let r : entry_for (both_now many) (entry_in es a).reference ≡ entry_of_tree l m =
        ap (entry_for (both_now many)) first_ref
        ∙ read_tree LEAST l (both_now many) c (lows many) known.low (low_fill many)
        (part m (λ o. omega (arith, tree_slots l c (lows many) (eqb o), share_count many (slots_of_item l) (eqb o), slots_two (eqb o)))
        (omega (arith, tree_leaves l c (lows many) off_grid, share_count many (leaves_of_item l) off_grid, leaves_two off_grid)))
        (low_stored many) in
        let t : tight_at (both_now many) es a ≡ map (entry_of_tree l) bs ++ entry_of_tree l m ∷ g ∷ map (entry_of_tree l) zs =
        ap (set es a) r ∙ set_seam l bs e (g ∷ map (entry_of_tree l) zs) (entry_of_tree l m) in
        let r' : entry_for (both_now many) (entry_in (map (entry_of_tree l) bs ++ entry_of_tree l m ∷ g ∷ map (entry_of_tree l) zs) (a + 1)).reference ≡ entry_of_tree l n =
        ap (entry_for (both_now many)) (ap (λ x. x.reference) (at_next l bs (entry_of_tree l m) g (map (entry_of_tree l) zs)) ∙ g-of)
        ∙ read_tree LEAST l (both_now many) d (highs many) known.low (high_fill many)
        (part n (λ o. omega (arith, tree_slots l d (highs many) (eqb o), share_count many (slots_of_item l) (eqb o), slots_two (eqb o)))
        (omega (arith, tree_leaves l d (highs many) off_grid, share_count many (leaves_of_item l) off_grid, leaves_two off_grid)))
        (high_stored many) in
        let u : tight_at (both_now many) (tight_at (both_now many) es a) (a + 1) ≡ map (entry_of_tree l) (bs ++ m ∷ n ∷ zs) =
        ap (λ x. tight_at (both_now many) x (a + 1)) t
        ∙ ap (set (map (entry_of_tree l) bs ++ entry_of_tree l m ∷ g ∷ map (entry_of_tree l) zs) (a + 1)) r'
        ∙ set_next l bs (entry_of_tree l m) g (map (entry_of_tree l) zs) (entry_of_tree l n) ∙ sym (map-append (entry_of_tree l) bs (m ∷ n ∷ zs)) in
        ap (λ w. put_page w s (page (suc l) (tight_at w (tight_at w es a) (a + 1)))) now
        ∙ ap (λ x. put_page (both_now many) s (page (suc l) x)) u

    pub joined_written : Written l ws s two (joined ws s l es a)
    unfolding joined
    joined_written =
        let j : entries_at ws (entry_in es a).reference ++ entries_at ws (entry_in es (a + 1)).reference ≡ map (entry_of_item l) all =
        rw (first_ref, next_ref) joint_read in
        let n = length-map all (entry_of_item l) in
        subst (λ x. Written l ws s two (cond (leb (length x) FAN) (merged ws s l es a x) (shared ws s l es a x))) (sym j)
        (by_leb (λ b. Written l ws s two (cond b (merged ws s l es a (map (entry_of_item l) all)) (shared ws s l es a (map (entry_of_item l) all)))) (length (map (entry_of_item l) all)) FAN
        (λ h. let few : length all ≤ FAN = omega arith in
        (one_now few, bs ++ one_tree few ∷ zs, d ∷ [], one_redone few, one_written few))
        (λ h. let many : FAN < length all = omega arith in
        (both_now many, bs ++ low_tree many ∷ high_tree many ∷ zs, [], both_redone many, both_written many)))
