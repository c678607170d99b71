-- One node takes its items: up to eight stay, of nine four stay and five go to the lowest free slot. What is then stored, which slots changed and which were taken follows from the frame laws, and what the trees hold from the shares. Assumes nothing.
use Prim.Native.Nat.{ℕ, zero, suc, ◌+◌, ◌≤◌, ◌<◌}
use native.Mathlib.Omega.{arith}
use mathlib.Core.Path.{◌≡◌, refl, sym, ap, ◌∙◌}
use mathlib.Core.Bool.{Bool, true, false, cond}
use mathlib.Core.List.{List, [], ◌∷◌, ◌++◌, map}
use lib.Dec.{eqb}
use lib.ListN.{length, length-map}
use borrow.Author.Tests.{eqb-true}
use Rattle.order.specs.Lists.{one, count, join, All}
use Rattle.order.proofs.Lists.{by_bool, by_leb, count_append, count_join, join_append}
use Rattle.table.specs.declared.node.Entry.{Entry}
use Rattle.figures.specs.Figures.{FAN, LEAST, SLOTS, LENGTH}
use Rattle.table.specs.Words.{Words}
use Rattle.table.specs.Page.{page, page_words, cover_of}
use Rattle.table.specs.Slots.{is_free, put_page, lowest_free}
use Rattle.table.specs.Tree.{Tree, top_of, entry_of_tree, slots_of, leaves_of, Filled, Stored}
use Rattle.table.proofs.Slots.{put_here, put_other, put_long, lowest_free_lem}
use Rattle.change.specs.Share.{first_share, other_share}
use Rattle.joining.specs.Within.{free_count}
use Rattle.joining.specs.Enrol.{Grown, kept, split, settled}
use Rattle.change.proofs.Shares.{first_by, other_by, first_map, other_map, share_by_perm, first_by_length, other_by_length, first_by_all, other_by_all}
use Rattle.change.proofs.Items.{Item, tree_of, entry_of_item, slots_of_item, leaves_of_item, StoredItem, FilledItem, tree_top, entries_items, slots_items, leaves_items, node_stored, node_filled}
use Rattle.change.proofs.Frame.{times, times_self, times_one, Frame, Inside, Sited, frame_then, put_frame, items_kept}
use Rattle.joining.proofs.EnrolFree.{free_part, some_free, put_keeps, put_takes}

-- ---- what a tree made of items holds

pub slots_tree : (l s : ℕ) (xs : List (Item l)) → slots_of l (tree_of l s xs) ≡ s ∷ join (slots_of_item l) xs
slots_tree zero s xs = slots_items zero (tree_of zero s xs)
slots_tree (suc l) s xs = refl

pub leaves_tree : (l s : ℕ) (xs : List (Item l)) → leaves_of l (tree_of l s xs) ≡ join (leaves_of_item l) xs
leaves_tree zero s xs = leaves_items zero (tree_of zero s xs)
leaves_tree (suc l) s xs = refl

pub entry_tree : (l s : ℕ) (xs : List (Item l)) → entry_of_tree l (tree_of l s xs) ≡ record { reference = s; rect = cover_of (map (entry_of_item l) xs) }
entry_tree zero s xs = ap (λ es. record { reference = s; rect = cover_of es }) (entries_items zero (tree_of zero s xs))
entry_tree (suc l) s xs = refl

-- both shares together hold what all of it holds
share_count : {A B : Type 0} (f : A → Entry) (T : A → List B) (P : B → Bool) (xs : List A)
    → count P (join T (first_by f xs)) + count P (join T (other_by f xs)) ≡ count P (join T xs)
share_count f T P xs =
    sym (count_append P (join T (first_by f xs)) (join T (other_by f xs)))
    ∙ ap (count P) (sym (join_append T (first_by f xs) (other_by f xs)))
    ∙ count_join T P (share_by_perm f xs)

-- ---- what an insertion leaves

-- The node in slot s has become `here`, with `new` beside it. Before, the slots were `old`; now `taken`, free before, are there too; the leaves hold `points`.
pub record Made (lo l n : ℕ) (ws : Words) (s : ℕ) (old : List ℕ) (points : List Entry) (g : Grown) : Type 0 where
  pub here : Tree l
  pub new : List (Tree l)
  pub taken : List ℕ
  pub top : top_of l here ≡ s
  pub stored : Stored l g.words here
  pub stored_new : All (Stored l g.words) new
  pub handed : g.new ≡ map (entry_of_tree l) new
  pub slots : (o : ℕ) → times o (slots_of l here) + times o (join (slots_of l) new) ≡ times o taken + times o old
  pub leaves : (P : Entry → Bool) → count P (leaves_of l here) + count P (join (leaves_of l) new) ≡ count P points
  pub filled : Filled lo l here
  pub filled_new : All (Filled LEAST l) new
  -- a node with a new one beside it is as full as any below a root
  pub parted : 0 < length new → Filled LEAST l here
  pub single : length new ≤ 1
  pub frame : Frame (old ++ taken) ws g.words
  pub free : (o : ℕ) → 1 ≤ times o taken → (o < SLOTS) × (is_free ws o ≡ true)
  pub once : (o : ℕ) → times o taken ≤ 1
  pub left : free_count g.words + length taken ≡ free_count ws
  pub few : length taken ≤ n

-- a slot that is free is not one that is used
pub free_used : (ws : Words) (s o : ℕ) → is_free ws s ≡ true → is_free ws o ≡ false → s ≡ o → ⊥
free_used ws s o f u e =
    let z : true ≡ false = sym f ∙ (ap (is_free ws) e ∙ u) in
    let k : ◌≡◌ {A = ℕ} 0 1 = cc in
    omega arith

pub times_not : (o s : ℕ) → (o ≡ s → ⊥) → one (eqb o s) ≡ 0
times_not o s d = by_bool (λ b. eqb o s ≡ b → one b ≡ 0) (eqb o s) (λ e f. absurd (d (eqb-true o s f))) (λ e f. refl) refl

pub one_most : (b : Bool) → one b + 0 ≤ 1
one_most true = omega arith
one_most false = omega arith

-- The node in slot s, of level l, is to take the items xs, which stand in the table.
pub record Ready (lo l : ℕ) (ws : Words) (s : ℕ) (xs : List (Item l)) : Type 0 where
  pub long : length ws ≡ LENGTH
  pub low : s < SLOTS
  pub used : is_free ws s ≡ false
  pub stored : All (StoredItem l ws) xs
  pub six : l ≤ 5
  pub apart : (o : ℕ) → 1 ≤ times o (join (slots_of_item l) xs) → (o ≡ s → ⊥) × (is_free ws o ≡ false)
  pub once : (o : ℕ) → times o (join (slots_of_item l) xs) ≤ 1
  pub inside : Inside (join (slots_of_item l) xs)
  pub sited : Sited (join (leaves_of_item l) xs)
  pub full : lo ≤ length xs
  pub nine : length xs ≤ 9
  pub filled : All (FilledItem l) xs
  pub room : 0 < free_count ws

module _ (lo l : ℕ) (ws : Words) (s : ℕ) (xs : List (Item l)) (r : Ready lo l ws s xs) (lo4 : lo ≤ 4) where
  on_items : (ss : List ℕ) (us : Words) → Frame ss ws us → ((o : ℕ) → (o ≡ s → ⊥) → is_free ws o ≡ false → times o ss ≡ 0) → All (StoredItem l us) xs
  on_items ss us f h = items_kept ss ws us f l xs (λ o m. h o (r.apart o m).0 (r.apart o m).1) r.stored

  -- up to eight
  pub kept_made : length xs ≤ FAN → Made lo l 1 ws s (s ∷ join (slots_of_item l) xs) (join (leaves_of_item l) xs) (kept ws s l (map (entry_of_item l) xs))
  kept_made le =
      let long = r.long in
      let low = r.low in
      let es = map (entry_of_item l) xs in
      let t = tree_of l s xs in
      let few : length es ≤ FAN = omega (arith, length-map xs (entry_of_item l)) in
      let us = put_page ws s (page l es) in
      let fr : (ss : List ℕ) → 1 ≤ times s ss → Frame ss ws us = λ ss m. put_frame ss ws s long low m (page l es) few in
      record {
        here = t;
        new = [];
        taken = [];
        top = tree_top l s xs;
        stored = node_stored l us s xs
            (put_here ws s (page l es) long low few, on_items (s ∷ []) us (fr (s ∷ []) (omega (arith, times_self s))) (λ o d u. omega (arith, times_not o s d)));
        stored_new = tt;
        handed = refl;
        slots = λ o. omega (arith, ap (times o) (slots_tree l s xs));
        leaves = λ P. omega (arith, ap (count P) (leaves_tree l s xs));
        filled = node_filled l lo s xs (r.full, le, r.filled);
        filled_new = tt;
        parted = λ z. absurd (omega arith);
        single = omega arith;
        frame = fr ((s ∷ join (slots_of_item l) xs) ++ []) (omega (arith, times_self s));
        free = λ o m. absurd (omega arith);
        once = λ o. omega arith;
        left = omega (arith, put_keeps ws s (page l es) long low few r.used);
        few = omega arith;
      }

  -- nine
  pub split_made : length xs ≡ 9
      → Made lo l 1 ws s (s ∷ join (slots_of_item l) xs) (join (leaves_of_item l) xs) (split ws s l (map (entry_of_item l) xs))
  split_made nine =
      let long = r.long in
      let low = r.low in
      let E = entry_of_item l in
      let es = map E xs in
      let ys = first_by E xs in
      let zs = other_by E xs in
      let f = lowest_free ws in
      let lowf : f < SLOTS = some_free ws r.room in
      let freef : is_free ws f ≡ true = lowest_free_lem ws lowf in
      let ey : first_share es ≡ map E ys = first_map E xs in
      let ez : other_share es ≡ map E zs = other_map E xs in
      let ny : length ys ≡ 4 = omega (arith, first_by_length E xs) in
      let nz : length zs ≡ 5 = omega (arith, other_by_length E xs) in
      let few1 : length (first_share es) ≤ FAN = omega (arith, ap length ey, length-map ys E) in
      let few2 : length (other_share es) ≤ FAN = omega (arith, ap length ez, length-map zs E) in
      let p = page l (first_share es) in
      let q = page l (other_share es) in
      let us = put_page ws s p in
      let vs = put_page us f q in
      let long1 : length us ≡ LENGTH = put_long ws s p long low few1 ∙ long in
      let sf : s ≡ f → ⊥ = λ e. free_used ws f s freef r.used (sym e) in
      let freef1 : is_free us f ≡ true = free_part us ws f (put_other ws s p long low few1 f (λ e. sf (sym e))) ∙ freef in
      let fr : (ss : List ℕ) → 1 ≤ times s ss → 1 ≤ times f ss → Frame ss ws vs = λ ss m n.
      frame_then ss ws us vs (put_frame ss ws s long low m p few1) (put_frame ss us f long1 lowf n q few2) in
      let all : All (StoredItem l vs) xs = on_items (s ∷ f ∷ []) vs (fr (s ∷ f ∷ []) (omega (arith, times_self s)) (omega (arith, times_self f)))
      (λ o d u. omega (arith, times_not o s d, times_not o f (λ e. free_used ws f o freef u (sym e)))) in
      record {
        here = tree_of l s ys;
        new = tree_of l f zs ∷ [];
        taken = f ∷ [];
        top = tree_top l s ys;
        stored = node_stored l vs s ys (
          put_other us f q long1 lowf few2 s sf ∙ put_here ws s p long low few1 ∙ ap (λ fs. page_words (page l fs)) ey,
          first_by_all E (StoredItem l vs) xs all,
        );
        stored_new = (
          node_stored l vs f zs (
            put_here us f q long1 lowf few2 ∙ ap (λ fs. page_words (page l fs)) ez,
            other_by_all E (StoredItem l vs) xs all,
          ),
          tt,
        );
        handed = ap (λ fs. record { reference = f; rect = cover_of fs } ∷ []) ez ∙ ap (λ e. e ∷ []) (sym (entry_tree l f zs));
        slots = λ o. omega (
          arith,
          ap (times o) (slots_tree l s ys),
          count_append (eqb o) (slots_of l (tree_of l f zs)) [],
          ap (times o) (slots_tree l f zs),
          share_count E (slots_of_item l) (eqb o) xs,
        );
        leaves = λ P. omega (
          arith,
          ap (count P) (leaves_tree l s ys),
          count_append P (leaves_of l (tree_of l f zs)) [],
          ap (count P) (leaves_tree l f zs),
          share_count E (leaves_of_item l) P xs,
        );
        filled = node_filled l lo s ys (omega arith, omega arith, first_by_all E (FilledItem l) xs r.filled);
        filled_new = (node_filled l LEAST f zs (omega arith, omega arith, other_by_all E (FilledItem l) xs r.filled), tt);
        parted = λ z. node_filled l LEAST s ys (omega arith, omega arith, first_by_all E (FilledItem l) xs r.filled);
        single = omega arith;
        frame = fr ((s ∷ join (slots_of_item l) xs) ++ f ∷ []) (omega (arith, times_self s))
            (omega (arith, count_append (eqb f) (s ∷ join (slots_of_item l) xs) (f ∷ []), times_self f));
        free = λ o m.
            let e : o ≡ f = times_one o f (omega arith) in
            (omega arith, ap (is_free ws) e ∙ freef);
        once = λ o. one_most (eqb o f);
        left = omega (arith, put_keeps ws s p long low few1 r.used, put_takes us f q long1 lowf few2 freef1);
        few = omega arith;
      }

  pub settled_made : Made lo l 1 ws s (s ∷ join (slots_of_item l) xs) (join (leaves_of_item l) xs) (settled ws s l (map (entry_of_item l) xs))
  unfolding settled
  settled_made =
      let es = map (entry_of_item l) xs in
      let e = length-map xs (entry_of_item l) in
      by_leb (λ b. Made lo l 1 ws s (s ∷ join (slots_of_item l) xs) (join (leaves_of_item l) xs) (cond b (kept ws s l es) (split ws s l es)))
      (length es) FAN (λ h. kept_made (omega arith)) (λ h. split_made (omega (arith, r.nine)))
