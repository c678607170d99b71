-- A tree as the slots' readings have it: at each of its nodes the slot is used, of the node's level, and has the node's entries. Its points and its references are those of its slots. By recursion on the level. Assumes nothing.
use Prim.Native.Nat.{ℕ, zero, suc}
use mathlib.Core.Path.{◌≡◌, refl, sym, ap, subst, ◌∙◌}
use mathlib.Core.Logic.{⊎_elim}
use mathlib.Core.List.Memᴰ
use mathlib.Core.List.{List, [], ◌∷◌, ◌++◌, map, map-map, append-nil, append_assoc}
use Rattle.order.specs.Lists.{join, Mem, All}
use Rattle.order.specs.Order.{Perm, pskip, ptrans}
use Rattle.order.proofs.Perm.{prefl, perm_behind, perm_append, perm_turn}
use Rattle.order.proofs.Lists.{join_append, all_mem, mem_all}
use Rattle.table.specs.declared.node.Entry.{Entry}
use Rattle.table.specs.Words.{Words}
use Rattle.table.specs.Slots.{entries_at}
use Rattle.rules.specs.Rules.{leaf_entries, refs_at}
use Rattle.table.specs.Tree.{Tree, bough, top_of, entry_of_tree, entries_of_tree, slots_of, leaves_of, Stored}
use Rattle.rules.proofs.Joined.{join_mem, join_join, join_same}
use Rattle.rules.proofs.Reading.{Good, good_child, top_inside, entry_reference, stored_child, stored_used, stored_level, stored_entries}
use Rattle.rules.proofs.OneSlot.{Here, leaf_leaf, leaf_above, above_leaf, above_above}

-- one node: the slot is of the level and has the entries
pub record Node (ws : Words) (l s : ℕ) (es : List Entry) : Type 0 where
  pub here : Here ws l s
  pub entries : entries_at ws s ≡ es

abbrev pub Read : (l : ℕ) → Words → Tree l → Type 0
Read zero ws t = Node ws zero t.slot t.items
Read (suc l) ws t = Node ws (suc l) t.slot (map (entry_of_tree l) t.items) × All (Read l ws) t.items

-- ---- a stored tree

good_node : (ws : Words) {lo l : ℕ} {t : Tree l} → Good lo l t → Stored l ws t → Node ws l (top_of l t) (entries_of_tree l t)
good_node ws {l = l} {t = t} g st =
    record {
      here = record { inside = top_inside g; used = stored_used ws l t st; level = stored_level ws g st };
      entries = stored_entries ws g st;
    }

pub read_good : (ws : Words) {lo l : ℕ} {t : Tree l} → Good lo l t → Stored l ws t → Read l ws t
read_good ws {l = zero} g st = good_node ws g st
read_good ws {l = suc l} {t = t} g st =
    (good_node ws g st, all_mem (Read l ws) t.items (λ c m. read_good ws (good_child g m) (stored_child ws l t st m)))

-- ---- the tree at a slot

abbrev pub tree_at : (l : ℕ) → Words → ℕ → Tree l
tree_at zero ws s = bough s (entries_at ws s)
tree_at (suc l) ws s = bough s (map (λ e. tree_at l ws e.reference) (entries_at ws s))

pub top_at : (l : ℕ) (ws : Words) (s : ℕ) → top_of l (tree_at l ws s) ≡ s
top_at zero ws s = refl
top_at (suc l) ws s = refl

-- a map that leaves each element as it is
pub map_keeps : {A : Type 0} (f : A → A) (xs : List A) → ((x : A) → Mem x xs → f x ≡ x) → map f xs ≡ xs
map_keeps f [] h = refl
map_keeps f (x ∷ xs) h =
    let e = h x (Memᴰ.head refl) in
    let d = map_keeps f xs (λ y m. h y (Memᴰ.tail m)) in
    cc

-- two of three parts change places
swap : {A : Type 0} (xs ys zs : List A) → Perm (xs ++ (ys ++ zs)) (ys ++ (xs ++ zs))
swap xs ys zs = rw (← append_assoc xs ys zs, ← append_assoc ys xs zs) (perm_behind (perm_turn xs ys) zs)

module _ (ws : Words) where
  -- ---- its slots

  pub read_slot : (l : ℕ) (t : Tree l) → Read l ws t → {s : ℕ} → Mem s (slots_of l t) → (k : ℕ) × Here ws k s
  read_slot zero t r m = (zero, subst (Here ws zero) (sym (Memᴰ.eq_of_singleton m)) r.here)
  read_slot (suc l) t r {s} m =
      ⊎_elim {C = (k : ℕ) × Here ws k s}
      (λ e. (suc l, subst (Here ws (suc l)) (sym e) r.0.here))
      (λ n. let c = join_mem (slots_of l) t.items n in read_slot l c.0 (mem_all (Read l ws) t.items r.1 c.1) c.2)
      (Memᴰ.cases_cons m)

  -- ---- its points

  pub read_leaves : (l : ℕ) (t : Tree l) → Read l ws t → leaves_of l t ≡ join (leaf_entries ws) (slots_of l t)
  read_leaves zero t r = sym (append-nil (leaf_entries ws t.slot) ∙ leaf_leaf ws t.slot r.here ∙ r.entries)
  read_leaves (suc l) t r =
      join_same (leaves_of l) (λ c. join (leaf_entries ws) (slots_of l c)) t.items
      (λ c m. read_leaves l c (mem_all (Read l ws) t.items r.1 m))
      ∙ sym (join_join (leaf_entries ws) (slots_of l) t.items)
      ∙ ap (λ es. es ++ join (leaf_entries ws) (join (slots_of l) t.items)) (sym (above_leaf ws t.slot r.0.here))

  -- ---- its references: every slot but the top's, once each

  refs_leaf : {s : ℕ} → Here ws zero s → refs_at ws s ≡ []
  refs_leaf {s} h = ap (map (λ e. e.reference)) (leaf_above ws s h)

  refs_above : (l : ℕ) (t : Tree (suc l)) → Read (suc l) ws t → refs_at ws t.slot ≡ map (top_of l) t.items
  refs_above l t r =
      ap (map (λ e. e.reference)) (above_above ws t.slot r.0.here ∙ r.0.entries)
      ∙ map-map (λ e. e.reference) (entry_of_tree l) t.items
      ∙ ap (λ f. map f t.items) (λ i c. entry_reference l c i)

  refs_trees : (l : ℕ) → ((c : Tree l) → Read l ws c → Perm (slots_of l c) (top_of l c ∷ join (refs_at ws) (slots_of l c))) → (cs : List (Tree l)) → All (Read l ws) cs
      → Perm (join (slots_of l) cs) (map (top_of l) cs ++ join (refs_at ws) (join (slots_of l) cs))
  refs_trees l k [] a = prefl []
  refs_trees l k (c ∷ cs) a =
      let A = join (refs_at ws) (slots_of l c) in
      let M = map (top_of l) cs in
      let B = join (refs_at ws) (join (slots_of l) cs) in
      let p : Perm (slots_of l c ++ join (slots_of l) cs) (top_of l c ∷ (A ++ (M ++ B))) = perm_append (k c a.0) (refs_trees l k cs a.1) in
      let q : Perm (top_of l c ∷ (A ++ (M ++ B))) (top_of l c ∷ (M ++ (A ++ B))) = pskip (top_of l c) (swap A M B) in
      subst (λ rs. Perm (slots_of l c ++ join (slots_of l) cs) (top_of l c ∷ (M ++ rs))) (sym (join_append (refs_at ws) (slots_of l c) (join (slots_of l) cs)))
      (ptrans p q)

  pub read_refs : (l : ℕ) (t : Tree l) → Read l ws t → Perm (slots_of l t) (top_of l t ∷ join (refs_at ws) (slots_of l t))
  read_refs zero t r =
      subst (λ rs. Perm (t.slot ∷ []) (t.slot ∷ (rs ++ []))) (sym (refs_leaf r.here)) (prefl (t.slot ∷ []))
  read_refs (suc l) t r =
      pskip t.slot
      (subst (λ rs. Perm (join (slots_of l) t.items) (rs ++ join (refs_at ws) (join (slots_of l) t.items))) (sym (refs_above l t r))
      (refs_trees l (read_refs l) t.items r.1))
