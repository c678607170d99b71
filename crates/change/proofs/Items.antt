-- The items of a tree's top node, named alike at every level: points in a leaf, trees above. What a tree is made of is then said once for all levels, each law by the two cases of the level. Assumes nothing.
use Prim.Native.Nat.{ℕ, zero, suc, ◌≤◌}
use mathlib.Core.Path.{◌≡◌, refl, sym, ap}
use mathlib.Core.List.{List, [], ◌∷◌, map, map-id}
use lib.ListN.{length}
use Rattle.order.specs.Lists.{join, All}
use Rattle.order.proofs.Lists.{join_one}
use Rattle.table.specs.declared.node.Entry.{Entry}
use Rattle.figures.specs.Figures.{FAN, LEAST}
use Rattle.table.specs.Words.{Words, part_at}
use Rattle.table.specs.Page.{page, page_words}
use Rattle.table.specs.Tree.{Tree, bough, top_of, entry_of_tree, entries_of_tree, slots_of, leaves_of, Filled, Stored}

abbrev pub Item : ℕ → Type 0
Item zero = Entry
Item (suc l) = Tree l

abbrev pub items_of : (l : ℕ) → Tree l → List (Item l)
items_of zero t = t.items
items_of (suc l) t = t.items

abbrev pub tree_of : (l : ℕ) → ℕ → List (Item l) → Tree l
tree_of zero s xs = bough s xs
tree_of (suc l) s xs = bough s xs

abbrev pub entry_of_item : (l : ℕ) → Item l → Entry
entry_of_item zero e = e
entry_of_item (suc l) t = entry_of_tree l t

abbrev pub slots_of_item : (l : ℕ) → Item l → List ℕ
slots_of_item zero e = []
slots_of_item (suc l) t = slots_of l t

abbrev pub leaves_of_item : (l : ℕ) → Item l → List Entry
leaves_of_item zero e = e ∷ []
leaves_of_item (suc l) t = leaves_of l t

abbrev pub StoredItem : (l : ℕ) → Words → Item l → Type 0
StoredItem zero ws e = Unit
StoredItem (suc l) ws t = Stored l ws t

abbrev pub FilledItem : (l : ℕ) → Item l → Type 0
FilledItem zero e = Unit
FilledItem (suc l) t = Filled LEAST l t

-- ---- lists

pub join_none : {A B : Type 0} (xs : List A) → join {B = B} (λ x. []) xs ≡ []
join_none [] = refl
join_none (x ∷ xs) = join_none xs

pub all_unit : {A : Type 0} (xs : List A) → All (λ x. Unit) xs
all_unit [] = tt
all_unit (x ∷ xs) = (tt, all_unit xs)

-- ---- a tree is its slot and its items

pub tree_top : (l s : ℕ) (xs : List (Item l)) → top_of l (tree_of l s xs) ≡ s
tree_top zero s xs = refl
tree_top (suc l) s xs = refl

pub tree_items : (l s : ℕ) (xs : List (Item l)) → items_of l (tree_of l s xs) ≡ xs
tree_items zero s xs = refl
tree_items (suc l) s xs = refl

pub tree_same : (l : ℕ) (t : Tree l) → tree_of l (top_of l t) (items_of l t) ≡ t
tree_same zero t = refl
tree_same (suc l) t = refl

pub entries_items : (l : ℕ) (t : Tree l) → entries_of_tree l t ≡ map (entry_of_item l) (items_of l t)
entries_items zero t = sym (map-id t.items)
entries_items (suc l) t = refl

pub slots_items : (l : ℕ) (t : Tree l) → slots_of l t ≡ top_of l t ∷ join (slots_of_item l) (items_of l t)
slots_items zero t = ap (λ ss. t.slot ∷ ss) (sym (join_none t.items))
slots_items (suc l) t = refl

pub leaves_items : (l : ℕ) (t : Tree l) → leaves_of l t ≡ join (leaves_of_item l) (items_of l t)
leaves_items zero t = sym (join_one t.items)
leaves_items (suc l) t = refl

-- ---- a tree is stored if its page is and its items are

abbrev pub StoredNode : (l : ℕ) → Words → ℕ → List (Item l) → Type 0
StoredNode l ws s xs = (part_at ws s ≡ page_words (page l (map (entry_of_item l) xs))) × All (StoredItem l ws) xs

pub stored_node : (l : ℕ) (ws : Words) (t : Tree l) → Stored l ws t → StoredNode l ws (top_of l t) (items_of l t)
stored_node zero ws t h = (rw map-id h, all_unit t.items)
stored_node (suc l) ws t h = h

pub node_stored : (l : ℕ) (ws : Words) (s : ℕ) (xs : List (Item l)) → StoredNode l ws s xs → Stored l ws (tree_of l s xs)
node_stored zero ws s xs h = rw map-id at h.0
node_stored (suc l) ws s xs h = h

-- ---- and filled if its number of items is right and its items are filled

abbrev pub FilledNode : (l : ℕ) → ℕ → List (Item l) → Type 0
FilledNode l lo xs = (lo ≤ length xs) × (length xs ≤ FAN) × All (FilledItem l) xs

pub filled_node : (l lo : ℕ) (t : Tree l) → Filled lo l t → FilledNode l lo (items_of l t)
filled_node zero lo t f = (f.0, f.1, all_unit t.items)
filled_node (suc l) lo t f = (f.0.0, f.0.1, f.1)

pub node_filled : (l lo s : ℕ) (xs : List (Item l)) → FilledNode l lo xs → Filled lo l (tree_of l s xs)
node_filled zero lo s xs f = (f.0, f.1)
node_filled (suc l) lo s xs f = ((f.0, f.1), f.2)
