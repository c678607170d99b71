-- What a node by value holds at a place is what its array has there. Assumes nothing.
use Prim.Native.Nat.{ℕ, ◌-◌, ◌<◌}
use native.Mathlib.Omega.{arith}
use mathlib.Core.Path.{◌≡◌, refl, sym, ap, subst, ◌∙◌}
use mathlib.Core.List.{List, [], ◌∷◌, map}
use lib.ListN.{length, take, get_or, replicate, length-map}
use lib.Seq.{get_or-take, take_at}
use Rattle.order.specs.Lists.{All}
use Rattle.order.specs.Order.{order, row_of, pick}
use Rattle.order.proofs.Order.{order_length, order_below, row_below, pick_order}
use Rattle.table.specs.declared.node.Entry.{Entry}
use Rattle.table.specs.declared.node.Node.{Node}
use Rattle.table.specs.Page.{held, blank_entry}
use Rattle.table.proofs.Nodes.{held_length}
use Rattle.grid.specs.declared.rect.Axis.{Axis}
use Rattle.grid.specs.Place.{longer_axis, sum_on}
use Rattle.table.specs.Page.{cover_of}
use Rattle.change.specs.Share.{lined}

pub held_at : (n : Node) (i : ℕ) → i < n.count → get_or (held n) i blank_entry ≡ get_or n.entries i blank_entry
held_at n i h = get_or-take n.count n.entries i blank_entry h

-- ---- the entries by a row of places

pick_held : (n : Node) (is : List ℕ) → All (λ i. i < n.count) is → pick n.entries blank_entry is ≡ pick (held n) blank_entry is
pick_held n [] a = refl
pick_held n (i ∷ is) a = cc (held_at n i a.0, pick_held n is a.1)

module _ (n : Node) (axis : Axis) (row : List ℕ) {sums : List ℕ} (full : length n.entries ≡ 10)
    (longer : axis ≡ longer_axis (cover_of (held n))) (keys : sums ≡ map (λ e. sum_on axis e.rect) (held n))
    (made : row ≡ row_of sums) where
  abbrev key : Entry → ℕ
  key e = sum_on (longer_axis (cover_of (held n))) e.rect

  keys_are : sums ≡ map key (held n)
  keys_are = keys ∙ ap (λ a. map (λ e. sum_on a e.rect) (held n)) longer

  keys_many : length (map key (held n)) ≡ n.count
  keys_many = length-map (held n) key ∙ held_length n full

  pub row_small : All (λ i. i < 10) row
  row_small = subst (λ r. All (λ i. i < 10) r) (sym (made ∙ ap row_of keys_are)) (row_below (map key (held n)) (omega (arith, keys_many, n.room)))

  pub row_lined : pick n.entries blank_entry (take n.count row) ≡ lined (held n)
  unfolding lined
  row_lined =
      let ks = map key (held n) in
      let places : take n.count row ≡ order ks =
      ap (take n.count) (made ∙ ap row_of keys_are) ∙ take_at (order ks) (replicate (10 - length ks) 0) n.count (order_length ks ∙ keys_many) in
      ap (pick n.entries blank_entry) places
      ∙ pick_held n (order ks) (subst (λ m. All (λ i. i < m) (order ks)) keys_many (order_below ks))
      ∙ pick_order key (held n) blank_entry
