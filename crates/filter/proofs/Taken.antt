-- The entries of a node as they are taken, in the order of their keys. Assumes nothing.
use Prim.Native.Nat.{ℕ, ◌<◌}
use native.Mathlib.Omega.{arith}
use mathlib.Core.Path.{◌≡◌, sym, ap, ◌∙◌}
use mathlib.Core.List.{List, map}
use lib.ListN.{length, get_or, length-map}
use Rattle.grid.specs.declared.place.Place.{Place}
use Rattle.grid.specs.Place.{least_square}
use Rattle.order.specs.Order.{order, row_of, sort_by}
use Rattle.order.proofs.Lists.{all_at}
use Rattle.order.proofs.Order.{sort_length, order_length, order_below, row_at, pick_at, pick_order}
use Rattle.table.specs.declared.node.Entry.{Entry}
use Rattle.table.specs.Page.{blank_entry}
use Rattle.filter.specs.Walk.{nearest_first}

module _ (es : List Entry) where
  module _ (key : Entry → ℕ) (i : ℕ) (h : i < length es) where
    place : get_or (row_of (map key es)) i 0 ≡ get_or (order (map key es)) i 0
    place = row_at (map key es) i (omega (arith, length-map es key))

    -- the place of the one that is taken i-th is that of an entry
    row_below : get_or (row_of (map key es)) i 0 < length es
    row_below =
        let ks = map key es in
        omega (arith, place, length-map es key, all_at (λ j. j < length ks) (order ks) i 0 (omega (arith, order_length ks, length-map es key)) (order_below ks))

    -- the one that is taken i-th is the i-th of the sort
    row_taken : get_or es (get_or (row_of (map key es)) i 0) blank_entry ≡ get_or (sort_by key es) i blank_entry
    row_taken =
        let ks = map key es in
        ap (λ (j : ℕ). get_or es j blank_entry) place
        ∙ sym (pick_at es blank_entry (order ks) blank_entry i (omega (arith, order_length ks, length-map es key)))
        ∙ ap (λ l. get_or l i blank_entry) (pick_order key es blank_entry)

  -- nearest first
  module _ (q : Place) (k : ℕ) (row : List ℕ) (same : row ≡ row_of (map (λ e. least_square e.rect q) es)) (i : ℕ) (h : i < length es) where
    pub taken_below : get_or row i 0 < length es
    taken_below = rw same (row_below (λ e. least_square e.rect q) i h)

    pub taken_at : get_or es (get_or row i 0) blank_entry ≡ get_or (nearest_first q k es) i blank_entry
    unfolding nearest_first
    taken_at = rw same (row_taken (λ e. least_square e.rect q) i h)

  pub taken_length : (q : Place) (k : ℕ) → length (nearest_first q k es) ≡ length es
  unfolding nearest_first
  taken_length q k = sort_length (λ e. least_square e.rect q) es
