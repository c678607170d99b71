-- The entries of a node as the walk takes them: the front of the row of their places, nearest first. Assumes nothing.
use Prim.Native.Nat.{ℕ, ◌-◌, ◌≤◌, ◌<◌}
use native.Mathlib.Omega.{arith}
use mathlib.Core.Path.{◌≡◌, sym, ap, ◌∙◌}
use mathlib.Core.List.{List, map}
use lib.ListN.{length, take, get_or, length-map}
use Rattle.std.proofs.lemmas.List.{get_or-take, length-take-le}
use Rattle.grid.specs.declared.place.Place.{Place}
use Rattle.grid.specs.Place.{least_square}
use Rattle.order.specs.Order.{row_of}
use Rattle.order.proofs.Order.{row_length}
use Rattle.table.specs.declared.node.Entry.{Entry}
use Rattle.table.specs.Words.{Words}
use Rattle.table.specs.Page.{blank_entry}
use Rattle.table.specs.Slots.{entries_at}
use Rattle.table.proofs.Slots.{page_few}
use Rattle.filter.specs.Walk.{nearest_first}
use Rattle.filter.specs.Passable.{Passable}
use Rattle.filter.proofs.Taken.{taken_below, taken_at, taken_length}
use Rattle.filter.proofs.NodeTurns.{IsChild}
use Rattle.vetting.specs.Test.{Boxed}
use Rattle.vetting.proofs.Below.{Box, child_at_lem}

module _ (ws : Words) (slot : ℕ) (q : Place) (count : ℕ) (row : List ℕ) (many : count ≡ length (entries_at ws slot))
    (nearest : row ≡ row_of (map (λ e. least_square e.rect q) (entries_at ws slot))) where
  abbrev es : List Entry
  es = entries_at ws slot

  pub row_fits : count ≤ length row
  row_fits =
      let ks = map (λ (e : Entry). least_square e.rect q) es in
      omega (arith, many, page_few ws slot, length-map es (λ (e : Entry). least_square e.rect q), ap length nearest, row_length ks (omega (arith, page_few ws slot, length-map es (λ (e : Entry). least_square e.rect q))))

  pub turns_length : count ≡ length (take count row)
  turns_length = sym (length-take-le count row row_fits)

  -- the entry whose turn it is
  module _ (i : ℕ) (h : i < length (take count row)) where
    turn_inside : i < length es
    turn_inside = omega (arith, turns_length, many)

    turn_place : get_or (take count row) i 0 ≡ get_or row i 0
    turn_place = get_or-take count row i 0 (omega (arith, turns_length))

    pub turn_below : get_or (take count row) i 0 < length es
    turn_below = omega (arith, turn_place, taken_below es q 0 row nearest i turn_inside)

    pub turn_in_order : i < length (nearest_first q 0 es)
    turn_in_order = omega (arith, turn_inside, taken_length es q 0)

    module _ {e : Entry} (is : e ≡ get_or es (get_or (take count row) i 0) blank_entry) where
      pub turn_taken : e ≡ get_or (nearest_first q 0 es) i blank_entry
      turn_taken = is ∙ ap (λ (j : ℕ). get_or es j blank_entry) turn_place ∙ taken_at es q 0 row nearest i turn_inside

      pub turn_child : (level : ℕ) → 0 < level → Passable level ws slot → Boxed level ws slot → IsChild ws (level - 1) e × Box ws (level - 1) e
      turn_child level up pass boxed = rw is (child_at_lem ws slot level up pass boxed _ turn_below)
