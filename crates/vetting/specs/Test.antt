-- The final test as the code makes it: in steps, over the entries of all leaves.
use Rattle.std.specs.Prelude.{ℕ, zero, suc, Bool, not, ◌&&◌, List, eqb, ltb}
use Rattle.grid.specs.declared.place.Place.{Place}
use Rattle.grid.specs.Place.{dist², Inside}
use Rattle.grid.specs.AsNear.{as_near}
use Rattle.order.specs.Lists.{count, join, All}
use Rattle.table.specs.declared.node.Entry.{Entry}
use Rattle.table.specs.Words.{Words}
use Rattle.table.specs.Slots.{slots, entries_at}
use Rattle.rules.specs.Rules.{leaf_entries}
use Rattle.filter.specs.Walk.{spot_in}

-- the entry is another point, as near to the point with this number at p as a place at the squared distance far from p, or nearer
unfoldable pub other_as_near : ℕ → Place → ℕ → Entry → Bool
other_as_near number p far e = not (eqb e.reference number) && as_near (dist² (spot_in e) p) far

-- fewer than k others are as near or nearer
unfoldable pub passes : Words → ℕ → Place → ℕ → ℕ → Bool
passes ws number p far k = ltb (count (other_as_near number p far) (join (leaf_entries ws) slots)) k

-- the points below the node in slot s, of level l
abbrev pub below : ℕ → Words → ℕ → List Entry
below zero ws s = entries_at ws s
below (suc l) ws s = join (λ e. below l ws e.reference) (entries_at ws s)

-- each box below that node holds the points below it; every well-formed table is so
abbrev pub Boxed : ℕ → Words → ℕ → Type 0
Boxed zero ws s = Unit
Boxed (suc l) ws s = All (λ e. All (λ c. Inside (spot_in c) e.rect) (below l ws e.reference) × Boxed l ws e.reference) (entries_at ws s)
