-- The slots of a tree and its points as two flat lists: no slot twice, each a slot of the table, and nothing but points. Such lists have parts, and they make a tree good. By counting. Assumes nothing.
use Prim.Native.Nat.{ℕ, ◌≤◌}
use native.Mathlib.Omega.{arith}
use mathlib.Core.List.{List}
use Rattle.order.specs.Lists.{count}
use Rattle.table.specs.declared.node.Entry.{Entry}
use Rattle.table.specs.Tree.{Tree, slots_of, leaves_of, Filled}
use Rattle.rules.proofs.Reading.{Good}
use Rattle.change.proofs.Frame.{times, Inside, off_grid, Sited}
use Rattle.change.proofs.Counts.{good_counts, counts_good}

pub record Flat (ss : List ℕ) (es : List Entry) : Type 0 where
  pub once : (o : ℕ) → times o ss ≤ 1
  pub inside : Inside ss
  pub sited : Sited es

pub flat_part : (ss ts : List ℕ) (es fs : List Entry) → ((o : ℕ) → times o ts ≤ times o ss) → count off_grid fs ≤ count off_grid es
    → Flat ss es → Flat ts fs
flat_part ss ts es fs h k f = record {
  once = λ o. omega (arith, h o, f.once o);
  inside = λ o m. f.inside o (omega (arith, h o));
  sited = omega (arith, f.sited);
}

pub flat_good : (lo l : ℕ) (t : Tree l) → l ≤ 5 → Filled lo l t → Flat (slots_of l t) (leaves_of l t) → Good lo l t
flat_good lo l t low f g = counts_good low f (record { once = g.once; inside = g.inside; sited = g.sited })

pub good_flat : (lo l : ℕ) (t : Tree l) → Good lo l t → Flat (slots_of l t) (leaves_of l t)
good_flat lo l t g = let c = good_counts g in record { once = c.once; inside = c.inside; sited = c.sited }
