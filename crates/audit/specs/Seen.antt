-- What rules 4 and 7 keep while they go through the slots: a map of the point numbers met, and how often each slot was referred to.
use Rattle.std.specs.Prelude.{ℕ, ◌+◌, ◌≤◌, ◌<◌, ◌≡◌, Bool, true, false, List, ◌++◌, map, eqb, length, get_or}
use Rattle.order.specs.Lists.{count, has}
use Rattle.table.specs.declared.node.Entry.{Entry}
use Rattle.figures.specs.Figures.{SLOTS, HIGHEST}
use Rattle.rules.specs.Rules.{each_new}

-- the references of some entries: point numbers in a leaf, child slots above
abbrev pub refs_of : List Entry → List ℕ
refs_of es = map (λ e. e.reference) es

-- the map marks exactly the numbers of a list
pub record Marks (seen : List Bool) (ns : List ℕ) : Type 0 where
  pub long : length seen ≡ HIGHEST + 1
  pub exact : (n : ℕ) → n ≤ HIGHEST → get_or seen n false ≡ has n ns

-- more numbers are entered: whether each of them is new, and if so the map marks them too
pub record Entered (before ns : List ℕ) (allNew : Bool) (seen : List Bool) : Type 0 where
  pub answer : allNew ≡ each_new before ns
  pub marks : allNew ≡ true → Marks seen (before ++ ns)

-- each slot's number says how often the slot stands in a list
pub record Tally (times refs : List ℕ) : Type 0 where
  pub long : length times ≡ SLOTS
  pub exact : (s : ℕ) → s < SLOTS → get_or times s 0 ≡ count (eqb s) refs
