-- 02 §4: where a table is bad. The rules in their order, each at its places in theirs; −1, the two header words, is below all slots.
use Rattle.std.specs.Prelude.{ℕ, Bool, cond, List, [], ◌∷◌, map, ℤ, pos, negsuc}
use Rattle.order.specs.Lists.{join}
use Rattle.table.specs.Words.{Words}
use Rattle.table.specs.Slots.{slots}
use Rattle.rules.specs.Rules.{rule1, rule2, rule3, rule4, rule5, rule6, rule7_header, rule7}

-- one rule, by its number, at one place: whether it holds there
pub record Test : Type 0 where
  pub rule : ℕ
  pub slot : ℤ
  pub holds : Bool

-- a rule of the two header words
abbrev pub at_header : ℕ → Bool → List Test
at_header rule b = record { rule = rule; slot = negsuc 0; holds = b } ∷ []

-- a rule of each slot, the lowest first
abbrev pub at_slots : ℕ → (ℕ → Bool) → List ℕ → List Test
at_slots rule P ss = map (λ s. record { rule = rule; slot = pos s; holds = P s }) ss

-- the rules in their order, each at its places. A repeated number is broken at the later place, by rule 4's own words; a slot referred to too often or not at all, at that slot; a bad child or box, at the slot of its entry
abbrev pub rule_by_rule : Words → List ℕ → List (List Test)
rule_by_rule ws ss =
    at_slots 1 (rule1 ws) ss
    ∷ at_header 2 (rule2 ws)
    ∷ at_slots 3 (rule3 ws) ss
    ∷ at_slots 4 (rule4 ws) ss
    ∷ at_slots 5 (rule5 ws) ss
    ∷ at_slots 6 (rule6 ws) ss
    ∷ at_header 7 (rule7_header ws)
    ∷ at_slots 7 (rule7 ws) ss
    ∷ []

-- one test after the other
unfoldable pub tests : Words → List Test
tests ws = join (λ ts. ts) (rule_by_rule ws slots)

-- where a table is bad
pub record Fault : Type 0 where
  pub rule : ℕ
  pub slot : ℤ

-- the first test that is broken; 0 and 0 if none is
abbrev pub first_broken : List Test → Fault
first_broken [] = record { rule = 0; slot = pos 0 }
first_broken (t ∷ ts) = cond t.holds (first_broken ts) (record { rule = t.rule; slot = t.slot })

unfoldable pub fault_of : Words → Fault
fault_of ws = first_broken (tests ws)
