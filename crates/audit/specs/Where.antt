-- 02 §4, as a reader wants it of the check: what refusal 2 says of a table.
use Rattle.std.specs.Prelude.{◌≤◌, ◌<◌, ◌≡◌, true, false, ◌⊎◌, pos}
use Rattle.std.specs.Int.Signed.{lt_z}
use Rattle.order.specs.Lists.{every, Mem, All}
use Rattle.table.specs.Given.{Given, number_given, rule_given, slot_given}
use Rattle.table.specs.Words.{Words}
use Rattle.rules.specs.Rules.{well_formed}
use Rattle.rules.specs.Broken.{Test, Fault, tests}
use Rattle.audit.specs.Check.{check_gives}

-- the rule and the slot of an answer
abbrev pub fault_given : Given → Fault
fault_given g = record { rule = rule_given g; slot = slot_given g }

-- a test of a lower rule, or of the same rule at a lower place; −1, the two header words, is below all slots
abbrev pub StandsBefore : Test → Fault → Type 0
StandsBefore t f = (t.rule < f.rule) ⊎ ((t.rule ≡ f.rule) × (lt_z t.slot f.slot ≡ true))

pub record BadAt (ws : Words) (f : Fault) : Type 0 where
  -- the rule is broken at the slot
  pub test : Test
  pub asked : Mem test (tests ws)
  pub rule : test.rule ≡ f.rule
  pub slot : test.slot ≡ f.slot
  pub broken : test.holds ≡ false
  -- every lower rule holds at every place, and the same rule at every lower place
  pub before : All (λ t. StandsBefore t f → t.holds ≡ true) (tests ws)

pub record Where : Type 0 where
  -- well formed exactly if no test is broken
  pub formed : (ws : Words) → well_formed ws ≡ every (λ t. t.holds) (tests ws)
  -- with 2 the check tells where the table is bad, and the rule is 1 at least
  pub bad : (ws : Words) → number_given (check_gives ws) ≡ 2 → BadAt ws (fault_given (check_gives ws))
  pub some : (ws : Words) → number_given (check_gives ws) ≡ 2 → 1 ≤ rule_given (check_gives ws)
  -- with any other answer, of any call, both are 0
  pub none : (g : Given) → (number_given g ≡ 2 → ⊥) → fault_given g ≡ record { rule = 0; slot = pos 0 }
