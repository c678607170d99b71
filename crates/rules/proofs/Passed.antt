-- The rules, one by one: a table is well formed where every slot passes every test. Assumes nothing.
use Prim.Native.Nat.{ℕ, ◌<◌}
use mathlib.Core.Path.{◌≡◌}
use mathlib.Core.Bool.{true, ◌&&◌}
use Rattle.order.proofs.Lists.{and_left, and_right}
use Rattle.order.specs.Lists.{every}
use Rattle.figures.specs.Figures.{SLOTS}
use Rattle.table.specs.Words.{Words}
use Rattle.table.specs.Slots.{slots}
use Rattle.rules.specs.Rules.{rule1, rule2, rule3, rule4, rule5, rule6, rule7, rule7_header, well_formed}
use Rattle.rules.proofs.Tests.{both_true}
use Rattle.rules.proofs.Counted.{every_below, below_every}

pub record Passed (ws : Words) : Type 0 where
  pub one : (s : ℕ) → s < SLOTS → rule1 ws s ≡ true
  pub two : rule2 ws ≡ true
  pub three : (s : ℕ) → s < SLOTS → rule3 ws s ≡ true
  pub four : (s : ℕ) → s < SLOTS → rule4 ws s ≡ true
  pub five : (s : ℕ) → s < SLOTS → rule5 ws s ≡ true
  pub six : (s : ℕ) → s < SLOTS → rule6 ws s ≡ true
  pub header : rule7_header ws ≡ true
  pub seven : (s : ℕ) → s < SLOTS → rule7 ws s ≡ true

pub passed : (ws : Words) → well_formed ws ≡ true → Passed ws
unfolding well_formed
passed ws h =
    let a1 = every (rule1 ws) slots in
    let a2 = rule2 ws in
    let a3 = every (rule3 ws) slots in
    let a4 = every (rule4 ws) slots in
    let a5 = every (rule5 ws) slots in
    let a6 = every (rule6 ws) slots in
    let a7 = rule7_header ws in
    let a8 = every (rule7 ws) slots in
    let h2 = and_right a1 (a2 && (a3 && (a4 && (a5 && (a6 && (a7 && a8)))))) h in
    let h3 = and_right a2 (a3 && (a4 && (a5 && (a6 && (a7 && a8))))) h2 in
    let h4 = and_right a3 (a4 && (a5 && (a6 && (a7 && a8)))) h3 in
    let h5 = and_right a4 (a5 && (a6 && (a7 && a8))) h4 in
    let h6 = and_right a5 (a6 && (a7 && a8)) h5 in
    let h7 = and_right a6 (a7 && a8) h6 in
    record {
      one = every_below (rule1 ws) SLOTS (and_left a1 (a2 && (a3 && (a4 && (a5 && (a6 && (a7 && a8)))))) h);
      two = and_left a2 (a3 && (a4 && (a5 && (a6 && (a7 && a8))))) h2;
      three = every_below (rule3 ws) SLOTS (and_left a3 (a4 && (a5 && (a6 && (a7 && a8)))) h3);
      four = every_below (rule4 ws) SLOTS (and_left a4 (a5 && (a6 && (a7 && a8))) h4);
      five = every_below (rule5 ws) SLOTS (and_left a5 (a6 && (a7 && a8)) h5);
      six = every_below (rule6 ws) SLOTS (and_left a6 (a7 && a8) h6);
      header = and_left a7 a8 h7;
      seven = every_below (rule7 ws) SLOTS (and_right a7 a8 h7);
    }

pub passing : (ws : Words) → Passed ws → well_formed ws ≡ true
unfolding well_formed
passing ws p =
    both_true (below_every (rule1 ws) SLOTS p.one)
    (both_true p.two
    (both_true (below_every (rule3 ws) SLOTS p.three)
    (both_true (below_every (rule4 ws) SLOTS p.four)
    (both_true (below_every (rule5 ws) SLOTS p.five)
    (both_true (below_every (rule6 ws) SLOTS p.six) (both_true p.header (below_every (rule7 ws) SLOTS p.seven)))))))
