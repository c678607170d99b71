-- `rules_kept` meets its contract: the table is refused at the first rule that is broken, at the lowest slot where it is, and granted where none is. Assumes nothing.
use Prim.Native.Nat.{ℕ, ◌<◌}
use native.Mathlib.Omega.{arith}
use mathlib.Core.Path.{◌≡◌, refl, sym, ap, ◌∙◌}
use mathlib.Core.List.{List, [], ◌∷◌}
use borrow.Author.Tests.{eq-eqb}
use lib.IntN.{ℤ, pos, negsuc}
use lib.ListN.{length, get_or}
use Rattle.std.specs.Prelude.{Option, None, Some, Ok, Err, MatchOption}
use Rattle.order.specs.Lists.{every, All}
use Rattle.figures.specs.Figures.{SLOTS, LENGTH}
use Rattle.table.specs.declared.given.Refusal.{Refusal}
use Rattle.table.specs.declared.given.Refusal.TheVariants.{NotWellFormed}
use Rattle.table.specs.Given.{Given, Done}
use Rattle.table.specs.Words.{Words}
use Rattle.table.specs.Slots.{slots}
use Rattle.rules.specs.Rules.{rule1, rule2, rule3, rule4, rule5, rule6, rule7_header, rule7, well_formed}
use Rattle.rules.specs.Broken.{Fault, tests, fault_of}
use Rattle.std.proofs.Common.{rules as search_rules}
use borrow.Author.Tests.{tests as test_laws}
use Rattle.rules.proofs.Counted.{below_every}
use Rattle.rules.proofs.Tests.{all_every}
use mathlib.Core.Bool.{Bool, true, false, cond, ◌&&◌, and-true}
use Rattle.rules.proofs.Broken.{Everywhere, FirstAt, Gives, fault_1, fault_2, fault_3, fault_4, fault_5, fault_6, fault_7, fault_7_slots}
use Rattle.std.proofs.lemmas.Result.{err_from_is_err_and}
use Rattle.audit.specs.Asked.{Lowest}
use Rattle.audit.specs.Check.{bad_at, check_gives}
use Rattle.audit.proofs.Every.{lowest_of, lowest_inside, lowest_first, lowest_fails, element_fails}
use Rattle.audit.proofs.rules_kept.Goals as goal

-- the answer of each rule, in their order
abbrev rules : Words → List Bool
rules ws =
    every (rule1 ws) slots
    ∷ rule2 ws
    ∷ every (rule3 ws) slots
    ∷ every (rule4 ws) slots
    ∷ every (rule5 ws) slots
    ∷ every (rule6 ws) slots
    ∷ rule7_header ws
    ∷ every (rule7 ws) slots
    ∷ []

-- well formed is that all of them hold
all_eight : (a b c d e f g h : Bool) → (a && (b && (c && (d && (e && (f && (g && h))))))) ≡ every (λ r. r) (a ∷ b ∷ c ∷ d ∷ e ∷ f ∷ g ∷ h ∷ [])
all_eight a b c d e f g h = ap (λ x. a && (b && (c && (d && (e && (f && (g && x))))))) (sym (and-true h))

rules_all : (ws : Words) → well_formed ws ≡ every (λ r. r) (rules ws)
unfolding well_formed
rules_all ws =
    all_eight (every (rule1 ws) slots) (rule2 ws) (every (rule3 ws) slots) (every (rule4 ws) slots) (every (rule5 ws) slots)
    (every (rule6 ws) slots) (rule7_header ws) (every (rule7 ws) slots)

-- what is told of a rule of the slots
abbrev Told : ℕ → Option ℕ → Given → Type 0
Told rule r g = MatchOption r (g ≡ Done) (λ s. g ≡ Err (NotWellFormed rule (pos s)))

no_refusal : {e : Refusal} → Err e ≡ Done → ⊥
no_refusal t = cc

no_grant : {u : Unit {0}} {e : Refusal} → Ok u ≡ Err e → ⊥
no_grant t = cc

-- a rule that the call goes on after holds at every slot, or in the header
slots_hold : (P : ℕ → Bool) (rule : ℕ) (r : Option ℕ) {u : Unit {0}} → Lowest P SLOTS r → Told rule r (Ok u) → Everywhere SLOTS P
slots_hold P rule None l t = l.cases
slots_hold P rule (Some s) l t = absurd (no_grant t)

header_holds : (b : Bool) (rule : ℕ) {u : Unit {0}} → Ok u ≡ cond b Done (Err (NotWellFormed rule (negsuc 0))) → b ≡ true
header_holds true rule t = refl
header_holds false rule t = absurd (no_grant t)

module _ (ws : Words) (long : length ws ≡ LENGTH) where
  -- one of them does not hold, and where that is
  refused_as : well_formed ws ≡ false → Err (bad_at ws) ≡ check_gives ws
  unfolding check_gives
  refused_as e = rw (eq-eqb (length ws) LENGTH long, e) refl

  fault_is : {rule : ℕ} {slot : ℤ} → Gives ws SLOTS rule slot → fault_of ws ≡ record { rule = rule; slot = slot }
  unfolding fault_of tests
  fault_is f = f

  refused : (i : ℕ) → i < 8 → get_or (rules ws) i true ≡ false → {rule : ℕ} {slot : ℤ} → Gives ws SLOTS rule slot → Err (NotWellFormed rule slot) ≡ check_gives ws
  refused i h f g =
      sym (ap (λ (t : Fault). Err (NotWellFormed t.rule t.slot)) (fault_is g)) ∙ refused_as (rules_all ws ∙ element_fails (λ r. r) (rules ws) true i h f)

  granted : All (λ r. r ≡ true) (rules ws) → Done ≡ check_gives ws
  unfolding check_gives
  granted a = rw (eq-eqb (length ws) LENGTH long, rules_all ws ∙ all_every (λ r. r) (rules ws) a) refl

  -- a rule of the slots, the i-th that is asked: refused where it is broken
  slots_refused : (i : ℕ) → i < 8 → (P : ℕ → Bool) → get_or (rules ws) i true ≡ every P slots → (rule : ℕ) → ((s : ℕ) → FirstAt SLOTS P s → Gives ws SLOTS rule (pos s))
      → (r : Option ℕ) → Lowest P SLOTS r → {e : Refusal} → Told rule r (Err e) → Err e ≡ check_gives ws
  slots_refused i h P same rule gives None l t = absurd (no_refusal t)
  slots_refused i h P same rule gives (Some s) l t = t ∙ refused i h (same ∙ lowest_fails l.cases) (gives s (lowest_first l.cases))

  -- and one of the header
  header_refused : (i : ℕ) → i < 8 → (b : Bool) → get_or (rules ws) i true ≡ b → (rule : ℕ) → (b ≡ false → Gives ws SLOTS rule (negsuc 0))
      → {e : Refusal} → Err e ≡ cond b Done (Err (NotWellFormed rule (negsuc 0))) → Err e ≡ check_gives ws
  header_refused i h true same rule gives t = absurd (no_refusal t)
  header_refused i h false same rule gives t = t ∙ refused i h same (gives refl)

  -- the last rule: refused where it is broken, and else granted
  last_given : (every (rule7 ws) slots ≡ true → All (λ r. r ≡ true) (rules ws)) → ((s : ℕ) → FirstAt SLOTS (rule7 ws) s → Gives ws SLOTS 7 (pos s))
      → (r : Option ℕ) → Lowest (rule7 ws) SLOTS r → {g : Given} → Told 7 r g → g ≡ check_gives ws
  last_given all gives None l t = t ∙ granted (all (below_every (rule7 ws) SLOTS l.cases))
  last_given all gives (Some s) l t = t ∙ refused 7 (omega arith) (lowest_fails l.cases) (gives s (lowest_first l.cases))

-- ---- the rules one after the other

pub at_slots-requires : goal.at_slots-requires
at_slots-requires c = lowest_inside c.first_broken.ensures

pub at_slots-requires-2 : goal.at_slots-requires-2
at_slots-requires-2 c = lowest_inside c.first_broken-2.ensures

pub at_slots-requires-3 : goal.at_slots-requires-3
at_slots-requires-3 c = lowest_inside c.rule4_first.ensures

pub at_slots-requires-4 : goal.at_slots-requires-4
at_slots-requires-4 c = lowest_inside c.first_broken-3.ensures

pub at_slots-requires-5 : goal.at_slots-requires-5
at_slots-requires-5 c = lowest_inside c.first_broken-4.ensures

pub at_slots-requires-6 : goal.at_slots-requires-6
at_slots-requires-6 c = lowest_inside c.rule7_first.ensures

pub returns-in_err-at_slots : goal.returns-in_err-at_slots
returns-in_err-at_slots c =
    let ws = c.args.table.now in
    let p = err_from_is_err_and c.from_residual.result c.from_residual.ensures.1 in
    rw (p.1, p.2) (slots_refused ws c.told-table 0 (omega arith) (rule1 ws) refl 1 (λ s f. fault_1 ws SLOTS f) c.first_broken.result (lowest_of (rule1 ws) (λ k b h a. search (search_rules, test_laws)) c.first_broken.ensures) c.in_err-at_slots.ensures)

pub returns-in_err-at_header : goal.returns-in_err-at_header
returns-in_err-at_header c =
    let ws = c.args.table.now in
    let p = err_from_is_err_and c.from_residual-in_err-at_header.result c.from_residual-in_err-at_header.ensures.1 in
    let held1 : Everywhere SLOTS (rule1 ws) = slots_hold (rule1 ws) 1 c.first_broken.result (lowest_of (rule1 ws) (λ k b h a. search (search_rules, test_laws)) c.first_broken.ensures) c.in_ok-at_slots.ensures in
    rw (p.1, p.2) (header_refused ws c.told-table 1 (omega arith) c.rule2_holds.result (sym c.rule2_holds.ensures) 2 (λ f. fault_2 ws SLOTS held1 (sym c.rule2_holds.ensures ∙ f)) c.in_err-at_header.ensures)

pub returns-in_err-at_slots-2 : goal.returns-in_err-at_slots-2
returns-in_err-at_slots-2 c =
    let ws = c.args.table.now in
    let p = err_from_is_err_and c.from_residual-in_err-at_slots-2.result c.from_residual-in_err-at_slots-2.ensures.1 in
    let held1 : Everywhere SLOTS (rule1 ws) = slots_hold (rule1 ws) 1 c.first_broken.result (lowest_of (rule1 ws) (λ k b h a. search (search_rules, test_laws)) c.first_broken.ensures) c.in_ok-at_slots.ensures in
    let held2 : rule2 ws ≡ true = sym c.rule2_holds.ensures ∙ header_holds c.rule2_holds.result 2 c.in_ok-at_header.ensures in
    rw (p.1, p.2) (slots_refused ws c.told-table 2 (omega arith) (rule3 ws) refl 3 (λ s f. fault_3 ws SLOTS held1 held2 f) c.first_broken-2.result (lowest_of (rule3 ws) (λ k b h a. search (search_rules, test_laws)) c.first_broken-2.ensures) c.in_err-at_slots-2.ensures)

pub returns-in_err-at_slots-3 : goal.returns-in_err-at_slots-3
returns-in_err-at_slots-3 c =
    let ws = c.args.table.now in
    let p = err_from_is_err_and c.from_residual-in_err-at_slots-3.result c.from_residual-in_err-at_slots-3.ensures.1 in
    let held1 : Everywhere SLOTS (rule1 ws) = slots_hold (rule1 ws) 1 c.first_broken.result (lowest_of (rule1 ws) (λ k b h a. search (search_rules, test_laws)) c.first_broken.ensures) c.in_ok-at_slots.ensures in
    let held2 : rule2 ws ≡ true = sym c.rule2_holds.ensures ∙ header_holds c.rule2_holds.result 2 c.in_ok-at_header.ensures in
    let held3 : Everywhere SLOTS (rule3 ws) = slots_hold (rule3 ws) 3 c.first_broken-2.result (lowest_of (rule3 ws) (λ k b h a. search (search_rules, test_laws)) c.first_broken-2.ensures) c.in_ok-at_slots-2.ensures in
    rw (p.1, p.2) (slots_refused ws c.told-table 3 (omega arith) (rule4 ws) refl 4 (λ s f. fault_4 ws SLOTS held1 held2 held3 f) c.rule4_first.result (c.rule4_first.ensures) c.in_err-at_slots-3.ensures)

pub returns-in_err-at_slots-4 : goal.returns-in_err-at_slots-4
returns-in_err-at_slots-4 c =
    let ws = c.args.table.now in
    let p = err_from_is_err_and c.from_residual-in_err-at_slots-4.result c.from_residual-in_err-at_slots-4.ensures.1 in
    let held1 : Everywhere SLOTS (rule1 ws) = slots_hold (rule1 ws) 1 c.first_broken.result (lowest_of (rule1 ws) (λ k b h a. search (search_rules, test_laws)) c.first_broken.ensures) c.in_ok-at_slots.ensures in
    let held2 : rule2 ws ≡ true = sym c.rule2_holds.ensures ∙ header_holds c.rule2_holds.result 2 c.in_ok-at_header.ensures in
    let held3 : Everywhere SLOTS (rule3 ws) = slots_hold (rule3 ws) 3 c.first_broken-2.result (lowest_of (rule3 ws) (λ k b h a. search (search_rules, test_laws)) c.first_broken-2.ensures) c.in_ok-at_slots-2.ensures in
    let held4 : Everywhere SLOTS (rule4 ws) = slots_hold (rule4 ws) 4 c.rule4_first.result (c.rule4_first.ensures) c.in_ok-at_slots-3.ensures in
    rw (p.1, p.2) (slots_refused ws c.told-table 4 (omega arith) (rule5 ws) refl 5 (λ s f. fault_5 ws SLOTS held1 held2 held3 held4 f) c.first_broken-3.result (lowest_of (rule5 ws) (λ k b h a. search (search_rules, test_laws)) c.first_broken-3.ensures) c.in_err-at_slots-4.ensures)

pub first_broken-requires-4 : goal.first_broken-requires-4
first_broken-requires-4 c =
    let ws = c.args.table.now in
    let held5 : Everywhere SLOTS (rule5 ws) = slots_hold (rule5 ws) 5 c.first_broken-3.result (lowest_of (rule5 ws) (λ k b h a. search (search_rules, test_laws)) c.first_broken-3.ensures) c.in_ok-at_slots-4.ensures in
    λ slot h _ _ _ _ _. (h, held5 slot h)

pub returns-in_err-at_slots-5 : goal.returns-in_err-at_slots-5
returns-in_err-at_slots-5 c =
    let ws = c.args.table.now in
    let p = err_from_is_err_and c.from_residual-in_err-at_slots-5.result c.from_residual-in_err-at_slots-5.ensures.1 in
    let held1 : Everywhere SLOTS (rule1 ws) = slots_hold (rule1 ws) 1 c.first_broken.result (lowest_of (rule1 ws) (λ k b h a. search (search_rules, test_laws)) c.first_broken.ensures) c.in_ok-at_slots.ensures in
    let held2 : rule2 ws ≡ true = sym c.rule2_holds.ensures ∙ header_holds c.rule2_holds.result 2 c.in_ok-at_header.ensures in
    let held3 : Everywhere SLOTS (rule3 ws) = slots_hold (rule3 ws) 3 c.first_broken-2.result (lowest_of (rule3 ws) (λ k b h a. search (search_rules, test_laws)) c.first_broken-2.ensures) c.in_ok-at_slots-2.ensures in
    let held4 : Everywhere SLOTS (rule4 ws) = slots_hold (rule4 ws) 4 c.rule4_first.result (c.rule4_first.ensures) c.in_ok-at_slots-3.ensures in
    let held5 : Everywhere SLOTS (rule5 ws) = slots_hold (rule5 ws) 5 c.first_broken-3.result (lowest_of (rule5 ws) (λ k b h a. search (search_rules, test_laws)) c.first_broken-3.ensures) c.in_ok-at_slots-4.ensures in
    rw (p.1, p.2) (slots_refused ws c.told-table 5 (omega arith) (rule6 ws) refl 6 (λ s f. fault_6 ws SLOTS held1 held2 held3 held4 held5 f) c.first_broken-4.result (lowest_of (rule6 ws) (λ k b h a. search (search_rules, test_laws)) c.first_broken-4.ensures) c.in_err-at_slots-5.ensures)

pub returns-in_err-at_header-2 : goal.returns-in_err-at_header-2
returns-in_err-at_header-2 c =
    let ws = c.args.table.now in
    let p = err_from_is_err_and c.from_residual-in_err-at_header-2.result c.from_residual-in_err-at_header-2.ensures.1 in
    let held1 : Everywhere SLOTS (rule1 ws) = slots_hold (rule1 ws) 1 c.first_broken.result (lowest_of (rule1 ws) (λ k b h a. search (search_rules, test_laws)) c.first_broken.ensures) c.in_ok-at_slots.ensures in
    let held2 : rule2 ws ≡ true = sym c.rule2_holds.ensures ∙ header_holds c.rule2_holds.result 2 c.in_ok-at_header.ensures in
    let held3 : Everywhere SLOTS (rule3 ws) = slots_hold (rule3 ws) 3 c.first_broken-2.result (lowest_of (rule3 ws) (λ k b h a. search (search_rules, test_laws)) c.first_broken-2.ensures) c.in_ok-at_slots-2.ensures in
    let held4 : Everywhere SLOTS (rule4 ws) = slots_hold (rule4 ws) 4 c.rule4_first.result (c.rule4_first.ensures) c.in_ok-at_slots-3.ensures in
    let held5 : Everywhere SLOTS (rule5 ws) = slots_hold (rule5 ws) 5 c.first_broken-3.result (lowest_of (rule5 ws) (λ k b h a. search (search_rules, test_laws)) c.first_broken-3.ensures) c.in_ok-at_slots-4.ensures in
    let held6 : Everywhere SLOTS (rule6 ws) = slots_hold (rule6 ws) 6 c.first_broken-4.result (lowest_of (rule6 ws) (λ k b h a. search (search_rules, test_laws)) c.first_broken-4.ensures) c.in_ok-at_slots-5.ensures in
    rw (p.1, p.2) (header_refused ws c.told-table 6 (omega arith) c.points_agree.result (sym c.points_agree.ensures) 7 (λ f. fault_7 ws SLOTS held1 held2 held3 held4 held5 held6 (sym c.points_agree.ensures ∙ f)) c.in_err-at_header-2.ensures)

pub rule7_first-requires : goal.rule7_first-requires
rule7_first-requires c =
    let ws = c.args.table.now in
    let held5 : Everywhere SLOTS (rule5 ws) = slots_hold (rule5 ws) 5 c.first_broken-3.result (lowest_of (rule5 ws) (λ k b h a. search (search_rules, test_laws)) c.first_broken-3.ensures) c.in_ok-at_slots-4.ensures in
    below_every (rule5 ws) SLOTS held5

pub returns : goal.returns
returns c =
    let ws = c.args.table.now in
    let held1 : Everywhere SLOTS (rule1 ws) = slots_hold (rule1 ws) 1 c.first_broken.result (lowest_of (rule1 ws) (λ k b h a. search (search_rules, test_laws)) c.first_broken.ensures) c.in_ok-at_slots.ensures in
    let held2 : rule2 ws ≡ true = sym c.rule2_holds.ensures ∙ header_holds c.rule2_holds.result 2 c.in_ok-at_header.ensures in
    let held3 : Everywhere SLOTS (rule3 ws) = slots_hold (rule3 ws) 3 c.first_broken-2.result (lowest_of (rule3 ws) (λ k b h a. search (search_rules, test_laws)) c.first_broken-2.ensures) c.in_ok-at_slots-2.ensures in
    let held4 : Everywhere SLOTS (rule4 ws) = slots_hold (rule4 ws) 4 c.rule4_first.result (c.rule4_first.ensures) c.in_ok-at_slots-3.ensures in
    let held5 : Everywhere SLOTS (rule5 ws) = slots_hold (rule5 ws) 5 c.first_broken-3.result (lowest_of (rule5 ws) (λ k b h a. search (search_rules, test_laws)) c.first_broken-3.ensures) c.in_ok-at_slots-4.ensures in
    let held6 : Everywhere SLOTS (rule6 ws) = slots_hold (rule6 ws) 6 c.first_broken-4.result (lowest_of (rule6 ws) (λ k b h a. search (search_rules, test_laws)) c.first_broken-4.ensures) c.in_ok-at_slots-5.ensures in
    let header : rule7_header ws ≡ true = sym c.points_agree.ensures ∙ header_holds c.points_agree.result 7 c.in_ok-at_header-2.ensures in
    last_given ws c.told-table
    (λ held7. (
      below_every (rule1 ws) SLOTS held1,
      (held2, (below_every (rule3 ws) SLOTS held3, (below_every (rule4 ws) SLOTS held4, (below_every (rule5 ws) SLOTS held5, (below_every (rule6 ws) SLOTS held6, (header, (held7, tt))))))),
    ))
    (λ s f. fault_7_slots ws SLOTS held1 held2 held3 held4 held5 held6 header f) c.rule7_first.result c.rule7_first.ensures c.at_slots-6.ensures
