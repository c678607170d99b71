-- Where a table is bad, rule by rule: a rule that holds at all its places is passed, and the first that does not is given at the lowest place where it is broken. By recursion on the places. Assumes nothing.
use Prim.Native.Nat.{ℕ, zero, suc, ◌+◌, ◌≤◌, ◌<◌}
use native.Mathlib.Omega.{arith}
use native.Mathlib.Decide.{ℕ_discrete}
use mathlib.Core.Path.{◌≡◌, refl, ◌∙◌}
use mathlib.Core.Bool.{Bool, true, false}
use mathlib.Core.List.{List, [], ◌∷◌, ◌++◌}
use lib.IntN.{ℤ, pos, negsuc}
use Rattle.order.specs.Lists.{join, All}
use Rattle.order.specs.Order.{up_from}
use Rattle.table.specs.Words.{Words}
use Rattle.rules.specs.Rules.{rule1, rule2, rule3, rule4, rule5, rule6, rule7_header, rule7}
use Rattle.rules.specs.Broken.{Test, Fault, at_header, at_slots, rule_by_rule, first_broken}

-- all tests of a list hold
abbrev Hold : List Test → Type 0
Hold ts = All (λ t. t.holds ≡ true) ts

past : (ts rest : List Test) → Hold ts → first_broken (ts ++ rest) ≡ first_broken rest
past [] rest h = refl
past (t ∷ ts) rest h = rw h.0 (past ts rest h.1)

-- whole rules that hold are passed
past_rules : (rs qs : List (List Test)) → All Hold rs → first_broken (join (λ ts. ts) (rs ++ qs)) ≡ first_broken (join (λ ts. ts) qs)
past_rules [] qs h = refl
past_rules (r ∷ rs) qs h = past r (join (λ ts. ts) (rs ++ qs)) h.0 ∙ past_rules rs qs h.1

-- ---- one rule

hold_from : (rule : ℕ) (P : ℕ → Bool) (a n : ℕ) → ((k : ℕ) → a ≤ k → k < a + n → P k ≡ true) → Hold (at_slots rule P (up_from a n))
hold_from rule P a zero h = tt
hold_from rule P a (suc n) h = (h a (omega arith) (omega arith), hold_from rule P (suc a) n (λ k l u. h k (omega arith) (omega arith)))

hold_slots : (rule : ℕ) (P : ℕ → Bool) (n : ℕ) → ((k : ℕ) → k < n → P k ≡ true) → Hold (at_slots rule P (up_from 0 n))
hold_slots rule P n h = hold_from rule P 0 n (λ k l u. h k (omega arith))

module _ (rule : ℕ) (P : ℕ → Bool) (rest : List Test) where
  broken_from : (a n i : ℕ) → a ≤ i → i < a + n → ((k : ℕ) → a ≤ k → k < i → P k ≡ true) → P i ≡ false
      → first_broken (at_slots rule P (up_from a n) ++ rest) ≡ record { rule = rule; slot = pos i }
  broken_from a zero i l u h f = absurd (omega arith)
  broken_from a (suc n) i l u h f =
      elim (ℕ_discrete a i) [
        | yes e ↦ rw (e, f) refl
        | no e ↦ rw (h a (omega arith) (omega arith)) (broken_from (suc a) n i (omega arith) (omega arith) (λ k m v. h k (omega arith) v) f)
      ]

  broken_at : (n i : ℕ) → i < n → ((k : ℕ) → k < i → P k ≡ true) → P i ≡ false
      → first_broken (at_slots rule P (up_from 0 n) ++ rest) ≡ record { rule = rule; slot = pos i }
  broken_at n i u h f = broken_from 0 n i (omega arith) (omega arith) (λ k l v. h k v) f

broken_header : (rule : ℕ) {b : Bool} (rest : List Test) → b ≡ false → first_broken (at_header rule b ++ rest) ≡ record { rule = rule; slot = negsuc 0 }
broken_header rule rest f = rw f refl

-- ---- the table, of n slots

-- a rule holds at each of them
abbrev pub Everywhere : ℕ → (ℕ → Bool) → Type 0
Everywhere n P = (k : ℕ) → k < n → P k ≡ true

-- it is broken, and i is the lowest where it is
pub record FirstAt (n : ℕ) (P : ℕ → Bool) (i : ℕ) : Type 0 where
  pub inside : i < n
  pub below : (k : ℕ) → k < i → P k ≡ true
  pub broken : P i ≡ false

module _ (ws : Words) (n : ℕ) where
  -- what is given
  abbrev pub Gives : ℕ → ℤ → Type 0
  Gives rule slot = ◌≡◌ {A = Fault} (first_broken (join (λ ts. ts) (rule_by_rule ws (up_from 0 n)))) (record { rule = rule; slot = slot })

  -- a rule of the slots behind rules that hold, and one of the header
  at_slots_lem : (rs qs : List (List Test)) (rule : ℕ) {P : ℕ → Bool} {i : ℕ} → All Hold rs → FirstAt n P i
      → first_broken (join (λ ts. ts) (rs ++ at_slots rule P (up_from 0 n) ∷ qs)) ≡ record { rule = rule; slot = pos i }
  at_slots_lem rs qs rule {P} {i} h f =
      past_rules rs (at_slots rule P (up_from 0 n) ∷ qs) h ∙ broken_at rule P (join (λ ts. ts) qs) n i f.inside f.below f.broken

  at_header_lem : (rs qs : List (List Test)) (rule : ℕ) {b : Bool} → All Hold rs → b ≡ false
      → first_broken (join (λ ts. ts) (rs ++ at_header rule b ∷ qs)) ≡ record { rule = rule; slot = negsuc 0 }
  at_header_lem rs qs rule {b} h f = past_rules rs (at_header rule b ∷ qs) h ∙ broken_header rule (join (λ ts. ts) qs) f

  -- the rules one after the other, each where those before it hold
  abbrev part : ℕ → (ℕ → Bool) → List Test
  part rule P = at_slots rule P (up_from 0 n)

  -- the rules behind
  abbrev behind7 : List (List Test)
  behind7 = part 7 (rule7 ws) ∷ []

  abbrev behind6 : List (List Test)
  behind6 = at_header 7 (rule7_header ws) ∷ behind7

  abbrev behind5 : List (List Test)
  behind5 = part 6 (rule6 ws) ∷ behind6

  abbrev behind4 : List (List Test)
  behind4 = part 5 (rule5 ws) ∷ behind5

  abbrev behind3 : List (List Test)
  behind3 = part 4 (rule4 ws) ∷ behind4

  abbrev behind2 : List (List Test)
  behind2 = part 3 (rule3 ws) ∷ behind3

  abbrev behind1 : List (List Test)
  behind1 = at_header 2 (rule2 ws) ∷ behind2

  pub fault_1 : {i : ℕ} → FirstAt n (rule1 ws) i → Gives 1 (pos i)
  fault_1 f = at_slots_lem [] behind1 1 tt f

  module _ (h1 : Everywhere n (rule1 ws)) where
    held_1 : Hold (part 1 (rule1 ws))
    held_1 = hold_slots 1 (rule1 ws) n h1

    pub fault_2 : rule2 ws ≡ false → Gives 2 (negsuc 0)
    fault_2 f = at_header_lem (part 1 (rule1 ws) ∷ []) behind2 2 (held_1, tt) f

    module _ (h2 : rule2 ws ≡ true) where
      pub fault_3 : {i : ℕ} → FirstAt n (rule3 ws) i → Gives 3 (pos i)
      fault_3 f = at_slots_lem (part 1 (rule1 ws) ∷ at_header 2 (rule2 ws) ∷ []) behind3 3 (held_1, ((h2, tt), tt)) f

      module _ (h3 : Everywhere n (rule3 ws)) where
        held_3 : Hold (part 3 (rule3 ws))
        held_3 = hold_slots 3 (rule3 ws) n h3

        pub fault_4 : {i : ℕ} → FirstAt n (rule4 ws) i → Gives 4 (pos i)
        fault_4 f = at_slots_lem (part 1 (rule1 ws) ∷ at_header 2 (rule2 ws) ∷ part 3 (rule3 ws) ∷ []) behind4 4 (held_1, ((h2, tt), (held_3, tt))) f

        module _ (h4 : Everywhere n (rule4 ws)) where
          held_4 : Hold (part 4 (rule4 ws))
          held_4 = hold_slots 4 (rule4 ws) n h4

          pub fault_5 : {i : ℕ} → FirstAt n (rule5 ws) i → Gives 5 (pos i)
          fault_5 f = at_slots_lem (part 1 (rule1 ws) ∷ at_header 2 (rule2 ws) ∷ part 3 (rule3 ws) ∷ part 4 (rule4 ws) ∷ []) behind5 5 (held_1, ((h2, tt), (held_3, (held_4, tt)))) f

          module _ (h5 : Everywhere n (rule5 ws)) where
            held_5 : Hold (part 5 (rule5 ws))
            held_5 = hold_slots 5 (rule5 ws) n h5

            pub fault_6 : {i : ℕ} → FirstAt n (rule6 ws) i → Gives 6 (pos i)
            fault_6 f =
                at_slots_lem (part 1 (rule1 ws) ∷ at_header 2 (rule2 ws) ∷ part 3 (rule3 ws) ∷ part 4 (rule4 ws) ∷ part 5 (rule5 ws) ∷ []) behind6 6
                (held_1, ((h2, tt), (held_3, (held_4, (held_5, tt))))) f

            module _ (h6 : Everywhere n (rule6 ws)) where
              held_6 : Hold (part 6 (rule6 ws))
              held_6 = hold_slots 6 (rule6 ws) n h6

              pub fault_7 : rule7_header ws ≡ false → Gives 7 (negsuc 0)
              fault_7 f =
                  at_header_lem (part 1 (rule1 ws) ∷ at_header 2 (rule2 ws) ∷ part 3 (rule3 ws) ∷ part 4 (rule4 ws) ∷ part 5 (rule5 ws) ∷ part 6 (rule6 ws) ∷ []) behind7 7
                  (held_1, ((h2, tt), (held_3, (held_4, (held_5, (held_6, tt)))))) f

              pub fault_7_slots : rule7_header ws ≡ true → {i : ℕ} → FirstAt n (rule7 ws) i → Gives 7 (pos i)
              fault_7_slots h7 f =
                  at_slots_lem (part 1 (rule1 ws) ∷ at_header 2 (rule2 ws) ∷ part 3 (rule3 ws) ∷ part 4 (rule4 ws) ∷ part 5 (rule5 ws) ∷ part 6 (rule6 ws) ∷ at_header 7 (rule7_header ws) ∷ []) [] 7
                  (held_1, ((h2, tt), (held_3, (held_4, (held_5, (held_6, ((h7, tt), tt))))))) f
