-- What refusal 2 says of a table: the tests stand in the order of their rules and places, so the first that is broken has none broken before it. Assumes nothing.
use Prim.Native.Nat.{ℕ, zero, suc, ◌≤◌, ◌<◌}
use native.Mathlib.Omega.{arith}
use mathlib.Core.Path.{◌≡◌, refl, sym, ap, subst, ◌∙◌}
use mathlib.Core.Bool.{Bool, true, false, not, cond, false≢true}
use mathlib.Core.Logic.{inl, inr}
use mathlib.Core.List.Memᴰ
use mathlib.Core.List.{List, [], ◌∷◌, ◌++◌}
use borrow.Author.Tests.{lt-ltb, ltb-true}
use lib.Dec.{ltb, eqb}
use lib.IntN.{ℤ, pos, negsuc}
use lib.ListN.{length}
use lib.Signed.{lt_z}
use Rattle.order.specs.Lists.{every, join, Mem, All}
use Rattle.order.specs.Order.{up_from}
use Rattle.order.proofs.Lists.{by_bool, all_append, all_then, mem_all, and_left, and_right}
use Rattle.figures.specs.Figures.{SLOTS, LENGTH}
use Rattle.std.specs.Prelude.{Ok, Err}
use Rattle.table.specs.declared.given.Refusal.TheVariants.{WrongLength, NotWellFormed, NoSuchNumber, OffGrid, NoSuchK, AlreadyEnrolled, Full, NotEnrolled, FewCandidates, ShortList, Misshapen, SheetTooLong}
use Rattle.table.specs.Given.{Given, Done, number_given}
use Rattle.table.specs.Words.{Words}
use Rattle.table.specs.Slots.{slots}
use Rattle.rules.specs.Rules.{rule1, rule2, rule3, rule4, rule5, rule6, rule7_header, rule7, well_formed}
use Rattle.rules.specs.Broken.{Test, Fault, at_header, at_slots, rule_by_rule, tests, first_broken, fault_of}
use Rattle.rules.proofs.Tests.{every_all, all_every}
use Rattle.rules.proofs.Joined.{all_parts}
use Rattle.audit.specs.Check.{check_gives}
use Rattle.audit.specs.Where.{fault_given, StandsBefore, BadAt, Where}

-- ---- the order of places

abbrev place : Test → Fault
place t = record { rule = t.rule; slot = t.slot }

not_both : (a b : ℕ) → ltb a b ≡ true → ltb b a ≡ true → ⊥
not_both a b e f = omega (arith, ltb-true a b e, ltb-true b a f)

lower_asym : (y z : ℤ) → lt_z y z ≡ true → lt_z z y ≡ true → ⊥
lower_asym (pos a) (pos b) e f = not_both a b e f
lower_asym (pos a) (negsuc b) e f = false≢true e
lower_asym (negsuc a) (pos b) e f = false≢true f
lower_asym (negsuc a) (negsuc b) e f = not_both b a e f

before_asym : (t u : Test) → StandsBefore t (place u) → StandsBefore u (place t) → ⊥
before_asym t u (inl h) (inl k) = omega arith
before_asym t u (inl h) (inr k) = omega (arith, k.0)
before_asym t u (inr h) (inl k) = omega (arith, h.0)
before_asym t u (inr h) (inr k) = lower_asym t.slot u.slot h.1 k.1

-- ---- tests in order

abbrev InOrder : List Test → Type 0
InOrder [] = Unit
InOrder (t ∷ ts) = All (λ u. StandsBefore t (place u)) ts × InOrder ts

order_append : (ts us : List Test) → InOrder ts → InOrder us → All (λ t. All (λ u. StandsBefore t (place u)) us) ts → InOrder (ts ++ us)
order_append [] us a b c = b
order_append (t ∷ ts) us a b c = (all_append (λ u. StandsBefore t (place u)) ts us a.0 c.0, order_append ts us a.1 b c.1)

-- the first that is broken has none broken before it
first_before : (ts : List Test) → InOrder ts → All (λ t. StandsBefore t (first_broken ts) → t.holds ≡ true) ts
first_before [] o = tt
first_before (t ∷ ts) o =
    by_bool (λ b. t.holds ≡ b → All (λ u. StandsBefore u (cond b (first_broken ts) (place t)) → u.holds ≡ true) (t ∷ ts)) t.holds
    (λ e h. (λ s. h, first_before ts o.1))
    (λ e h. (λ s. absurd (before_asym t t s s), all_then (λ u. StandsBefore t (place u)) (λ u. StandsBefore u (place t) → u.holds ≡ true) (λ u k s. absurd (before_asym t u k s)) ts o.0))
    refl

-- one of them is broken
record Found (ts : List Test) (f : Fault) : Type 0 where
  test : Test
  among : Mem test ts
  rule : test.rule ≡ f.rule
  slot : test.slot ≡ f.slot
  broken : test.holds ≡ false

first_found : (ts : List Test) → (All (λ t. t.holds ≡ true) ts → ⊥) → Found ts (first_broken ts)
first_found [] n = absurd (n tt)
first_found (t ∷ ts) n =
    by_bool (λ b. t.holds ≡ b → Found (t ∷ ts) (cond b (first_broken ts) (place t))) t.holds
    (λ e h. let r = first_found ts (λ a. n (h, a)) in record { test = r.test; among = Memᴰ.tail r.among; rule = r.rule; slot = r.slot; broken = r.broken })
    (λ e h. record { test = t; among = Memᴰ.head refl; rule = refl; slot = refl; broken = h })
    refl

-- ---- the tests of a table, of n slots, stand in order

-- the tests of one rule, in order, before those of higher rules
record Rule (r : ℕ) (ts : List Test) : Type 0 where
  order : InOrder ts
  same : All (λ t. t.rule ≡ r) ts

record From (r : ℕ) (ts : List Test) : Type 0 where
  order : InOrder ts
  least : All (λ t. r ≤ t.rule) ts

before_all : (r : ℕ) (t : Test) → t.rule ≡ r → (us : List Test) → All (λ u. suc r ≤ u.rule) us → All (λ u. StandsBefore t (place u)) us
before_all r t e us h = all_then (λ u. suc r ≤ u.rule) (λ u. StandsBefore t (place u)) (λ u k. inl (omega arith)) us h

put_before : (r : ℕ) (ts us : List Test) → Rule r ts → From (suc r) us → From r (ts ++ us)
put_before r ts us a b = record {
  order = order_append ts us a.order b.order (all_then (λ t. t.rule ≡ r) (λ t. All (λ u. StandsBefore t (place u)) us) (λ t e. before_all r t e us b.least) ts a.same);
  least = all_append (λ t. r ≤ t.rule) ts us (all_then (λ t. t.rule ≡ r) (λ t. r ≤ t.rule) (λ t e. omega (arith, e)) ts a.same) (all_then (λ t. suc r ≤ t.rule) (λ t. r ≤ t.rule) (λ t h. omega arith) us b.least);
}

module _ (rule : ℕ) (P : ℕ → Bool) where
  -- a slot stands before those from a on
  slot_before : (s a n : ℕ) → s < a → All (λ u. StandsBefore (record { rule = rule; slot = pos s; holds = P s }) (place u)) (at_slots rule P (up_from a n))
  slot_before s a zero h = tt
  slot_before s a (suc n) h = (inr (refl, lt-ltb s a h), slot_before s (suc a) n (omega arith))

  slots_order : (a n : ℕ) → InOrder (at_slots rule P (up_from a n))
  slots_order a zero = tt
  slots_order a (suc n) = (slot_before a (suc a) n (omega arith), slots_order (suc a) n)

  slots_same : (a n : ℕ) → All (λ t. t.rule ≡ rule) (at_slots rule P (up_from a n))
  slots_same a zero = tt
  slots_same a (suc n) = (refl, slots_same (suc a) n)

  slots_rule : (n : ℕ) → Rule rule (at_slots rule P (up_from 0 n))
  slots_rule n = record { order = slots_order 0 n; same = slots_same 0 n }

  -- and so do the two header words
  header_before : (b : Bool) (a n : ℕ) → All (λ u. StandsBefore (record { rule = rule; slot = negsuc 0; holds = b }) (place u)) (at_slots rule P (up_from a n))
  header_before b a zero = tt
  header_before b a (suc n) = (inr (refl, refl), header_before b (suc a) n)

header_rule : (rule : ℕ) (b : Bool) → Rule rule (at_header rule b)
header_rule rule b = record { order = (tt, tt); same = (refl, tt) }

none_from : (r : ℕ) → From r []
none_from r = record { order = tt; least = tt }

module _ (ws : Words) (n : ℕ) where
  -- rule 7: its header, then its slots
  seventh : From 7 (at_header 7 (rule7_header ws) ++ (at_slots 7 (rule7 ws) (up_from 0 n) ++ []))
  seventh =
      let slots7 : From 7 (at_slots 7 (rule7 ws) (up_from 0 n) ++ []) = put_before 7 (at_slots 7 (rule7 ws) (up_from 0 n)) [] (slots_rule 7 (rule7 ws) n) (none_from 8) in
      record {
        order = (all_append (λ u. StandsBefore (record { rule = 7; slot = negsuc 0; holds = rule7_header ws }) (place u)) (at_slots 7 (rule7 ws) (up_from 0 n)) [] (header_before 7 (rule7 ws) (rule7_header ws) 0 n) tt, slots7.order);
        least = (omega arith, slots7.least);
      }

  all_rules : From 1 (join (λ ts. ts) (rule_by_rule ws (up_from 0 n)))
  all_rules =
      put_before 1 _ _ (slots_rule 1 (rule1 ws) n)
      (put_before 2 _ _ (header_rule 2 (rule2 ws))
      (put_before 3 _ _ (slots_rule 3 (rule3 ws) n)
      (put_before 4 _ _ (slots_rule 4 (rule4 ws) n)
      (put_before 5 _ _ (slots_rule 5 (rule5 ws) n) (put_before 6 _ _ (slots_rule 6 (rule6 ws) n) seventh)))))

  -- the rule of the first that is broken is 1 at least
  rule_least : (ts : List Test) {f : Fault} → All (λ t. 1 ≤ t.rule) ts → Found ts f → 1 ≤ f.rule
  rule_least ts a f = subst (λ (r : ℕ). 1 ≤ r) f.rule (mem_all (λ t. 1 ≤ t.rule) ts a f.among)

-- ---- all tests hold exactly if the table is well formed

slots_every : (rule : ℕ) (P : ℕ → Bool) (a n : ℕ) → All (λ t. t.holds ≡ true) (at_slots rule P (up_from a n)) → All (λ s. P s ≡ true) (up_from a n)
slots_every rule P a zero h = tt
slots_every rule P a (suc n) h = (h.0, slots_every rule P (suc a) n h.1)

every_slots : (rule : ℕ) (P : ℕ → Bool) (a n : ℕ) → All (λ s. P s ≡ true) (up_from a n) → All (λ t. t.holds ≡ true) (at_slots rule P (up_from a n))
every_slots rule P a zero h = tt
every_slots rule P a (suc n) h = (h.0, every_slots rule P (suc a) n h.1)

all_joined : (Q : Test → Type 0) (rs : List (List Test)) → All (λ ts. All Q ts) rs → All Q (join (λ ts. ts) rs)
all_joined Q [] h = tt
all_joined Q (r ∷ rs) h = all_append Q r (join (λ ts. ts) rs) h.0 (all_joined Q rs h.1)

module _ (ws : Words) where
  every_slot : (rule : ℕ) (P : ℕ → Bool) → All (λ t. t.holds ≡ true) (at_slots rule P slots) → every P slots ≡ true
  every_slot rule P h = all_every P slots (slots_every rule P 0 SLOTS h)

  holds_formed : All (λ ts. All (λ t. t.holds ≡ true) ts) (rule_by_rule ws slots) → well_formed ws ≡ true
  unfolding well_formed
  holds_formed h =
      rw (every_slot 1 (rule1 ws) h.0, h.1.0.0, every_slot 3 (rule3 ws) h.1.1.0, every_slot 4 (rule4 ws) h.1.1.1.0, every_slot 5 (rule5 ws) h.1.1.1.1.0, every_slot 6 (rule6 ws) h.1.1.1.1.1.0, h.1.1.1.1.1.1.0.0, every_slot 7 (rule7 ws) h.1.1.1.1.1.1.1.0) refl

  tests_formed : All (λ t. t.holds ≡ true) (tests ws) → well_formed ws ≡ true
  unfolding tests
  tests_formed h = holds_formed (all_parts (λ t. t.holds ≡ true) (λ ts. ts) (rule_by_rule ws slots) h)

  hold_slots : (rule : ℕ) (P : ℕ → Bool) → every P slots ≡ true → All (λ t. t.holds ≡ true) (at_slots rule P slots)
  hold_slots rule P e = every_slots rule P 0 SLOTS (every_all P slots e)

  hold_rules : well_formed ws ≡ true → All (λ ts. All (λ t. t.holds ≡ true) ts) (rule_by_rule ws slots)
  unfolding well_formed
  hold_rules e =
      let e2 = and_right (every (rule1 ws) slots) _ e in
      let e3 = and_right (rule2 ws) _ e2 in
      let e4 = and_right (every (rule3 ws) slots) _ e3 in
      let e5 = and_right (every (rule4 ws) slots) _ e4 in
      let e6 = and_right (every (rule5 ws) slots) _ e5 in
      let e7 = and_right (every (rule6 ws) slots) _ e6 in
      (hold_slots 1 (rule1 ws) (and_left _ _ e), ((and_left _ _ e2, tt), (hold_slots 3 (rule3 ws) (and_left _ _ e3), (hold_slots 4 (rule4 ws) (and_left _ _ e4), (hold_slots 5 (rule5 ws) (and_left _ _ e5), (hold_slots 6 (rule6 ws) (and_left _ _ e6), ((and_left _ _ e7, tt), (hold_slots 7 (rule7 ws) (and_right (rule7_header ws) _ e7), tt))))))))

  formed_tests : well_formed ws ≡ true → All (λ t. t.holds ≡ true) (tests ws)
  unfolding tests
  formed_tests e = all_joined (λ t. t.holds ≡ true) (rule_by_rule ws slots) (hold_rules e)

  formed_is : well_formed ws ≡ every (λ t. t.holds) (tests ws)
  formed_is =
      by_bool (λ b. well_formed ws ≡ b → b ≡ every (λ t. t.holds) (tests ws)) (well_formed ws)
      (λ _ e. sym (all_every (λ t. t.holds) (tests ws) (formed_tests e)))
      (λ _ e. by_bool (λ b. every (λ t. t.holds) (tests ws) ≡ b → false ≡ b) (every (λ t. t.holds) (tests ws)) (λ _ t. sym e ∙ tests_formed (every_all (λ t. t.holds) (tests ws) t)) (λ _ t. refl) refl)
      refl

  -- 2 is given for what is not well formed, with its fault
  two : (a b : Bool) (r : ℕ) (z : ℤ) {g : Given} → g ≡ cond (not a) (Err WrongLength) (cond (not b) (Err (NotWellFormed r z)) Done) → number_given g ≡ 2 → (b ≡ false) × (g ≡ Err (NotWellFormed r z))
  two true false r z e d = (refl, e)
  two true true r z e d = let k : ◌≡◌ {A = ℕ} 0 2 = ap number_given (sym e) ∙ d in absurd (omega arith)
  two false b r z e d = let k : ◌≡◌ {A = ℕ} 1 2 = ap number_given (sym e) ∙ d in absurd (omega arith)

  given_two : number_given (check_gives ws) ≡ 2 → (well_formed ws ≡ false) × (check_gives ws ≡ Err (NotWellFormed (fault_of ws).rule (fault_of ws).slot))
  unfolding check_gives
  given_two d = two (eqb (length ws) LENGTH) (well_formed ws) (fault_of ws).rule (fault_of ws).slot refl d

  found_in_lem : well_formed ws ≡ false → Found (tests ws) (fault_of ws)
  unfolding fault_of
  found_in_lem f = first_found (tests ws) (λ a. false≢true (sym f ∙ tests_formed a))

  before_in : All (λ t. StandsBefore t (fault_of ws) → t.holds ≡ true) (tests ws)
  unfolding fault_of tests
  before_in = first_before (join (λ ts. ts) (rule_by_rule ws (up_from 0 SLOTS))) (all_rules ws SLOTS).order

  least_in : well_formed ws ≡ false → 1 ≤ (fault_of ws).rule
  unfolding tests
  least_in f = rule_least ws SLOTS (join (λ ts. ts) (rule_by_rule ws (up_from 0 SLOTS))) (all_rules ws SLOTS).least (found_in_lem f)

-- ---- the theorem

none_given : (g : Given) → (number_given g ≡ 2 → ⊥) → fault_given g ≡ record { rule = 0; slot = pos 0 }
none_given (Ok u) n = refl
none_given (Err (NotWellFormed r z)) n = absurd (n refl)
none_given (Err WrongLength) n = refl
none_given (Err NoSuchNumber) n = refl
none_given (Err OffGrid) n = refl
none_given (Err NoSuchK) n = refl
none_given (Err AlreadyEnrolled) n = refl
none_given (Err Full) n = refl
none_given (Err NotEnrolled) n = refl
none_given (Err FewCandidates) n = refl
none_given (Err ShortList) n = refl
none_given (Err Misshapen) n = refl
none_given (Err SheetTooLong) n = refl

pub where_bad : Where
where_bad = record {
  formed = formed_is;
  bad = λ ws d.
      let g = given_two ws d in
      let f = found_in_lem ws g.0 in
      subst (BadAt ws) (sym (ap fault_given g.1))
      (record { test = f.test; asked = f.among; rule = f.rule; slot = f.slot; broken = f.broken; before = before_in ws });
  some = λ ws d. let g = given_two ws d in subst (λ (h : Given). 1 ≤ (fault_given h).rule) (sym g.1) (least_in ws g.0);
  none = none_given;
}
