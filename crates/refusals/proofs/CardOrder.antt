-- The lines of a card in their order: what the check refuses is refused, on a table that passes it the number and k, then whether it is enrolled, and the list decides last. By the tests of the lines. Assumes nothing.
use Prim.Native.Nat.{ℕ}
use native.Mathlib.Omega.{arith}
use mathlib.Core.Path.{◌≡◌, refl, sym, ap}
use mathlib.Core.Bool.{Bool, true, false, cond}
use lib.Dec.{ltb}
use lib.IntN.{ℤ}
use lib.ListN.{length}
use borrow.Author.Tests.{eq-eqb}
use Rattle.std.specs.Prelude.{Err}
use Rattle.words.specs.Word.{nat_of}
use Rattle.table.specs.declared.given.Refusal.TheVariants.{WrongLength, NoSuchNumber, NoSuchK, NotEnrolled, ShortList}
use Rattle.figures.specs.Figures.{LENGTH}
use Rattle.table.specs.Words.{Words}
use Rattle.table.specs.Stations.{stations}
use Rattle.table.specs.Given.{Given, Done, number_given}
use Rattle.limits.specs.Limits.{no_such_number, no_such_k}
use Rattle.rules.specs.Rules.{well_formed}
use Rattle.audit.specs.Check.{wrong_length, malformed, check_gives, bad_at}
use Rattle.card.specs.Card.{names_for}
use Rattle.refusals.specs.Refusals.{is_enrolled, card_gives}
use Rattle.refusals.specs.Carding.{card_asked}
use Rattle.refusals.proofs.CallOrder.{by_two, not_of_two}

-- both lines are passed
both_passed : (a b : Bool) → cond a (Err NoSuchNumber) (cond b (Err NoSuchK) Done) ≡ Done → (a ≡ false) × (b ≡ false)
both_passed true b e = let z : ◌≡◌ {A = ℕ} 3 0 = ap number_given e in absurd (omega arith)
both_passed false true e = let z : ◌≡◌ {A = ℕ} 5 0 = ap number_given e in absurd (omega arith)
both_passed false false e = (refl, refl)

module _ (n k : ℤ) where
  pub asked_done : card_asked n k ≡ Done → (no_such_number n ≡ false) × (no_such_k k ≡ false)
  asked_done e = both_passed (no_such_number n) (no_such_k k) e

  -- neither the number nor k is refused with 10, nor does the check give that
  pub asked_not_short : {g : Given} → g ≡ card_asked n k → g ≡ Err ShortList → ⊥
  asked_not_short e f =
      not_of_two (Err NoSuchNumber) (Err NoSuchK) 10 (λ z. omega arith) (λ z. omega arith) (λ z. omega arith) (no_such_number n) (no_such_k k) e (ap number_given f)

pub check_not_short : (ws : Words) {g : Given} → g ≡ check_gives ws → g ≡ Err ShortList → ⊥
unfolding check_gives
check_not_short ws e f =
    not_of_two (Err WrongLength) (Err (bad_at ws)) 10 (λ z. omega arith) (λ z. omega arith) (λ z. omega arith) (wrong_length ws) (malformed ws) e (ap number_given f)

module _ (ws : Words) (n k : ℤ) (places : ℕ) where
  -- what the check refuses, the card refuses
  pub card_first : {g : Given} → g ≡ check_gives ws → (g ≡ Done → ⊥) → g ≡ card_gives ws n k places
  unfolding check_gives card_gives
  card_first e d = sym (by_two (Err WrongLength) (Err (bad_at ws)) (wrong_length ws) (malformed ws) e d _)

  module _ (long : length ws ≡ LENGTH) (rules : well_formed ws ≡ true) where
    pub card_early : {g : Given} → g ≡ card_asked n k → (g ≡ Done → ⊥) → g ≡ card_gives ws n k places
    unfolding card_gives
    card_early e d = rw (eq-eqb (length ws) LENGTH long, rules) (sym (by_two (Err NoSuchNumber) (Err NoSuchK) (no_such_number n) (no_such_k k) e d _))

    pub card_8 : card_asked n k ≡ Done → is_enrolled ws n ≡ false → Err NotEnrolled ≡ card_gives ws n k places
    unfolding card_gives
    card_8 e d = let p = asked_done n k e in rw (eq-eqb (length ws) LENGTH long, rules, p.0, p.1, d)

    -- then the list decides
    pub card_last : card_asked n k ≡ Done → is_enrolled ws n ≡ true
        → card_gives ws n k places ≡ cond (ltb places (length (names_for (stations ws) (nat_of n) (nat_of k)))) (Err ShortList) Done
    unfolding card_gives
    card_last e d = let p = asked_done n k e in rw (eq-eqb (length ws) LENGTH long, rules, p.0, p.1, d)
