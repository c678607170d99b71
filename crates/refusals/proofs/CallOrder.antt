-- The lines of an enrolment and of a withdrawal in their order: what the check refuses is refused, and on a table that passes it the first line that holds is given. By the tests of the lines. Assumes nothing.
use Prim.Native.Nat.{ℕ}
use native.Mathlib.Omega.{arith}
use mathlib.Core.Path.{◌≡◌, refl, sym, ap, ◌∙◌}
use mathlib.Core.Bool.{Bool, true, false, cond, not}
use lib.Dec.{eqb}
use lib.IntN.{ℤ}
use lib.ListN.{length}
use mir.Syntax.{w32}
use mir.Val.{SFits}
use borrow.Author.Tests.{eq-eqb, eqb-true}
use Rattle.std.specs.Prelude.{Err}
use Rattle.grid.specs.declared.site.Site.{Site}
use Rattle.table.specs.declared.given.Refusal.TheVariants.{WrongLength, NotWellFormed, NoSuchNumber, OffGrid, AlreadyEnrolled, Full, NotEnrolled}
use Rattle.figures.specs.Figures.{LENGTH}
use Rattle.table.specs.Words.{Words}
use Rattle.limits.specs.Limits.{no_such_number, off_grid}
use Rattle.limits.proofs.CallTests.{back, one_passed}
use Rattle.rules.specs.Rules.{well_formed}
use Rattle.table.specs.Given.{Given, Done, number_given}
use Rattle.rules.specs.Broken.{fault_of}
use Rattle.audit.specs.Check.{wrong_length, malformed, check_gives, bad_at}
use Rattle.refusals.specs.Refusals.{is_enrolled, is_full, enrol_gives, withdraw_gives}

-- a test of a word, which a callee that was passed it tells of the word read back
pub said : (test : ℤ → Bool) (x : ℤ) {b : Bool} → SFits w32 x → b ≡ test (back x) → test x ≡ b
said test x fits e = sym (one_passed test x fits e)

-- ---- a table that does not pass

-- of two lines: what they refuse is refused, whatever stands behind them
module _ (x y : Given) where
  pub by_two : (a b : Bool) {g : Given} → g ≡ cond a x (cond b y Done) → (g ≡ Done → ⊥) → (h : Given) → cond a x (cond b y h) ≡ g
  by_two true b e n h = sym e
  by_two false true e n h = sym e
  by_two false false e n h = absurd (n e)

  -- and is none of another number
  pub not_of_two : (m : ℕ) → (number_given x ≡ m → ⊥) → (number_given y ≡ m → ⊥) → (0 ≡ m → ⊥) → (a b : Bool) {g : Given} → g ≡ cond a x (cond b y Done) → number_given g ≡ m → ⊥
  not_of_two m p q r true b e f = p (ap number_given (sym e) ∙ f)
  not_of_two m p q r false true e f = q (ap number_given (sym e) ∙ f)
  not_of_two m p q r false false e f = r (ap number_given (sym e) ∙ f)

two_pass : (a b : Bool) (rule : ℕ) (slot : ℤ) {g : Given} → g ≡ cond (not a) (Err WrongLength) (cond (not b) (Err (NotWellFormed rule slot)) Done) → g ≡ Done
    → (a ≡ true) × (b ≡ true)
two_pass true true rule slot e d = (refl, refl)
two_pass false b rule slot e d = let z : ◌≡◌ {A = ℕ} 1 0 = ap number_given (sym e ∙ d) in absurd (omega arith)
two_pass true false rule slot e d = let z : ◌≡◌ {A = ℕ} 2 0 = ap number_given (sym e ∙ d) in absurd (omega arith)

module _ (ws : Words) {g : Given} (e : g ≡ check_gives ws) where
  pub enrol_first : (n : ℤ) (p : Site) → (g ≡ Done → ⊥) → g ≡ enrol_gives ws n p
  unfolding check_gives enrol_gives
  enrol_first n p d = sym (by_two (Err WrongLength) (Err (bad_at ws)) (wrong_length ws) (malformed ws) e d _)

  pub withdraw_first : (n : ℤ) → (g ≡ Done → ⊥) → g ≡ withdraw_gives ws n
  unfolding check_gives withdraw_gives
  withdraw_first n d = sym (by_two (Err WrongLength) (Err (bad_at ws)) (wrong_length ws) (malformed ws) e d _)

  pub passes : g ≡ Done → (length ws ≡ LENGTH) × (well_formed ws ≡ true)
  unfolding check_gives
  passes d =
      let t = two_pass (eqb (length ws) LENGTH) (well_formed ws) (fault_of ws).rule (fault_of ws).slot e d in
      (eqb-true (length ws) LENGTH t.0, t.1)

-- ---- the order

module _ (ws : Words) (long : length ws ≡ LENGTH) (rules : well_formed ws ≡ true) where
  module _ (n : ℤ) (p : Site) where
    pub enrol_3 : no_such_number n ≡ true → enrol_gives ws n p ≡ Err NoSuchNumber
    unfolding enrol_gives
    enrol_3 a = rw (eq-eqb (length ws) LENGTH long, rules, a)

    pub enrol_4 : no_such_number n ≡ false → off_grid p ≡ true → enrol_gives ws n p ≡ Err OffGrid
    unfolding enrol_gives
    enrol_4 a b = rw (eq-eqb (length ws) LENGTH long, rules, a, b)

    pub enrol_6 : no_such_number n ≡ false → off_grid p ≡ false → is_enrolled ws n ≡ true → enrol_gives ws n p ≡ Err AlreadyEnrolled
    unfolding enrol_gives
    enrol_6 a b d = rw (eq-eqb (length ws) LENGTH long, rules, a, b, d)

    pub enrol_7 : no_such_number n ≡ false → off_grid p ≡ false → is_enrolled ws n ≡ false → is_full ws ≡ true → enrol_gives ws n p ≡ Err Full
    unfolding enrol_gives
    enrol_7 a b d e = rw (eq-eqb (length ws) LENGTH long, rules, a, b, d, e)

    pub enrol_0 : no_such_number n ≡ false → off_grid p ≡ false → is_enrolled ws n ≡ false → is_full ws ≡ false → enrol_gives ws n p ≡ Done
    unfolding enrol_gives
    enrol_0 a b d e = rw (eq-eqb (length ws) LENGTH long, rules, a, b, d, e)

  module _ (n : ℤ) where
    pub withdraw_3 : no_such_number n ≡ true → withdraw_gives ws n ≡ Err NoSuchNumber
    unfolding withdraw_gives
    withdraw_3 a = rw (eq-eqb (length ws) LENGTH long, rules, a)

    pub withdraw_8 : no_such_number n ≡ false → is_enrolled ws n ≡ false → withdraw_gives ws n ≡ Err NotEnrolled
    unfolding withdraw_gives
    withdraw_8 a b = rw (eq-eqb (length ws) LENGTH long, rules, a, b)

    pub withdraw_0 : no_such_number n ≡ false → is_enrolled ws n ≡ true → withdraw_gives ws n ≡ Done
    unfolding withdraw_gives
    withdraw_0 a b = rw (eq-eqb (length ws) LENGTH long, rules, a, b)
