-- What is known of a test that is asked of one thing after the other: of the numbers below n, where the lowest that fails is looked for, and of the elements of a list, by std's `all`. Assumes nothing.
use Prim.Native.Nat.{ℕ, ◌≤◌, ◌<◌}
use native.Mathlib.Omega.{arith}
use mathlib.Core.Path.{◌≡◌, refl, ap, sym, ◌∙◌}
use mathlib.Core.Bool.{Bool, true, false, cond, ◌&&◌, false≢true}
use mathlib.Core.List.{List, [], ◌∷◌}
use Rattle.std.specs.Prelude.{Option, None, Some, MatchOption, IfSome}
use Rattle.std.specs.List.{list_all}
use lib.ListN.{length, get_or}
use native.Mathlib.Decide.{dec_lt}
use lib.Dec.{ltb}
use borrow.Author.Tests.{lt-ltb, le-ltb}
use Rattle.order.specs.Lists.{every}
use Rattle.order.specs.Order.{up_from}
use Rattle.audit.specs.Asked.{LowestAt, LowestNo, Lowest}
use Rattle.order.proofs.Lists.{all_at}
use Rattle.rules.proofs.Tests.{by_test, every_all}
use Rattle.rules.proofs.Broken.{FirstAt}
use Rattle.rules.proofs.Counted.{every_below}

-- what a call answers is a test: the branch `if !answer` says which way the test went
pub failed : {r b : Bool} → r ≡ b → r ≡ false → b ≡ false
failed e h = sym e ∙ h

pub passed : {r b : Bool} → r ≡ b → r ≡ true → b ≡ true
passed e h = sym e ∙ h

never_true : {a : Bool} → (a ≡ true → ⊥) → a ≡ false
never_true {a} n = by_test a (λ e. absurd (n e)) (λ e. e)

-- ---- the numbers below n

one_fails : (P : ℕ → Bool) (n i : ℕ) → i < n → P i ≡ false → every P (up_from 0 n) ≡ false
one_fails P n i h f = never_true (λ e. false≢true (sym f ∙ every_below P n e i h))

-- what answers as a rule does answers no where the rule is broken
module _ {answers : ℕ → Bool → Type 0} (P : ℕ → Bool) {n : ℕ} (same : (k : ℕ) (b : Bool) → k < n → answers k b → b ≡ P k) where
  lowest_cases : (r : Option ℕ) → MatchOption r ((k : ℕ) → k < n → answers k true) (LowestAt answers n) → Lowest P n r
  lowest_cases None l = record { cases = λ k h. sym (same k true h (l k h)) }
  lowest_cases (Some r) l =
      record {
        cases = record {
          within = l.within;
          below = λ k h. let u : k < n = omega (arith, l.within) in sym (same k true u (l.below k h));
          broken = sym (same r false l.within l.broken);
        };
      }

  pub lowest_of : {r : Option ℕ} → LowestNo answers n r → Lowest P n r
  lowest_of {r = r} l = lowest_cases r l.cases

-- the first i of n have passed
pub record Tested (P : ℕ → Bool) (n i : ℕ) : Type 0 where
  pub within : i ≤ n
  pub each : (k : ℕ) → k < i → P k ≡ true

-- the one of the first n at which a search stood still; none if it has come to n
abbrev pub stopped_at : (n i : ℕ) → Option ℕ
stopped_at n i = cond (ltb i n) (Some i) None

-- a search that passes all up to one that fails has found the lowest. Nothing cites it since the loop hands out an Option; it stands because docs/ named it (docs/LOOK-BACK.md)
pub found_lowest : {P : ℕ → Bool} {n i : ℕ} → Tested P n i → P i ≡ false → Lowest P n (stopped_at n i)
found_lowest {P} {n} {i} t f = go (dec_lt i n)
  where
    go : Dec (i < n) → Lowest P n (stopped_at n i)
    go (yes h) = rw (lt-ltb i n h) (record { cases = record { within = h; below = t.each; broken = f } })
    go (no h) = rw (le-ltb i n (omega arith)) (record { cases = λ k u. t.each k (omega (arith, t.within)) })

-- where one is given, it is one of them
inside_cases : (answers : ℕ → Bool → Type 0) (n : ℕ) (r : Option ℕ) → MatchOption r ((k : ℕ) → k < n → answers k true) (LowestAt answers n) → IfSome r (λ s. s < n)
inside_cases answers n None l = tt
inside_cases answers n (Some s) l = l.within

pub lowest_inside : {answers : ℕ → Bool → Type 0} {n : ℕ} {r : Option ℕ} → LowestNo answers n r → IfSome r (λ s. s < n)
lowest_inside {answers} {n} {r} l = inside_cases answers n r l.cases

-- what it says of a rule that is broken at a slot
pub lowest_first : {P : ℕ → Bool} {n r : ℕ} → LowestAt (λ k b. P k ≡ b) n r → FirstAt n P r
lowest_first l = record { inside = l.within; below = l.below; broken = l.broken }

pub lowest_fails : {P : ℕ → Bool} {n r : ℕ} → LowestAt (λ k b. P k ≡ b) n r → every P (up_from 0 n) ≡ false
lowest_fails {P} {n} {r} l = one_fails P n r l.within l.broken

-- ---- the elements of a list

-- std's word for the same test
pub std_all : {A : Type 0} (P : A → Bool) (xs : List A) → list_all P xs ≡ every P xs
std_all P [] = refl
std_all P (x ∷ xs) = ap (λ b. P x && b) (std_all P xs)

-- one that fails
pub element_fails : {A : Type 0} (P : A → Bool) (xs : List A) (d : A) (i : ℕ) → i < length xs → P (get_or xs i d) ≡ false → every P xs ≡ false
element_fails P xs d i h f = never_true (λ e. false≢true (sym f ∙ all_at (λ x. P x ≡ true) xs i d h (every_all P xs e)))
