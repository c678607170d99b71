-- What a call tests, one thing after the other: a word that it passes on, a number in or out of a range. By the order of numbers. Assumes nothing.
use Prim.Native.Nat.{ℕ, ◌≤◌, ◌<◌}
use native.Mathlib.Omega.{arith}
use native.Mathlib.Decide.{dec_le}
use mathlib.Core.Path.{◌≡◌, subst}
use mathlib.Core.Bool.{true, not}
use lib.Dec.{leb, ltb}
use lib.IntN.{ℤ}
use mir.Syntax.{w32}
use mir.Val.{SFits, to_z, of_z}
use mir.ValLaws.{to_z-of_z}
use borrow.Author.Tests.{lt-leb, le-leb, lt-ltb, le-ltb}
use Rattle.table.specs.Words.{between}

-- ---- what a callee that was passed words says of them

-- a word, through its bits and back
abbrev pub back : ℤ → ℤ
back z = to_z w32 (of_z w32 z)

pub one_back : (P : ℤ → Type 0) (x : ℤ) → SFits w32 x → P (back x) → P x
one_back P x a h = subst P (to_z-of_z w32 x a) h

pub two_back : (P : ℤ → ℤ → Type 0) (x y : ℤ) → SFits w32 x → SFits w32 y → P (back x) (back y) → P x y
two_back P x y a b h = one_back (P x) y b (one_back (λ v. P v (back y)) x a h)

pub three_back : (P : ℤ → ℤ → ℤ → Type 0) (x y z : ℤ) → SFits w32 x → SFits w32 y → SFits w32 z → P (back x) (back y) (back z) → P x y z
three_back P x y z a b d h = two_back (P x) y z b d (one_back (λ v. P v (back y) (back z)) x a h)

-- so a result that is said by them
module _ {A : Type 0} where
  pub one_passed : (f : ℤ → A) (x : ℤ) {r : A} → SFits w32 x → r ≡ f (back x) → r ≡ f x
  one_passed f x {r} a e = one_back (λ u. r ≡ f u) x a e

  pub two_passed : (f : ℤ → ℤ → A) (x y : ℤ) {r : A} → SFits w32 x → SFits w32 y → r ≡ f (back x) (back y) → r ≡ f x y
  two_passed f x y {r} a b e = two_back (λ u v. r ≡ f u v) x y a b e

  pub three_passed : (f : ℤ → ℤ → ℤ → A) (x y z : ℤ) {r : A} → SFits w32 x → SFits w32 y → SFits w32 z → r ≡ f (back x) (back y) (back z) → r ≡ f x y z
  three_passed f x y z {r} a b d e = three_back (λ u v w. r ≡ f u v w) x y z a b d e

-- ---- a number outside a range

module _ (a b : ℕ) {r n : ℕ} (e : r ≡ n) where
  pub below_range : r < a → true ≡ not (between a b n)
  below_range h = rw (lt-leb a n (omega arith))

  pub beyond_range : a ≤ r → ltb b r ≡ not (between a b n)
  beyond_range h = rw (e, le-leb a n (omega arith)) (past (dec_le n b))
    where
      past : Dec (n ≤ b) → ltb b n ≡ not (leb n b)
      past (yes k) = rw (le-ltb b n k, le-leb n b k)
      past (no k) = rw (lt-ltb b n (omega arith), lt-leb n b (omega arith))
