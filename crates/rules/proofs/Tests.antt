-- Laws of tests that are put together: both hold, one of two holds, each of a list passes. By the cases of the tests, and by recursion on the list. Assumes nothing.
use Prim.Native.Nat.{ℕ, ◌≤◌}
use mathlib.Core.Path.{◌≡◌, refl, sym}
use mathlib.Core.Bool.{Bool, true, false, ◌&&◌, ◌||◌, false≢true}
use mathlib.Core.List.{List, [], ◌∷◌}
use lib.Dec.{leb}
use borrow.Author.Tests.{leb-true, le-leb}
use Rattle.order.proofs.Lists.{and_left, and_right}
use Rattle.order.specs.Lists.{every, All}
use Rattle.table.specs.Words.{between}

-- by the outcome of a test
pub by_test : (b : Bool) {P : Type 0} → (b ≡ true → P) → (b ≡ false → P) → P
by_test true y n = y refl
by_test false y n = n refl

pub both_true : {a b : Bool} → a ≡ true → b ≡ true → (a && b) ≡ true
both_true {a} {b} e f = rw (e, f)

pub between_true : (a b n : ℕ) → between a b n ≡ true → (a ≤ n) × (n ≤ b)
between_true a b n e = (leb-true a n (and_left (leb a n) (leb n b) e), leb-true n b (and_right (leb a n) (leb n b) e))

pub true_between : (a b n : ℕ) → a ≤ n → n ≤ b → between a b n ≡ true
true_between a b n h k = both_true (le-leb a n h) (le-leb n b k)

pub or_false : (a b : Bool) → (a || b) ≡ false → (a ≡ false) × (b ≡ false)
or_false true b e = absurd (false≢true (sym e))
or_false false b e = (refl, e)

-- one of two: the second where it is not the first
pub or_other : (a b : Bool) → (a || b) ≡ true → a ≡ false → b ≡ true
or_other true b e f = absurd (false≢true (sym f))
or_other false b e f = e

pub or_second : (a : Bool) {b : Bool} → b ≡ true → (a || b) ≡ true
or_second true e = refl
or_second false e = e

pub every_all : {A : Type 0} (P : A → Bool) (xs : List A) → every P xs ≡ true → All (λ x. P x ≡ true) xs
every_all P [] e = tt
every_all P (x ∷ xs) e = (and_left (P x) (every P xs) e, every_all P xs (and_right (P x) (every P xs) e))

pub all_every : {A : Type 0} (P : A → Bool) (xs : List A) → All (λ x. P x ≡ true) xs → every P xs ≡ true
all_every P [] a = refl
all_every P (x ∷ xs) a = both_true a.0 (all_every P xs a.1)
