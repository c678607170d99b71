-- The laws of a word, its steps and its natural number: each reading is undone by its writing, and none takes two words for one. Assumes nothing.
use mathlib.Core.Path.{◌≡◌, refl, sym, ap, ◌∙◌}
use mathlib.Core.Bool.{true, and-true}
use Prim.Native.Nat.{ℕ, suc, ◌+◌, ◌-◌, ◌≤◌, ◌<◌, ◌^◌}
use native.Mathlib.Decide.{dec_le, dec_lt}
use native.Mathlib.Omega.{arith}
use borrow.Author.Tests.{lt-ltb, le-ltb, le-leb, lt-leb, leb-true}
use lib.Dec.{leb}
use lib.IntN.{ℤ, pos, negsuc}
use mir.Syntax.{w32}
use mir.Val.{SFits}
use Rattle.axis.specs.Axis.{OnGrid, step_on_grid}
use Rattle.words.specs.Word.{IsWord, on_grid, steps_of, word_of, nat_of}

-- ---- a word is what 32 signed bits hold

pub word_fits : (z : ℤ) → IsWord z → SFits w32 z
word_fits (pos n) h = record { sfits = h }
word_fits (negsuc n) h = record { sfits = h }

pub fits_word : (z : ℤ) → SFits w32 z → IsWord z
fits_word (pos n) f = f.sfits
fits_word (negsuc n) f = f.sfits

-- ---- steps

pub steps_below : (z : ℤ) → IsWord z → steps_of z < 2 ^ 32
steps_below (pos n) h = omega arith
steps_below (negsuc n) h = omega arith

-- the word left of the false origin, and the word right of it
pub word_left : (s : ℕ) → s < 2147483648 → word_of s ≡ negsuc (2147483647 - s)
unfolding word_of
word_left s h =
    let e : 2147483648 - suc s ≡ 2147483647 - s = omega arith in
    simp (lt-ltb s 2147483648 h, e)

pub word_right : (s : ℕ) → 2147483648 ≤ s → word_of s ≡ pos (s - 2147483648)
unfolding word_of
word_right s h = simp (le-ltb s 2147483648 h)

pub word_steps : (z : ℤ) → IsWord z → word_of (steps_of z) ≡ z
word_steps (pos n) h =
    let e : 2147483648 + n - 2147483648 ≡ n = omega arith in
    rw (word_right (2147483648 + n) (omega arith)) (ap pos e)
word_steps (negsuc n) h =
    let e : 2147483647 - (2147483647 - n) ≡ n = omega arith in
    rw (word_left (2147483647 - n) (omega arith)) (ap negsuc e)

both : (s : ℕ) → s < 2 ^ 32 → IsWord (word_of s) × (steps_of (word_of s) ≡ s)
both s h = go (dec_lt s 2147483648)
  where
    go : Dec (s < 2147483648) → IsWord (word_of s) × (steps_of (word_of s) ≡ s)
    go (yes l) = rw (word_left s l) (omega arith)
    go (no g) =
        let l : 2147483648 ≤ s = omega arith in
        rw (word_right s l) (omega arith)

pub word_is : (s : ℕ) → s < 2 ^ 32 → IsWord (word_of s)
word_is s h = (both s h).0

pub steps_word : (s : ℕ) → s < 2 ^ 32 → steps_of (word_of s) ≡ s
steps_word s h = (both s h).1

pub steps_injective : (y z : ℤ) → IsWord y → IsWord z → steps_of y ≡ steps_of z → y ≡ z
steps_injective y z f g e = sym (word_steps y f) ∙ ap word_of e ∙ word_steps z g

-- ---- the grid

-- two tests that agree
same_leb : (a b m n : ℕ) → (a ≤ b → m ≤ n) → (m ≤ n → a ≤ b) → leb a b ≡ leb m n
same_leb a b m n f g = go (dec_le a b)
  where
    go : Dec (a ≤ b) → leb a b ≡ leb m n
    go (yes h) = le-leb a b h ∙ sym (le-leb m n (f h))
    go (no h) = lt-leb a b (omega arith) ∙ sym (lt-leb m n (elim (dec_le m n) [ yes l ↦ absurd (h (g l)) | no l ↦ omega arith ]))

-- the steps pass the test exactly if the word does
pub steps_test : (z : ℤ) → step_on_grid (steps_of z) ≡ on_grid z
steps_test (pos n) =
    rw (le-leb 2146483648 (2147483648 + n) (omega arith))
    (same_leb (2147483648 + n) 2148483648 n 1000000 (λ l. omega arith) (λ l. omega arith))
steps_test (negsuc n) =
    rw (le-leb (2147483647 - n) 2148483648 (omega arith), and-true)
    (same_leb 2146483648 (2147483647 - n) (suc n) 1000000 (λ l. omega arith) (λ l. omega arith))

pub grid_steps : (z : ℤ) → on_grid z ≡ true → OnGrid (steps_of z)
grid_steps (pos n) e =
    let l : n ≤ 1000000 = leb-true n 1000000 e in
    record { low = omega arith; high = omega arith }
grid_steps (negsuc n) e =
    let l : suc n ≤ 1000000 = leb-true (suc n) 1000000 e in
    record { low = omega arith; high = omega arith }

pub steps_grid : (z : ℤ) → OnGrid (steps_of z) → on_grid z ≡ true
steps_grid (pos n) g = le-leb n 1000000 (omega arith)
steps_grid (negsuc n) g = le-leb (suc n) 1000000 (omega arith)

pub grid_word : (z : ℤ) → on_grid z ≡ true → IsWord z
grid_word (pos n) e =
    let l : n ≤ 1000000 = leb-true n 1000000 e in
    omega arith
grid_word (negsuc n) e =
    let l : suc n ≤ 1000000 = leb-true (suc n) 1000000 e in
    omega arith

-- ---- natural numbers

pub natural_below : (z : ℤ) → IsWord z → nat_of z < 2 ^ 32
natural_below (pos n) h = omega arith
natural_below (negsuc n) h = omega arith

pub natural_pos : (n : ℕ) → nat_of (pos n) ≡ n
natural_pos n = refl

-- what reads as less than 2³¹ is no negative word
pub natural_word : (z : ℤ) → IsWord z → nat_of z < 2 ^ 31 → z ≡ pos (nat_of z)
natural_word (pos n) h l = refl
natural_word (negsuc n) h l = absurd (omega arith)

pub natural_injective : (y z : ℤ) → IsWord y → IsWord z → nat_of y ≡ nat_of z → y ≡ z
natural_injective (pos m) (pos n) f g e = ap pos e
natural_injective (pos m) (negsuc n) f g e = absurd (omega arith)
natural_injective (negsuc m) (pos n) f g e = absurd (omega arith)
natural_injective (negsuc m) (negsuc n) f g e = ap negsuc (omega arith)

-- the word −1, by which the table says "none"
pub natural_none : (z : ℤ) → IsWord z → nat_of z ≡ 4294967295 → z ≡ negsuc 0
natural_none z h e = natural_injective z (negsuc 0) h (omega arith) e
