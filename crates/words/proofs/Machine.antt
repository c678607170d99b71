-- What the machine reads back of the word at so many steps, and of what a callee says of a word. The number that the code has for the false origin is `suc k`. Assumes nothing.
use mathlib.Core.Path.{◌≡◌, ap, ◌∙◌}
use Prim.Native.Nat.{ℕ, suc, ◌+◌, ◌≤◌, ◌<◌, ◌^◌}
use native.Mathlib.Decide.{dec_lt}
use native.Mathlib.Omega.{arith}
use borrow.Author.Tests.{lt-ltb, le-ltb}
use lib.IntN.{ℤ, negsuc, sub_ℕ, ◌+ℤ◌}
use lib.Signed.{mag}
use mir.Syntax.{w32, w64}
use mir.Val.{SFits, to_z, of_z}
use mir.ValLaws.{to_z-of_z, to_z_pos}
use Rattle.words.specs.Word.{steps_of, word_of, nat_of}
use Rattle.words.proofs.Words.{word_fits, word_is}

mag_sub : (a b : ℕ) → mag (sub_ℕ a b) ≤ a + b
mag_sub a b = go (dec_lt a b)
  where
    go : Dec (a < b) → mag (sub_ℕ a b) ≤ a + b
    go (yes l) = rw (lt-ltb a b l) (omega arith)
    go (no g) =
        let l : b ≤ a = omega arith in
        rw (le-ltb a b l) (omega arith)

-- what a callee that was passed the word z says of its steps
pub steps_passed : (z : ℤ) {r : ℕ} → SFits w32 z → r ≡ steps_of (to_z w32 (of_z w32 z)) → r ≡ steps_of z
steps_passed z f e = e ∙ ap steps_of (to_z-of_z w32 z f)

-- and of its natural number
pub natural_passed : (z : ℤ) {r : ℕ} → SFits w32 z → r ≡ nat_of (to_z w32 (of_z w32 z)) → r ≡ nat_of z
natural_passed z f e = e ∙ ap nat_of (to_z-of_z w32 z f)

-- the word at so many steps, as a callee gave it back
pub word_given : (s : ℕ) {z : ℤ} → s < 2 ^ 32 → z ≡ word_of s → to_z w32 (of_z w32 z) ≡ word_of s
word_given s l e = ap (λ (z : ℤ). to_z w32 (of_z w32 z)) e ∙ to_z-of_z w32 (word_of s) (word_fits (word_of s) (word_is s l))

-- ---- from steps to their word

-- the steps as an `i64`, and their difference from suc k
abbrev diff_of : ℕ → ℕ → ℤ
diff_of s k = to_z w64 (of_z w64 (to_z w64 s +ℤ negsuc k))

steps_back : (s k : ℕ) → s < 2 ^ 32 → to_z w64 s +ℤ negsuc k ≡ sub_ℕ s (suc k)
steps_back s k g = ap (λ (y : ℤ). y +ℤ negsuc k) (to_z_pos w64 s (omega arith))

pub diff_fits : (s k : ℕ) → s < 2 ^ 32 → k < 2 ^ 32 → SFits w64 (to_z w64 s +ℤ negsuc k)
diff_fits s k g h = rw (steps_back s k g) (record { sfits = omega (arith, mag_sub s (suc k)) })

diff_back : (s k : ℕ) → s < 2 ^ 32 → suc k ≡ 2147483648 → diff_of s k ≡ word_of s
unfolding word_of
diff_back s k g e =
    to_z-of_z w64 (to_z w64 s +ℤ negsuc k) (diff_fits s k g (omega arith))
    ∙ steps_back s k g
    ∙ ap (λ (n : ℕ). sub_ℕ s n) e

pub diff_word : (s k : ℕ) → s < 2 ^ 32 → suc k ≡ 2147483648 → SFits w32 (diff_of s k)
diff_word s k g e = rw (diff_back s k g e) (word_fits (word_of s) (word_is s g))

pub word_back : (s k : ℕ) → s < 2 ^ 32 → suc k ≡ 2147483648 → to_z w32 (of_z w32 (diff_of s k)) ≡ word_of s
word_back s k g e = to_z-of_z w32 (diff_of s k) (diff_word s k g e) ∙ diff_back s k g e
