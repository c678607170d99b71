-- The tests of a word by its steps: the word 0, and a word that is no natural number. By the two kinds of whole numbers. Assumes nothing.
use Prim.Native.Nat.{◌≤◌, ◌<◌}
use native.Mathlib.Omega.{arith}
use native.Mathlib.Decide.{ℕ_discrete}
use mathlib.Core.Path.{◌≡◌, refl, sym, ◌∙◌}
use mathlib.Core.Bool.{true, false}
use borrow.Author.Tests.{eq-eqb, ne_eqb}
use lib.Dec.{eqb}
use lib.IntN.{ℤ, pos, negsuc}
use Rattle.words.specs.Word.{steps_of}
use Rattle.table.specs.Words.{is_zero}
use Rattle.rules.specs.Rules.{is_natural}

zero_steps : (z : ℤ) → steps_of z ≡ 2147483648 → is_zero z ≡ true
zero_steps (pos n) e = eq-eqb n 0 (omega arith)
zero_steps (negsuc n) e = absurd (omega arith)

other_steps : (z : ℤ) → (steps_of z ≡ 2147483648 → ⊥) → is_zero z ≡ false
other_steps (pos n) d = ne_eqb n 0 (λ e. d (omega arith))
other_steps (negsuc n) d = refl

pub steps_zero : (z : ℤ) → eqb (steps_of z) 2147483648 ≡ is_zero z
steps_zero z =
    elim (ℕ_discrete (steps_of z) 2147483648) [
      | yes e ↦ eq-eqb (steps_of z) 2147483648 e ∙ sym (zero_steps z e)
      | no d ↦ ne_eqb (steps_of z) 2147483648 d ∙ sym (other_steps z d)
    ]

pub right_natural : (z : ℤ) → 2147483648 ≤ steps_of z → is_natural z ≡ true
right_natural (pos n) h = refl
right_natural (negsuc n) h = absurd (omega arith)

pub left_negative : (z : ℤ) → steps_of z < 2147483648 → is_natural z ≡ false
left_negative (pos n) h = absurd (omega arith)
left_negative (negsuc n) h = refl
