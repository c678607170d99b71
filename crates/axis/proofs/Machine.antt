-- What the machine reads back of the difference of two coordinates on the grid, and of its square. Assumes nothing.
use mathlib.Core.Path.{◌≡◌, refl, ap, ◌∙◌}
use Prim.Native.Nat.{ℕ, zero, suc, ◌+◌, ◌-◌, ◌*◌, ◌≤◌, ◌<◌}
use native.Mathlib.Decide.{dec_lt}
use native.Mathlib.Omega.{arith}
use borrow.Author.Tests.{lt-ltb, le-ltb}
use lib.Dec.{T}
use lib.IntN.{ℤ, pos, negsuc, nat_abs, sub_ℕ, ◌-ℤ◌, ◌*ℤ◌}
use lib.Signed.{mag, non_neg}
use mir.Syntax.{w64}
use mir.Val.{Fits, SFits, to_z, of_z}
use mir.ValLaws.{to_z-of_z, to_z_pos}
use Rattle.axis.specs.Axis.{OnGrid, apart, sq}
use Rattle.axis.proofs.Axis.{apart_most, sq_most}

-- ---- two coordinates as `i64`, their difference and its square

minus_abs : (a b : ℕ) → nat_abs (pos a -ℤ pos b) ≡ apart a b
unfolding apart
minus_abs a zero = omega arith
minus_abs a (suc b) = go (dec_lt a (suc b))
  where
    go : Dec (a < suc b) → nat_abs (sub_ℕ a (suc b)) ≡ (a - suc b) + (suc b - a)
    go (yes l) = rw (lt-ltb a (suc b) l) (omega arith)
    go (no g) =
        let l : suc b ≤ a = omega arith in
        rw (le-ltb a (suc b) l) (omega arith)

mag_abs : (z : ℤ) → mag z ≤ nat_abs z
mag_abs (pos n) = omega arith
mag_abs (negsuc n) = omega arith

square_abs : (z : ℤ) → z *ℤ z ≡ pos (nat_abs z * nat_abs z)
square_abs (pos n) = refl
square_abs (negsuc n) = refl

abbrev minus_of : ℕ → ℕ → ℤ
minus_of a b = to_z w64 a -ℤ to_z w64 b

-- the square of what the machine reads back of the difference
abbrev square_of : ℕ → ℕ → ℤ
square_of a b = to_z w64 (of_z w64 (minus_of a b)) *ℤ to_z w64 (of_z w64 (minus_of a b))

module _ (a b : ℕ) (g : OnGrid a) (h : OnGrid b) where
  minus_back : nat_abs (minus_of a b) ≡ apart a b
  minus_back = rw (to_z_pos w64 a (omega arith), to_z_pos w64 b (omega arith)) (minus_abs a b)

  pub minus_fits : SFits w64 (minus_of a b)
  minus_fits = record { sfits = omega (arith, mag_abs (minus_of a b), minus_back, apart_most a b g h) }

  square_is : square_of a b ≡ pos (sq a b)
  unfolding sq
  square_is =
      ap (λ (z : ℤ). z *ℤ z) (to_z-of_z w64 (minus_of a b) minus_fits)
      ∙ square_abs (minus_of a b)
      ∙ ap (λ (n : ℕ). pos (n * n)) minus_back

  pub square_fits : SFits w64 (square_of a b)
  square_fits = rw square_is (record { sfits = omega (arith, sq_most a b g h) })

  square_back : to_z w64 (of_z w64 (square_of a b)) ≡ pos (sq a b)
  square_back = to_z-of_z w64 (square_of a b) square_fits ∙ square_is

  pub square_natural : T (non_neg (to_z w64 (of_z w64 (square_of a b)))) × Fits w64 (nat_abs (to_z w64 (of_z w64 (square_of a b))))
  square_natural = rw square_back (tt, record { fits = omega (arith, sq_most a b g h) })

  pub square_steps : nat_abs (to_z w64 (of_z w64 (square_of a b))) ≡ sq a b
  square_steps = ap nat_abs square_back
