-- The steps of words have the distances of the words: what the code measures in steps is what 01 says of sites. Assumes nothing.
use mathlib.Core.Path.{◌≡◌, ap}
use mathlib.Core.Bool.{true}
use Prim.Native.Nat.{ℕ, zero, suc, ◌+◌, ◌-◌, ◌*◌, ◌≤◌, ◌<◌}
use native.Mathlib.Decide.{dec_lt}
use native.Mathlib.Omega.{arith}
use borrow.Author.Tests.{lt-ltb, le-ltb}
use lib.IntN.{ℤ, pos, negsuc, nat_abs, sub_ℕ, ◌-ℤ◌}
use mir.Syntax.{w32}
use mir.Val.{SFits, to_z, of_z}
use mir.ValLaws.{to_z-of_z}
use Rattle.axis.specs.Axis.{apart, sq}
use Rattle.words.specs.Word.{IsWord, on_grid, steps_of}
use Rattle.grid.specs.Place.{PlaceOnGrid, dist²}
use Rattle.grid.specs.declared.site.Site.{Site}
use Rattle.grid.specs.Site.{square_apart, distance², place_of}
use Rattle.words.proofs.Words.{grid_steps, grid_word}
use Rattle.grid.proofs.Rects.{dist_most}

-- both coordinates are words
pub record SiteWords (s : Site) : Type 0 where
  pub x : IsWord s.x
  pub y : IsWord s.y

-- both coordinates are on the grid
pub record SiteOnGrid (s : Site) : Type 0 where
  pub x : on_grid s.x ≡ true
  pub y : on_grid s.y ≡ true

pub site_words : {s : Site} → SiteOnGrid s → SiteWords s
site_words {s} g = record { x = grid_word s.x g.x; y = grid_word s.y g.y }

pub place_grid : {s : Site} → SiteOnGrid s → PlaceOnGrid (place_of s)
place_grid {s} g = record { x = grid_steps s.x g.x; y = grid_steps s.y g.y }

abs_sub : (a b : ℕ) → nat_abs (sub_ℕ a b) ≡ (a - b) + (b - a)
abs_sub a b = go (dec_lt a b)
  where
    go : Dec (a < b) → nat_abs (sub_ℕ a b) ≡ (a - b) + (b - a)
    go (yes l) = rw (lt-ltb a b l) (omega arith)
    go (no g) =
        let l : b ≤ a = omega arith in
        rw (le-ltb a b l) (omega arith)

apart_words : (a b : ℤ) → IsWord a → IsWord b → apart (steps_of a) (steps_of b) ≡ nat_abs (a -ℤ b)
unfolding apart
apart_words (pos m) (pos zero) f g = omega arith
apart_words (pos m) (pos (suc n)) f g = omega (arith, abs_sub m (suc n))
apart_words (pos m) (negsuc n) f g = omega arith
apart_words (negsuc m) (pos zero) f g = omega (arith, abs_sub 0 (suc m))
apart_words (negsuc m) (pos (suc n)) f g = omega arith
apart_words (negsuc m) (negsuc n) f g = omega (arith, abs_sub (suc n) (suc m))

pub sq_words : (a b : ℤ) → IsWord a → IsWord b → sq (steps_of a) (steps_of b) ≡ square_apart a b
unfolding sq square_apart
sq_words a b f g = ap (λ (n : ℕ). n * n) (apart_words a b f g)

pub dist_sites : {p q : Site} → SiteWords p → SiteWords q → dist² (place_of p) (place_of q) ≡ distance² p q
unfolding dist² distance²
dist_sites {p} {q} f g = omega (arith, sq_words p.x q.x f.x g.x, sq_words p.y q.y f.y g.y)

-- 01: no square exceeds 8,000,000,000,000
pub distance_most : {p q : Site} → SiteOnGrid p → SiteOnGrid q → distance² p q ≤ 8000000000000
distance_most g h = omega (arith, dist_sites (site_words g) (site_words h), dist_most (place_grid g) (place_grid h))

-- ---- what is passed on

-- the site of two words, as a callee gets them
pub site_passed : (x y : ℤ) → SFits w32 x → SFits w32 y → ◌≡◌ {A = Site} (record { x = to_z w32 (of_z w32 x); y = to_z w32 (of_z w32 y) }) (record { x = x; y = y })
site_passed x y f g = λ i. record { x = to_z-of_z w32 x f i; y = to_z-of_z w32 y g i }
