-- A rule is asked of one slot after the other: the lowest where it is broken.
use Rattle.std.specs.Prelude.{ℕ, ◌<◌, ◌≡◌, Bool, true, false, Option, MatchOption}

-- r is one of the first n slots, no is answered there, and yes at each slot below it
pub record LowestAt (answers : ℕ → Bool → Type 0) (n r : ℕ) : Type 0 where
  pub within : r < n
  pub below : (k : ℕ) → k < r → answers k true
  pub broken : answers r false

-- the lowest of the first n slots where no is answered; none if yes is answered at every one
pub record LowestNo (answers : ℕ → Bool → Type 0) (n : ℕ) (r : Option ℕ) : Type 0 where
  pub cases : MatchOption r ((k : ℕ) → k < n → answers k true) (LowestAt answers n)

-- the lowest of the first n slots where a rule is broken; none if it holds at every one
abbrev pub Lowest : (ℕ → Bool) → ℕ → Option ℕ → Type 0
Lowest P n r = LowestNo (λ k b. P k ≡ b) n r
