-- A card as the code has it.
use Rattle.std.specs.Prelude.{ℕ, ◌≡◌, List, ℤ}
use Rattle.table.specs.Words.{Words}
use Rattle.refusals.specs.Told.{Carded}
use Rattle.desk.specs.Calls.{Listed, after_card}

-- what the code hands back, and the list
abbrev pub listed : Carded → List ℕ → Listed
listed r list = record { given = r.given; names = r.names; list = list }

-- what a card promises of the list before and after it, and of what it hands back
abbrev pub Cards : Words → ℤ → ℤ → (old new : List ℕ) → Carded → Type 0
Cards ws n k old new r = listed r new ≡ after_card ws n k old
