-- What a query writes on, lent by who asks many of them: the rows of its walk, and the numbers of the candidates that pass its final test.
use Rattle.std.specs.Prelude.{ℕ, ◌≤◌, ◌≡◌, List, length}
use Rattle.grid.specs.declared.site.Site.{Site}
use Rattle.grid.specs.Site.{place_of}
use Rattle.table.specs.Words.{Words}
use Rattle.filter.specs.Query.{found, laid_over}
use Rattle.filter.specs.Rows.{Rows, rows, laid_in, Room}
use Rattle.vetting.specs.Tested.{numbers_passing}
use Rattle.asking.specs.declared.slate.Slate.{Slate as Lent}

pub record Slate : Type 0 where
  pub noted : Rows
  pub kept : List ℕ

abbrev pub slate : (numbers xs ys bars kept : List ℕ) → Slate
slate numbers xs ys bars kept = record { noted = rows numbers xs ys bars; kept = kept }

-- what the code's slate holds
abbrev pub slate_of : Lent → Slate
slate_of s = slate s.numbers.now s.xs.now s.ys.now s.bars.now s.kept.now

-- the code's slate is still the one that was lent
pub record SameSlate (before after : Lent) : Type 0 where
  pub numbers : after.numbers.ghost_name ≡ before.numbers.ghost_name
  pub xs : after.xs.ghost_name ≡ before.xs.ghost_name
  pub ys : after.ys.ghost_name ≡ before.ys.ghost_name
  pub bars : after.bars.ghost_name ≡ before.bars.ghost_name
  pub kept : after.kept.ghost_name ≡ before.kept.ghost_name

-- n candidates have room on it
pub record Wide (n : ℕ) (s : Slate) : Type 0 where
  pub noted : Room n s.noted
  pub kept : n ≤ length s.kept

-- what a query leaves on it: the candidates found, and the numbers of those that pass
unfoldable pub slate_after : Words → Site → ℕ → Slate → Slate
slate_after ws q k s = record {
  noted = laid_in (place_of q) (found ws q k).candidates s.noted;
  kept = laid_over (numbers_passing ws (place_of q) k (found ws q k).candidates) s.kept;
}
