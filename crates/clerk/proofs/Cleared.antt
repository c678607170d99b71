-- A table whose header says that it is empty, and whose slots become free one after the other: when all are, it is the empty table. Assumes nothing.
use Prim.Native.Nat.{ℕ, ◌+◌, ◌≤◌, ◌<◌}
use native.Mathlib.Omega.{arith}
use native.Mathlib.Decide.{dec_lt}
use mathlib.Core.Path.{◌≡◌, sym, subst, ◌∙◌}
use lib.IntN.{pos, negsuc}
use lib.ListN.{length, length-set}
use lib.Seq.{get_or-set_same, get_or-set_other}
use Rattle.figures.specs.Figures.{SLOTS, LENGTH}
use Rattle.table.specs.Words.{Words, word, part_at}
use Rattle.table.specs.Page.{free_words}
use Rattle.table.specs.Slots.{freed, with_root, with_points}
use Rattle.table.specs.Empty.{empty_table}
use Rattle.table.proofs.Slots.{freed_here, freed_other, freed_long, freed_header}
use Rattle.rules.proofs.EmptyTable.{blank_empty}

-- the header is the empty table's, and the first n slots are free
pub record Cleared (ws : Words) (n : ℕ) : Type 0 where
  pub long : length ws ≡ LENGTH
  pub first : word ws 0 ≡ negsuc 0
  pub second : word ws 1 ≡ pos 0
  pub frees : (s : ℕ) → s < n → part_at ws s ≡ free_words

pub cleared_none : (ws : Words) → length ws ≡ LENGTH → Cleared (with_points (with_root ws (negsuc 0)) 0) 0
cleared_none ws h =
    let r = with_root ws (negsuc 0) in
    let long : length r ≡ LENGTH = length-set ws 0 (negsuc 0) ∙ h in
    record {
      long = length-set r 1 (pos 0) ∙ long;
      first = get_or-set_other r 1 0 (pos 0) (pos 0) (λ z. omega arith) ∙ get_or-set_same ws 0 (negsuc 0) (pos 0) (omega arith);
      second = get_or-set_same r 1 (pos 0) (pos 0) (omega arith);
      frees = λ s l. absurd (omega arith);
    }

pub cleared_more : {ws : Words} {n : ℕ} → Cleared ws n → n < SLOTS → Cleared (freed ws n) (n + 1)
cleared_more {ws} {n} c low =
    record {
      long = freed_long ws n c.long low ∙ c.long;
      first = freed_header ws n c.long low 0 (omega arith) ∙ c.first;
      second = freed_header ws n c.long low 1 (omega arith) ∙ c.second;
      frees = λ s l. go s l (dec_lt s n);
    }
  where
    go : (s : ℕ) → s < n + 1 → Dec (s < n) → part_at (freed ws n) s ≡ free_words
    go s l (yes k) = freed_other ws n c.long low s (λ e. omega arith) ∙ c.frees s k
    go s l (no k) =
        let e : s ≡ n = omega arith in
        subst (λ o. part_at (freed ws n) o ≡ free_words) (sym e) (freed_here ws n c.long low)

pub cleared_all : {ws : Words} {n : ℕ} → Cleared ws n → SLOTS ≤ n → ws ≡ empty_table
cleared_all c h =
    blank_empty (record { long = c.long; first = c.first; second = c.second; frees = λ s l. c.frees s (omega arith) })
