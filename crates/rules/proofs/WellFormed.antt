-- The theorem of the table: a table of 32-bit words is well formed exactly where it is the empty table or holds a sound tree. Assumes nothing.
use Prim.Native.Nat.{ℕ}
use mathlib.Core.Path.{◌≡◌, ap, ◌∙◌}
use mathlib.Core.Logic.{◌↔◌, ◌⊎◌, inl, inr, ⊎_elim}
use mathlib.Core.Bool.{true, false}
use mathlib.Core.List.{[]}
use lib.ListN.{length}
use Rattle.words.specs.Word.{IsWord}
use Rattle.order.specs.Lists.{All}
use Rattle.figures.specs.Figures.{LENGTH}
use Rattle.table.specs.Words.{Words}
use Rattle.table.specs.Stations.{stations}
use Rattle.table.specs.Empty.{empty_table}
use Rattle.rules.specs.Rules.{is_empty, well_formed}
use Rattle.table.specs.Tree.{Tree, Sound, Holds}
use Rattle.rules.proofs.Tests.{by_test}
use Rattle.rules.proofs.Decoded.{root_level, whole_tree, decoded_sound, decoded_holds}
use Rattle.rules.proofs.Passed.{passed, passing}
use Rattle.rules.proofs.FromRules.{ruled}
use Rattle.rules.proofs.EmptyTable.{blank_empty, empty_blank, blank_is_empty, blank_fits, blank_passed, blank_stations, passed_blank}
use Rattle.rules.proofs.ToRules.{held_passed}

-- a sound tree that the table holds
pub record Held (ws : Words) : Type 0 where
  pub level : ℕ
  pub tree : Tree level
  pub holds : Holds ws level tree
  pub sound : Sound level tree

-- ---- both ways

module _ (ws : Words) (long : length ws ≡ LENGTH) (fits : All IsWord ws) (w : well_formed ws ≡ true) where
  -- a well-formed table that is not empty holds a sound tree
  pub well_formed_tree : is_empty ws ≡ false → Held ws
  well_formed_tree e =
      let r = ruled long fits (passed ws w) e in
      record { level = root_level r; tree = whole_tree r; holds = decoded_holds r; sound = decoded_sound r }

  -- and one that is empty is the empty table
  pub well_formed_empty : is_empty ws ≡ true → ws ≡ empty_table
  well_formed_empty e = blank_empty (passed_blank long fits (passed ws w) e)

  pub well_formed_means : (ws ≡ empty_table) ⊎ Held ws
  well_formed_means = by_test (is_empty ws) (λ e. inl (well_formed_empty e)) (λ e. inr (well_formed_tree e))

pub tree_well_formed : {ws : Words} → Held ws → well_formed ws ≡ true
tree_well_formed {ws} h = passing ws (held_passed h.holds h.sound)

pub empty_well_formed : well_formed empty_table ≡ true
empty_well_formed = passing empty_table (blank_passed empty_blank)

pub means_well_formed : (ws : Words) → (ws ≡ empty_table) ⊎ Held ws → well_formed ws ≡ true
means_well_formed ws m = ⊎_elim (λ e. ap well_formed e ∙ empty_well_formed) tree_well_formed m

pub well_formed_lem : (ws : Words) → length ws ≡ LENGTH → All IsWord ws → (well_formed ws ≡ true) ↔ ((ws ≡ empty_table) ⊎ Held ws)
well_formed_lem ws long fits = (λ w. well_formed_means ws long fits w, means_well_formed ws)

-- ---- the empty table

pub empty_length : length empty_table ≡ LENGTH
empty_length = empty_blank.long

pub empty_fits : All IsWord empty_table
empty_fits = blank_fits empty_blank

pub empty_is_empty : is_empty empty_table ≡ true
empty_is_empty = blank_is_empty empty_blank

pub empty_stations : stations empty_table ≡ []
empty_stations = blank_stations empty_blank
