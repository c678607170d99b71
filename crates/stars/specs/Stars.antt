-- 01, "Places to try", as 02 §2 amends it: the starred cases, gathered under a single statement.
use Rattle.std.specs.Prelude.{ℕ, zero, suc, ◌*◌, ◌≡◌, true, List, [], ◌∷◌, ◌++◌, map, ℤ, pos, negsuc}
use Rattle.grid.specs.declared.place.Place.{Place}
use Rattle.grid.specs.declared.rect.Rect.{Rect}
use Rattle.words.specs.Word.{steps_of}
use Rattle.grid.specs.declared.site.Site.{Site}
use Rattle.grid.specs.Site.{site, place_of}
use Rattle.grid.specs.AsNear.{corners_as_near}
use Rattle.table.specs.Words.{Words, root_of}
use Rattle.table.specs.Slots.{entries_at, entry_for}
use Rattle.table.specs.Stations.{Station}
use Rattle.joining.specs.Enrol.{enrolled}
use Rattle.filter.specs.Meaning.{answer}
use Rattle.filter.specs.Walk.{box_hidden}
use Rattle.filter.specs.Query.{found, answers_found}
use Rattle.table.specs.Empty.{empty_table}
use Rattle.desk.specs.Calls.{point_entry}

abbrev pub station : ℕ → ℤ → ℤ → Station
station n a b = record { number = n; site = site a b }

-- points 1 (0,0), 2 (4,0), 3 (10,0)
abbrev pub three : List Station
three = station 1 (pos 0) (pos 0) ∷ station 2 (pos 4) (pos 0) ∷ station 3 (pos 10) (pos 0) ∷ []

-- the three, enrolled in order
abbrev pub three_enrolled : Words
three_enrolled =
    enrolled (enrolled (enrolled empty_table (point_entry (pos 1) (site (pos 0) (pos 0)))) (point_entry (pos 2) (site (pos 4) (pos 0)))) (point_entry (pos 3) (site (pos 10) (pos 0)))

-- with 4 at (4,0) too
abbrev pub four : List Station
four = three ++ station 4 (pos 4) (pos 0) ∷ []

-- the points 1 to n, number i at (10 × (i − 1), 0), enrolled in order
abbrev pub enrolled_up_to : ℕ → Words
enrolled_up_to zero = empty_table
enrolled_up_to (suc n) = enrolled (enrolled_up_to n) (point_entry (pos (suc n)) (site (pos (10 * n)) (pos 0)))

-- the point numbers, or the child slots, that a slot holds
abbrev pub referred : Words → ℕ → List ℕ
referred ws s = map (λ e. e.reference) (entries_at ws s)

-- box x 10 to 20, y −5 to 5
abbrev pub box : Rect
box = record {
  x = record { low = steps_of (pos 10); high = steps_of (pos 20) };
  y = record { low = steps_of (negsuc 4); high = steps_of (pos 5) };
}

abbrev pub at : ℤ → ℤ → Place
at a b = place_of (site a b)

pub record Stars : Type 0 where
  -- q (5,0), k 1: 2, 3; k 2: 1, 2, 3
  pub three_at5k1 : answer three (site (pos 5) (pos 0)) 1 ≡ 2 ∷ 3 ∷ []
  pub three_at5k2 : answer three (site (pos 5) (pos 0)) 2 ≡ 1 ∷ 2 ∷ 3 ∷ []
  -- q (8,0), k 1: 3 alone, since point 1 is exactly as far from 2 as q is; m still 2
  pub three_at8k1 : answer three (site (pos 8) (pos 0)) 1 ≡ 3 ∷ []
  pub three_at8_m : map (λ e. e.reference) (found three_enrolled (site (pos 8) (pos 0)) 1).candidates ≡ 3 ∷ 2 ∷ []
  -- with 4 at (4,0): q (5,0), k 1: 3; k 2: 2, 3, 4; q (4,0), k 1: none, so a point at the query's place may not answer
  pub four_at5k1 : answer four (site (pos 5) (pos 0)) 1 ≡ 3 ∷ []
  pub four_at5k2 : answer four (site (pos 5) (pos 0)) 2 ≡ 2 ∷ 3 ∷ 4 ∷ []
  pub four_at4k1 : answer four (site (pos 4) (pos 0)) 1 ≡ []
  -- the empty table: no answers, at any place, for any k
  pub empty_answers : (q : Site) (k : ℕ) → answer [] q k ≡ []
  pub empty_finds : (q : Site) (k : ℕ) → answers_found empty_table q k ≡ []
  -- nine points: slot 0 holds 1 to 4, slot 1 holds 5 to 9, the root is slot 2
  pub nine_slot0 : referred (enrolled_up_to 9) 0 ≡ 1 ∷ 2 ∷ 3 ∷ 4 ∷ []
  pub nine_slot1 : referred (enrolled_up_to 9) 1 ≡ 5 ∷ 6 ∷ 7 ∷ 8 ∷ 9 ∷ []
  pub nine_root : (root_of (enrolled_up_to 9) ≡ 2) × (referred (enrolled_up_to 9) 2 ≡ 0 ∷ 1 ∷ [])
  -- q (−10,0), k 1: no answer, since 2 is exactly as far from 1 as q is; m 1, o 2
  pub nine_answer : answers_found (enrolled_up_to 9) (site (negsuc 9) (pos 0)) 1 ≡ []
  pub nine_m : map (λ e. e.reference) (found (enrolled_up_to 9) (site (negsuc 9) (pos 0)) 1).candidates ≡ 1 ∷ []
  pub nine_o : (found (enrolled_up_to 9) (site (negsuc 9) (pos 0)) 1).opened ≡ 2
  -- slot 1 is never opened: with the one candidate its box is discarded
  pub nine_slot1_discarded : box_hidden (at (negsuc 9) (pos 0)) 1 (found (enrolled_up_to 9) (site (negsuc 9) (pos 0)) 1).candidates (entry_for (enrolled_up_to 9) 1) ≡ true
  -- q (0,0), k 1: candidate (8,0) discards the box; candidate (20,0) does too: at (10,5) both squares are 125
  pub box_discarded : corners_as_near box (at (pos 8) (pos 0)) (at (pos 0) (pos 0)) ≡ true
  pub box_discarded_on_equal : corners_as_near box (at (pos 20) (pos 0)) (at (pos 0) (pos 0)) ≡ true
