-- The starred cases hold: each is computed from the definitions that the promises cite. The nine enrolments are computed once,
-- as one table; what is said of it is then computed from that. Assumes nothing.
use Prim.Native.Nat.{ℕ, suc, ◌*◌}
use mathlib.Core.Path.{◌≡◌, refl, ap, ◌∙◌}
use mathlib.Core.Bool.{true}
use mathlib.Core.List.{List, [], ◌∷◌, ◌++◌, map}
use lib.IntN.{pos, negsuc}
use lib.ListN.{length}
use Rattle.grid.specs.declared.rect.Rect.{Rect}
use Rattle.axis.specs.Axis.{apart, sq, gap}
use Rattle.words.specs.Word.{steps_of, word_of}
use Rattle.grid.specs.Place.{dist², area_of, growth_of, longer_axis, least_square}
use Rattle.grid.specs.AsNear.{as_near, as_near_to, corners_as_near}
use Rattle.grid.specs.declared.site.Site.{Site}
use Rattle.grid.specs.Site.{site, square_apart, distance²}
use Rattle.order.specs.Lists.{filter}
use Rattle.table.specs.declared.node.Entry.{Entry}
use Rattle.table.specs.Words.{Words, root_of, part_at, placed}
use Rattle.table.specs.Page.{page, entry_of, page_of, entry_words, entries_words, page_words, free_words, cover_of}
use Rattle.table.specs.Slots.{is_free, page_at, put_page, lowest_free, entry_for}
use Rattle.table.specs.Stations.{Station, stations, station_of_entry}
use Rattle.rules.specs.Rules.{is_empty}
use Rattle.table.specs.Empty.{empty_table, free_slots}
use Rattle.change.specs.Choose.{takes_before, chosen}
use Rattle.change.specs.Share.{lined, first_share, other_share}
use Rattle.joining.specs.Enrol.{settled, enrolled}
use Rattle.filter.specs.Meaning.{as_near_other, answers_to, rising, answer}
use Rattle.filter.specs.Walk.{Found, nearest_first, point_hidden, box_hidden}
use Rattle.filter.specs.Query.{found, answers_found}
use Rattle.desk.specs.Calls.{point_entry}
use Rattle.stars.specs.Stars.{Stars, three_enrolled, referred, enrolled_up_to, station, at}

-- the nine stations
abbrev row : List Station
row = station 1 (pos 0) (pos 0) ∷ station 2 (pos 10) (pos 0) ∷ station 3 (pos 20) (pos 0) ∷ station 4 (pos 30) (pos 0) ∷ station 5 (pos 40) (pos 0)
    ∷ station 6 (pos 50) (pos 0) ∷ station 7 (pos 60) (pos 0) ∷ station 8 (pos 70) (pos 0) ∷ station 9 (pos 80) (pos 0) ∷ []

-- point n + 1, as a leaf has it
abbrev pt : ℕ → Entry
pt n = point_entry (pos (suc n)) (site (pos (10 * n)) (pos 0))

-- point n at (x, 0)
abbrev three_at : ℕ → ℕ → Entry
three_at n x = point_entry (pos n) (site (pos x) (pos 0))

-- the box of the points from a to b
abbrev span : ℕ → ℕ → Rect
span a b = record { x = record { low = steps_of (pos a); high = steps_of (pos b) }; y = record { low = steps_of (pos 0); high = steps_of (pos 0) } }

-- the table that the nine enrolments leave
nine_table : Words
nine_table = pos 2 ∷ pos 9
    ∷ page_words (page 0 (pt 0 ∷ pt 1 ∷ pt 2 ∷ pt 3 ∷ []))
    ++ (page_words (page 0 (pt 4 ∷ pt 5 ∷ pt 6 ∷ pt 7 ∷ pt 8 ∷ []))
    ++ (page_words (page 1 (record { reference = 0; rect = span 0 30 } ∷ record { reference = 1; rect = span 40 80 } ∷ []))
    ++ free_slots 253))

nine : enrolled_up_to 9 ≡ nine_table
unfolding nine_table empty_table enrolled is_empty is_free part_at placed put_page page_words free_words page_at page_of entry_of entry_words entries_words word_of lowest_free settled chosen takes_before lined first_share other_share cover_of entry_for area_of growth_of longer_axis
nine = refl

nine_stations : stations nine_table ≡ row
unfolding nine_table stations part_at page_words free_words page_at page_of entry_of entry_words entries_words word_of
nine_stations = refl

-- the tables that the three enrolments leave, one after the other, and the walk from (8, 0) on the last: 3 and 2 become candidates, and 2 hides 1
leaf : List Entry → Words
leaf es = pos 0 ∷ pos (length es) ∷ page_words (page 0 es) ++ free_slots 255

three_table : Words
three_table = leaf (three_at 1 0 ∷ three_at 2 4 ∷ three_at 3 10 ∷ [])

first_stored : enrolled empty_table (three_at 1 0) ≡ leaf (three_at 1 0 ∷ [])
unfolding leaf empty_table enrolled is_empty is_free part_at placed put_page page_words free_words entry_words entries_words word_of
first_stored = refl

second_stored : enrolled (leaf (three_at 1 0 ∷ [])) (three_at 2 4) ≡ leaf (three_at 1 0 ∷ three_at 2 4 ∷ [])
unfolding leaf enrolled is_empty is_free part_at placed put_page page_words free_words page_at page_of entry_of entry_words entries_words word_of settled
second_stored = refl

third_stored : enrolled (leaf (three_at 1 0 ∷ three_at 2 4 ∷ [])) (three_at 3 10) ≡ three_table
unfolding three_table leaf enrolled is_empty is_free part_at placed put_page page_words free_words page_at page_of entry_of entry_words entries_words word_of settled
third_stored = refl

three_stored : three_enrolled ≡ three_table
three_stored =
    ap (λ ws. enrolled (enrolled ws (three_at 2 4)) (three_at 3 10)) first_stored ∙ ap (λ ws. enrolled ws (three_at 3 10)) second_stored ∙ third_stored

three_found : found three_table (site (pos 8) (pos 0)) 1 ≡ record { candidates = three_at 3 10 ∷ three_at 2 4 ∷ []; opened = 1 }
unfolding three_table leaf found is_empty is_free part_at page_words free_words page_at page_of entry_of entry_words entries_words word_of nearest_first point_hidden least_square gap as_near as_near_to dist² sq apart
three_found = refl

-- the walk from (−10, 0): slot 0 first, where point 1 becomes a candidate and hides the rest; then slot 1, which it hides too
nine_found : found nine_table (site (negsuc 9) (pos 0)) 1 ≡ record { candidates = pt 0 ∷ []; opened = 2 }
unfolding nine_table found is_empty is_free part_at page_words free_words page_at page_of entry_of entry_words entries_words word_of nearest_first point_hidden box_hidden least_square gap as_near as_near_to corners_as_near dist² sq apart
nine_found = refl

nine_hidden : box_hidden (at (negsuc 9) (pos 0)) 1 (pt 0 ∷ []) (entry_for nine_table 1) ≡ true
unfolding nine_table entry_for cover_of part_at page_words page_at page_of entry_of entry_words entries_words word_of box_hidden as_near as_near_to corners_as_near dist² sq apart
nine_hidden = refl

empty_found : (q : Site) (k : ℕ) → found empty_table q k ≡ record { candidates = []; opened = 0 }
unfolding empty_table found is_empty is_free part_at free_words page_at page_of
empty_found q k = refl

-- the answers, from what the walk found and the stations
answers_by : (ws : Words) (q : Site) (k : ℕ) (f : Found) (all : List Station) → found ws q k ≡ f → stations ws ≡ all
    → answers_found ws q k ≡ rising (map (λ p. p.number) (filter (answers_to all q k) (map station_of_entry f.candidates)))
unfolding answers_found
answers_by ws q k f all e s = rw (e, s)

nine_answers : answers_found nine_table (site (negsuc 9) (pos 0)) 1 ≡ []
unfolding rising answers_to as_near_other as_near distance² square_apart word_of
nine_answers = answers_by nine_table _ 1 _ row nine_found nine_stations

pub stars : Stars
unfolding answer rising answers_to as_near_other as_near distance² square_apart corners_as_near as_near_to dist² sq apart nine_table part_at page_words page_at page_of entry_of entry_words entries_words word_of
stars = record {
  three_at5k1 = refl;
  three_at5k2 = refl;
  three_at8k1 = refl;
  three_at8_m = ap (λ ws. map (λ e. e.reference) (found ws (site (pos 8) (pos 0)) 1).candidates) three_stored ∙ ap (λ f. map (λ e. e.reference) f.candidates) three_found;
  four_at5k1 = refl;
  four_at5k2 = refl;
  four_at4k1 = refl;
  empty_answers = λ q k. refl;
  empty_finds = λ q k. answers_by empty_table q k _ (stations empty_table) (empty_found q k) refl;
  nine_slot0 = ap (λ ws. referred ws 0) nine;
  nine_slot1 = ap (λ ws. referred ws 1) nine;
  nine_root = (ap root_of nine, ap (λ ws. referred ws 2) nine);
  nine_answer = ap (λ ws. answers_found ws (site (negsuc 9) (pos 0)) 1) nine ∙ nine_answers;
  nine_m = ap (λ ws. map (λ e. e.reference) (found ws (site (negsuc 9) (pos 0)) 1).candidates) nine ∙ ap (λ f. map (λ e. e.reference) f.candidates) nine_found;
  nine_o = ap (λ ws. (found ws (site (negsuc 9) (pos 0)) 1).opened) nine ∙ ap (λ f. f.opened) nine_found;
  nine_slot1_discarded =
      ap (λ ws. box_hidden (at (negsuc 9) (pos 0)) 1 (found ws (site (negsuc 9) (pos 0)) 1).candidates (entry_for ws 1)) nine
      ∙ ap (λ f. box_hidden (at (negsuc 9) (pos 0)) 1 f.candidates (entry_for nine_table 1)) nine_found
      ∙ nine_hidden;
  box_discarded = refl;
  box_discarded_on_equal = refl;
}
