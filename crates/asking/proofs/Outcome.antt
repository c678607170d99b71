-- What the parts of a query are called with, and what they leave: the rows hold the candidates found, those that pass are the answers of the definition, and the records of the rows are those of the candidates. Assumes nothing.
use Prim.Native.Nat.{ℕ, ◌≤◌, ◌<◌}
use native.Mathlib.Omega.{arith}
use mathlib.Core.Path.{◌≡◌, sym, ap, ◌∙◌}
use mathlib.Core.Bool.{true, false, cond, ◌&&◌}
use mathlib.Core.List.{List, map, map-map}
use lib.Dec.{leb, eqb}
use lib.ListN.{length, take}
use lib.Seq.{take_at}
use borrow.Author.Tests.{eqb-true}
use Rattle.grid.specs.declared.place.Place.{Place}
use Rattle.grid.specs.declared.site.Site.{Site}
use Rattle.grid.specs.Site.{place_of}
use Rattle.grid.proofs.Sites.{SiteOnGrid, place_grid}
use Rattle.order.specs.Lists.{filter, every, All}
use Rattle.order.proofs.Lists.{all_then, and_left, and_right}
use Rattle.table.specs.declared.node.Entry.{Entry}
use Rattle.figures.specs.Figures.{MOST}
use Rattle.table.specs.Words.{Words, word, is_minus_one, points_of}
use Rattle.table.specs.Slots.{slots, is_free}
use Rattle.table.specs.Stations.{stations, is_point, station_of_entry}
use Rattle.rules.specs.Rules.{is_empty, Passing}
use Rattle.rules.proofs.Tests.{by_test}
use Rattle.rules.proofs.Reading.{Point, point, held_points}
use Rattle.rules.proofs.WellFormed.{well_formed_tree}
use Rattle.filter.specs.declared.seen.Seen.{Seen}
use Rattle.filter.specs.Meaning.{answers_to, rising}
use Rattle.filter.specs.Query.{found, answers_found, laid_over}
use Rattle.filter.specs.Rows.{Rows, listed, laid_in, Room, Kept, Noted}
use Rattle.filter.proofs.Answers.{found_points, found_few, found_crowded}
use Rattle.filter.proofs.Rising.{filter_map, filter_same}
use Rattle.filter.proofs.RowLaws.{listed_back, rows_kept}
use Rattle.filter.proofs.Turns.{room_less}
use Rattle.vetting.specs.Tested.{passes_as, as_near_among, numbers_passing, Keepable}
use Rattle.vetting.proofs.Listing.{rising_length}
use Rattle.vetting.proofs.Testing.{passes_answers}
use Rattle.asking.specs.declared.answer.Reply.{Reply}
use Rattle.asking.specs.Slate.{Slate, slate_after}
use Rattle.asking.specs.Asked.{Replied}

slate_ext : {s t : Slate} → s.noted ≡ t.noted → s.kept ≡ t.kept → s ≡ t
slate_ext n k = λ i. record { noted = n i; kept = k i }

empty_points : (ws : Words) → is_empty ws ≡ true → points_of ws ≡ 0
unfolding is_empty
empty_points ws e =
    let a = is_minus_one (word ws 0) in
    let b = eqb (points_of ws) 0 in
    let c = every (is_free ws) slots in
    eqb-true (points_of ws) 0 (and_left b c (and_right a (b && c) e))

module _ {ws : Words} (t : Passing ws) where
  -- no more points than the rows have places
  pub points_most : points_of ws ≤ MOST
  points_most =
      by_test (is_empty ws) (λ e. omega (arith, empty_points ws e))
      (λ e. let h = well_formed_tree ws t.long t.words t.rules e in omega (arith, held_points h.holds, h.sound.few))

  module _ (q : Site) (g : SiteOnGrid q) (k : ℕ) where
    -- the candidates found, for a query at p
    abbrev cs : List Entry
    cs = (found ws q k).candidates

    abbrev p : Place
    p = place_of q

    pub few : length cs ≤ points_of ws
    few = found_few ws t.long t.words t.rules q g k

    points : All (λ e. is_point e ≡ true) cs
    points = found_points ws t.long t.words t.rules q g k

    pass_as : (e : Entry) → is_point e ≡ true → passes_as ws p k e ≡ answers_to (stations ws) q k (station_of_entry e)
    unfolding passes_as
    pass_as e h = passes_answers ws t.long t.words t.rules q g k e h

    -- one with more than k of them as near does not pass
    crowded_as : (e : Entry) → is_point e ≡ true → k < as_near_among p cs e → passes_as ws p k e ≡ false
    crowded_as e h l = pass_as e h ∙ found_crowded ws t.long t.words t.rules q g k e h l

    -- those that pass, in rising order, are the answers
    passing_right : rising (numbers_passing ws p k cs) ≡ answers_found ws q k
    unfolding numbers_passing answers_found
    passing_right =
        let A = answers_to (stations ws) q k in
        ap (λ l. rising (map (λ e. e.reference) l))
        (filter_same (passes_as ws p k) (λ e. A (station_of_entry e)) cs
        (all_then (λ e. is_point e ≡ true) (λ e. passes_as ws p k e ≡ A (station_of_entry e)) pass_as cs points))
        ∙ ap rising (sym (map-map (λ s. s.number) station_of_entry (filter (λ e. A (station_of_entry e)) cs)))
        ∙ ap (λ l. rising (map (λ s. s.number) l)) (sym (filter_map A station_of_entry cs))

    -- ---- the rows after the walk

    module _ {before after : Rows} (room : Room (points_of ws) before) (laid : after ≡ laid_in p cs before) where
      pub rows_back : listed p after (length cs) ≡ cs
      rows_back = rw laid (listed_back p cs before (place_grid g) (all_then (λ e. is_point e ≡ true) Point point cs points))

      pub rows_hold : Kept p after (length cs)
      rows_hold = rw laid (rows_kept p cs before (place_grid g) points (room_less few room))

    module _ {before after : Rows} {s : Seen} (room : Room (points_of ws) before) (n : Noted p (found ws q k) before after s) where
      seen_back : listed p after s.candidates ≡ cs
      seen_back = ap (listed p after) n.candidates ∙ rows_back room n.rows

      pub keepable : (free : ℕ) → points_of ws ≤ free → Keepable ws p after k s.candidates free
      keepable free h = record {
        table = t;
        grid = place_grid g;
        kept = rw n.candidates (rows_hold room n.rows);
        crowded = rw seen_back (all_then (λ e. is_point e ≡ true) (λ e. k < as_near_among p cs e → passes_as ws p k e ≡ false) crowded_as cs points);
        places = omega (arith, n.candidates, few);
      }

      -- the numbers of those that pass, the first that stand in `kept`
      abbrev passing : List ℕ
      passing = numbers_passing ws p k (listed p after s.candidates)

      passing_answers : rising passing ≡ answers_found ws q k
      passing_answers = ap (λ (es : List Entry). rising (numbers_passing ws p k es)) seen_back ∙ passing_right

      module _ (m : ℕ) (kept spare : List ℕ) (counted : m ≡ length passing) (laid : kept ≡ laid_over passing spare) where
        taken : take m kept ≡ passing
        taken = ap (take m) laid ∙ take_at passing _ m (sym counted)

        answers_many : length (take m kept) ≡ length (answers_found ws q k)
        answers_many = ap length taken ∙ sym (rising_length passing) ∙ ap length passing_answers

        written : record { noted = after; kept = kept } ≡ slate_after ws q k (record { noted = before; kept = spare })
        unfolding slate_after
        written = slate_ext n.rows (laid ∙ ap (λ (es : List Entry). laid_over (numbers_passing ws p k es) spare) seen_back)

        pub replies : {old new : List ℕ} {r : Reply} → r ≡ record { n = length (take m kept); m = s.candidates; o = s.opened }
            → new ≡ cond (leb (length (take m kept)) (length old)) (laid_over (rising (take m kept)) old) old
            → Replied ws q k (record { noted = before; kept = spare }) (record { noted = after; kept = kept }) old new r
        replies {old} e f =
            rw e
            (record {
              n = answers_many;
              m = n.candidates;
              o = n.opened;
              slate = written;
              answers = f
                  ∙ ap (λ (l : List ℕ). cond (leb (length (take m kept)) (length old)) (laid_over (rising l) old) old) taken
                  ∙ ap (λ (l : List ℕ). cond (leb (length (take m kept)) (length old)) (laid_over l old) old) passing_answers
                  ∙ ap (λ (i : ℕ). cond (leb i (length old)) (laid_over (answers_found ws q k) old) old) answers_many;
            })
