-- What each call gives back and leaves behind. A refusal changes nothing and has zero counts, but for 10: of the query, and of the card.
use Rattle.std.specs.Prelude.{ℕ, List, ℤ, length}
use Rattle.words.specs.Word.{nat_of}
use Rattle.grid.specs.declared.site.Site.{Site}
use Rattle.grid.specs.Site.{place_of}
use Rattle.grid.specs.Place.{spot_of}
use Rattle.table.specs.declared.node.Entry.{Entry}
use Rattle.table.specs.Words.{Words}
use Rattle.table.specs.Stations.{stations}
use Rattle.table.specs.Given.{Given, if_done}
use Rattle.joining.specs.Enrol.{enrolled}
use Rattle.leaving.specs.Withdraw.{withdrawn}
use Rattle.record.specs.declared.Candidate.{Candidate}
use Rattle.card.specs.Card.{names_for}
use Rattle.filter.specs.Query.{Counts, records_found, answers_found, counts_of, laid_over}
use Rattle.refusals.specs.Refusals.{enrol_gives, withdraw_gives, query_gives, card_gives}
use Rattle.refusals.specs.Cases.{if_short_list}

-- a point's entry in a leaf
abbrev pub point_entry : ℤ → Site → Entry
point_entry n p = record { reference = nat_of n; rect = spot_of (place_of p) }

-- the table after an enrolment
unfoldable pub after_enrol : Words → ℤ → Site → Words
after_enrol ws n p = if_done (enrol_gives ws n p) (enrolled ws (point_entry n p)) ws

-- the table after a withdrawal
unfoldable pub after_withdraw : Words → ℤ → Words
after_withdraw ws n = if_done (withdraw_gives ws n) (withdrawn ws (nat_of n)) ws

-- what a query gives back, and the two lists after it
pub record Queried : Type 0 where
  pub given : Given
  pub counts : Counts
  pub candidates : List Candidate
  pub answers : List ℕ

abbrev pub zero_counts : Counts
zero_counts = record { n = 0; m = 0; o = 0 }

-- refusal 10 gives n, with m and o zero
abbrev pub only_n : Counts → Counts
only_n c = record { n = c.n; m = 0; o = 0 }

unfoldable pub after_query : Words → Site → ℤ → List Candidate → List ℕ → Queried
after_query ws q k candidates answers =
    let g = query_gives ws q k (length candidates) (length answers) in
    let counts = counts_of ws q (nat_of k) in
    let records = laid_over (records_found ws q (nat_of k)) candidates in
    record {
      given = g;
      counts = if_done g counts (if_short_list g (only_n counts) zero_counts);
      candidates = if_done g records (if_short_list g records candidates);
      answers = if_done g (laid_over (answers_found ws q (nat_of k)) answers) answers;
    }

-- what a card gives back: how many names it has; and the list after it
pub record Listed : Type 0 where
  pub given : Given
  pub names : ℕ
  pub list : List ℕ

-- refusal 10 gives the card's length, and leaves the list
unfoldable pub after_card : Words → ℤ → ℤ → List ℕ → Listed
after_card ws n k list =
    let g = card_gives ws n k (length list) in
    let card = names_for (stations ws) (nat_of n) (nat_of k) in
    record {
      given = g;
      names = if_done g (length card) (if_short_list g (length card) 0);
      list = if_done g (laid_over card list) list;
    }
