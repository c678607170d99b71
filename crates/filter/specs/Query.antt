-- A granted query: the candidate list, the answer list, and the three numbers.
use Rattle.std.specs.Prelude.{ℕ, cond, List, [], ◌++◌, map, length, drop}
use Rattle.words.specs.Word.{word_of}
use Rattle.grid.specs.declared.site.Site.{Site}
use Rattle.grid.specs.Site.{place_of}
use Rattle.grid.specs.Place.{dist²}
use Rattle.order.specs.Lists.{filter}
use Rattle.record.specs.declared.Candidate.{Candidate}
use Rattle.table.specs.declared.node.Entry.{Entry}
use Rattle.table.specs.Words.{Words, root_of}
use Rattle.table.specs.Slots.{level_at}
use Rattle.table.specs.Stations.{stations, station_of_entry}
use Rattle.rules.specs.Rules.{is_empty}
use Rattle.filter.specs.Meaning.{answers_to, rising}
use Rattle.filter.specs.Walk.{Found, spot_in, walk}

abbrev pub nothing : Found
nothing = record { candidates = []; opened = 0 }

-- the whole walk; the empty table has no root to open
unfoldable pub found : Words → Site → ℕ → Found
found ws q k = cond (is_empty ws) nothing (walk (place_of q) k (level_at ws (root_of ws)) ws (root_of ws) nothing)

-- the record of a candidate: point number, x, y, squared distance to q
abbrev pub record_of : Site → Entry → Candidate
record_of q e = record {
  number = e.reference;
  x = word_of e.rect.x.low;
  y = word_of e.rect.y.low;
  square = dist² (place_of q) (spot_in e);
}

-- the records of the candidates in the order found
abbrev pub records_found : Words → Site → ℕ → List Candidate
records_found ws q k = map (record_of q) (found ws q k).candidates

-- then each candidate is tested by the meaning against the whole table; the numbers in rising order
unfoldable pub answers_found : Words → Site → ℕ → List ℕ
answers_found ws q k =
    rising (map (λ p. p.number) (filter (answers_to (stations ws) q k) (map station_of_entry (found ws q k).candidates)))

-- n answers, m candidates, o nodes opened
pub record Counts : Type 0 where
  pub n : ℕ
  pub m : ℕ
  pub o : ℕ

abbrev pub counts_of : Words → Site → ℕ → Counts
counts_of ws q k = record { n = length (answers_found ws q k); m = length (found ws q k).candidates; o = (found ws q k).opened }

-- a list laid over the front of a lent one; the rest of that stays
abbrev pub laid_over : {A : Type 0} → List A → List A → List A
laid_over new old = new ++ drop (length new) old
