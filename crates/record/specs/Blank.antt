-- The blank record: it fills a list before a query, and stands past the end of any list.
use Rattle.std.specs.Prelude.{pos}
use Rattle.record.specs.declared.Candidate.{Candidate}

abbrev pub none : Candidate
none = record { number = 0; x = pos 0; y = pos 0; square = 0 }
