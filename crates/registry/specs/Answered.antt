-- What an answered list leaves on two writers, where their bytes are known, as those of a writer over memory are.
use Rattle.std.specs.Prelude.{◌≤◌, List, ℕ, Option, length}
use Rattle.std.specs.Io.KnownBytes.{Consumes, IsAtEnd, Appends}
use Rattle.sheet.specs.Bytes.{Bytes, LONGEST}
use Rattle.roster.specs.Roster.{sheet_of, reports_of}

-- the job sheet is behind what the output held, and the reports behind what was told
pub record Written (file : Bytes) (output wrote errors told : Option (List ℕ)) : Type 0 where
  pub lines : Appends output wrote (sheet_of file)
  pub reports : Appends errors told (reports_of file)

-- a list was read to its end, or until it was too long, and answered
pub record Answered (input rest output wrote errors told : Option (List ℕ)) : Type 0 where
  pub file : Bytes
  pub read : Consumes input rest file
  pub whole : length file ≤ LONGEST → IsAtEnd rest
  pub written : Written file output wrote errors told
