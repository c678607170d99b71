-- What an answered sheet leaves on a writer, where its bytes are known, as those of a writer over memory are.
use Rattle.std.specs.Prelude.{◌≤◌, List, ℕ, Option, length}
use Rattle.std.specs.Io.KnownBytes.{Consumes, IsAtEnd, Appends}
use Rattle.sheet.specs.Bytes.{Bytes, LONGEST}
use Rattle.clerk.specs.Sheet.{sheet_output}

-- a sheet was read to its end, or until it was too long, and what it prints is behind what the output held
pub record Answered (input rest output wrote : Option (List ℕ)) : Type 0 where
  pub sheet : Bytes
  pub read : Consumes input rest sheet
  pub whole : length sheet ≤ LONGEST → IsAtEnd rest
  pub printed : Appends output wrote (sheet_output sheet)
