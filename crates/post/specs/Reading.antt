-- What a reading gave: so many bytes stand at the front of the buffer, or a read failed.
use Rattle.std.specs.Prelude.{◌≡◌, ◌≤◌, ◌<◌, List, ℕ, Option, Result, Ok, Err, length, take}
use Rattle.std.specs.Io.KnownBytes.{Consumes, IsAtEnd}

-- the buffer has n bytes at its front; the second part follows from the first, and spares a caller's `&buffer[..n]` a proof
abbrev pub IsPrefixLen : ℕ → List ℕ → Type 0
IsPrefixLen n buffer = (n ≤ length buffer) × (n ≡ length (take n buffer))

-- the bytes that it counts are the buffer's; of a read that failed nothing is said
abbrev pub Filled : {E : Type 0} → Result ℕ E → List ℕ → Type 0
Filled (Ok n) buffer = IsPrefixLen n buffer
Filled (Err e) buffer = Unit

-- of a reader whose bytes are known: what all reads put there were the first that were left, and where the buffer has room for more none is left
abbrev pub GaveAll : {E : Type 0} → Result ℕ E → Option (List ℕ) → Option (List ℕ) → List ℕ → Type 0
GaveAll (Ok n) old new buffer = Consumes old new (take n buffer) × (n < length buffer → IsAtEnd new)
GaveAll (Err e) old new buffer = Unit
