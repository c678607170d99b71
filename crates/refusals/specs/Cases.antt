-- What depends on whether the answer of a call is refusal 10.
use Rattle.std.specs.Prelude.{Ok, Err}
use Rattle.table.specs.Given.{Given}
use Rattle.table.specs.declared.given.Refusal.{Refusal}
use Rattle.table.specs.declared.given.Refusal.TheVariants.{
  WrongLength,
  NotWellFormed,
  NoSuchNumber,
  OffGrid,
  NoSuchK,
  AlreadyEnrolled,
  Full,
  NotEnrolled,
  FewCandidates,
  ShortList,
  Misshapen,
  SheetTooLong,
}

-- one thing if the refusal is 10, another otherwise
abbrev pub if_short : {A : Type 0} → Refusal → A → A → A
if_short ShortList a b = a
if_short WrongLength a b = b
if_short (NotWellFormed rule slot) a b = b
if_short NoSuchNumber a b = b
if_short OffGrid a b = b
if_short NoSuchK a b = b
if_short AlreadyEnrolled a b = b
if_short Full a b = b
if_short NotEnrolled a b = b
if_short FewCandidates a b = b
if_short Misshapen a b = b
if_short SheetTooLong a b = b

-- one thing if the query is refused with 10, another otherwise
abbrev pub if_short_list : {A : Type 0} → Given → A → A → A
if_short_list (Ok u) a b = b
if_short_list (Err r) a b = if_short r a b
