-- 01, "Numbers given back": each answer's number, and how a call picks its answer.
use Rattle.std.specs.Prelude.{ℕ, Bool, cond, List, [], ◌∷◌, ℤ, pos, Result, Ok, Err}
use Rattle.table.specs.declared.given.Refusal.{Refusal}
use Rattle.table.specs.declared.given.Refusal.TheVariants.{
  WrongLength,
  NotWellFormed,
  NoSuchNumber,
  OffGrid,
  NoSuchK,
  AlreadyEnrolled,
  Full,
  NotEnrolled,
  FewCandidates,
  ShortList,
  Misshapen,
  SheetTooLong,
}

abbrev pub Given : Type 0
Given = Result (Unit {0}) Refusal

-- the call is granted
abbrev pub Done : Given
Done = Ok tt

abbrev pub number_refused : Refusal → ℕ
number_refused WrongLength = 1
number_refused (NotWellFormed rule slot) = 2
number_refused NoSuchNumber = 3
number_refused OffGrid = 4
number_refused NoSuchK = 5
number_refused AlreadyEnrolled = 6
number_refused Full = 7
number_refused NotEnrolled = 8
number_refused FewCandidates = 9
number_refused ShortList = 10
number_refused Misshapen = 11
number_refused SheetTooLong = 12

abbrev pub number_given : Given → ℕ
number_given (Ok u) = 0
number_given (Err r) = number_refused r

-- one thing if the call is granted, another if it is refused
abbrev pub if_done : {A : Type 0} → Given → A → A → A
if_done (Ok u) a b = a
if_done (Err r) a b = b

-- one thing of the rule and the slot if the table is not well formed, another with any other refusal
abbrev pub if_broken : {A : Type 0} → Refusal → (ℕ → ℤ → A) → A → A
if_broken (NotWellFormed rule slot) f other = f rule slot
if_broken WrongLength f other = other
if_broken NoSuchNumber f other = other
if_broken OffGrid f other = other
if_broken NoSuchK f other = other
if_broken AlreadyEnrolled f other = other
if_broken Full f other = other
if_broken NotEnrolled f other = other
if_broken FewCandidates f other = other
if_broken ShortList f other = other
if_broken Misshapen f other = other
if_broken SheetTooLong f other = other

-- the same with any other answer
abbrev pub if_malformed : {A : Type 0} → Given → (ℕ → ℤ → A) → A → A
if_malformed (Ok u) f other = other
if_malformed (Err r) f other = if_broken r f other

-- 02 §4: the rule that is broken and the lowest slot where it is; 0 and 0 with any answer but 2
abbrev pub rule_given : Given → ℕ
rule_given g = if_malformed g (λ rule slot. rule) 0

abbrev pub slot_given : Given → ℤ
slot_given g = if_malformed g (λ rule slot. slot) (pos 0)

-- a line of the table of refusals: if it holds, why the call is refused
pub record Line : Type 0 where
  pub holds : Bool
  pub gives : Given

abbrev pub line : Bool → Refusal → Line
line b r = record { holds = b; gives = Err r }

-- each is given exactly when its line holds and no earlier one does; done if none holds
abbrev pub first_of : List Line → Given
first_of [] = Done
first_of (l ∷ ls) = cond l.holds l.gives (first_of ls)
