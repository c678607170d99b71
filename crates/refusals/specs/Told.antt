-- What a query or a card hands back to its caller, out of its reply and the places of its list; and that as one record, with the answer and its counts.
use Rattle.std.specs.Prelude.{ℕ, ◌≡◌, cond, ltb, Result, Ok, Err}
use Rattle.table.specs.declared.given.Refusal.TheVariants.{ShortList}
use Rattle.table.specs.Given.{Given, Done}
use Rattle.asking.specs.declared.answer.Reply.{Reply}
use Rattle.refusals.specs.declared.answered.Refused.{Refused}

-- what is handed back where the list has so many places: refusal 10 gives the length alone
abbrev pub told : {A : Type 0} → A → ℕ → ℕ → Result A Refused
told reply length places = cond (ltb places length) (Err (record { why = ShortList; length = length })) (Ok reply)

-- of a query: n answers, m candidates, o nodes opened
pub record Answered : Type 0 where
  pub given : Given
  pub n : ℕ
  pub m : ℕ
  pub o : ℕ

abbrev pub answered : Result Reply Refused → Answered
answered (Ok r) = record { given = Done; n = r.n; m = r.m; o = r.o }
answered (Err e) = record { given = Err e.why; n = e.length; m = 0; o = 0 }

-- of a card: how many names it has
pub record Carded : Type 0 where
  pub given : Given
  pub names : ℕ

abbrev pub carded : Result ℕ Refused → Carded
carded (Ok names) = record { given = Done; names = names }
carded (Err e) = record { given = Err e.why; names = e.length }

-- the record tells all that is handed back
pub record TellsAll : Type 0 where
  pub query : (r r' : Result Reply Refused) → answered r ≡ answered r' → r ≡ r'
  pub card : (r r' : Result ℕ Refused) → carded r ≡ carded r' → r ≡ r'
