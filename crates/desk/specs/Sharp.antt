-- How sharp the promises are: any two outcomes that the promise of a call permits are equal.
use Rattle.std.specs.Prelude.{ℕ, ◌≡◌, List, ℤ, Result}
use Rattle.grid.specs.declared.site.Site.{Site}
use Rattle.table.specs.Given.{Given}
use Rattle.table.specs.Words.{Words}
use Rattle.audit.specs.Check.{check_gives}
use Rattle.record.specs.declared.Candidate.{Candidate}
use Rattle.asking.specs.declared.answer.Reply.{Reply}
use Rattle.asking.specs.Slate.{Slate}
use Rattle.refusals.specs.declared.answered.Refused.{Refused}
use Rattle.refusals.specs.Told.{answered, carded}
use Rattle.refusals.specs.Refusals.{enrol_gives, withdraw_gives}
use Rattle.desk.specs.Calls.{after_enrol, after_withdraw}
use Rattle.desk.specs.Lent.{Answers}
use Rattle.desk.specs.Alone.{AnswersAlone}
use Rattle.desk.specs.Carding.{Cards}

-- what the promise of a change says of the number given and of the table after it
pub record Changed (gives : Given) (words : Words) (r : Given) (after : Words) : Type 0 where
  pub given : r ≡ gives
  pub table : after ≡ words

pub record OneOutcome : Type 0 where
  pub check : (ws : Words) (r r' : Given) → r ≡ check_gives ws → r' ≡ check_gives ws → r ≡ r'
  pub enrol : (ws : Words) (n : ℤ) (p : Site) (r r' : Given) (after after' : Words)
      → Changed (enrol_gives ws n p) (after_enrol ws n p) r after → Changed (enrol_gives ws n p) (after_enrol ws n p) r' after' → (r ≡ r') × (after ≡ after')
  pub withdraw : (ws : Words) (n : ℤ) (r r' : Given) (after after' : Words)
      → Changed (withdraw_gives ws n) (after_withdraw ws n) r after → Changed (withdraw_gives ws n) (after_withdraw ws n) r' after' → (r ≡ r') × (after ≡ after')
  -- every record of the candidate list, every number of the answer list, and what is handed back
  pub query : (ws : Words) (q : Site) (k : ℤ) (before after after' : List Candidate) (old new new' : List ℕ) (r r' : Result Reply Refused)
      → Answers ws q k before after old new (answered r) → Answers ws q k before after' old new' (answered r') → (after ≡ after') × (new ≡ new') × (r ≡ r')
  -- the same where a slate is lent in place of the candidate list: all that is left on it
  pub answers : (ws : Words) (q : Site) (k : ℤ) (before after after' : Slate) (old new new' : List ℕ) (r r' : Result Reply Refused)
      → AnswersAlone ws q k before after old new (answered r) → AnswersAlone ws q k before after' old new' (answered r') → (after ≡ after') × (new ≡ new') × (r ≡ r')
  -- every number of the list, and what is handed back
  pub card : (ws : Words) (n k : ℤ) (old new new' : List ℕ) (r r' : Result ℕ Refused) → Cards ws n k old new (carded r) → Cards ws n k old new' (carded r') → (new ≡ new') × (r ≡ r')
