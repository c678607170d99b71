-- 02 §4: each library call passes on the rule and the slot. What it gives with the number 2 is, word for word, what the check gives of the table.
use Rattle.std.specs.Prelude.{ℕ, ◌≡◌, List, ℤ}
use Rattle.grid.specs.declared.site.Site.{Site}
use Rattle.record.specs.declared.Candidate.{Candidate}
use Rattle.table.specs.Given.{Given, number_given}
use Rattle.table.specs.Words.{Words}
use Rattle.audit.specs.Check.{check_gives}
use Rattle.refusals.specs.Refusals.{enrol_gives, withdraw_gives}
use Rattle.desk.specs.Calls.{after_query, after_card}

abbrev pub Passes2 : Words → Given → Type 0
Passes2 ws g = number_given g ≡ 2 → g ≡ check_gives ws

pub record PassedOn : Type 0 where
  pub enrol : (ws : Words) (n : ℤ) (p : Site) → Passes2 ws (enrol_gives ws n p)
  pub withdraw : (ws : Words) (n : ℤ) → Passes2 ws (withdraw_gives ws n)
  pub query : (ws : Words) (q : Site) (k : ℤ) (cs : List Candidate) (out : List ℕ) → Passes2 ws (after_query ws q k cs out).given
  pub card : (ws : Words) (n k : ℤ) (list : List ℕ) → Passes2 ws (after_card ws n k list).given
