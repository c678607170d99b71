-- What an enrolment or a withdrawal leaves behind: a refusal leaves the table. By the definition of each. Assumes nothing.
use mathlib.Core.Path.{◌≡◌, sym, ◌∙◌}
use lib.IntN.{ℤ}
use Rattle.limits.proofs.Refused.{if_refused}
use Rattle.words.specs.Word.{nat_of}
use Rattle.grid.specs.declared.site.Site.{Site}
use Rattle.table.specs.Given.{Given, Done}
use Rattle.table.specs.Words.{Words}
use Rattle.joining.specs.Enrol.{enrolled}
use Rattle.leaving.specs.Withdraw.{withdrawn}
use Rattle.refusals.specs.Refusals.{enrol_gives, withdraw_gives}
use Rattle.desk.specs.Calls.{point_entry, after_enrol, after_withdraw}

module _ (ws : Words) (n : ℤ) (p : Site) {g : Given} (e : g ≡ enrol_gives ws n p) where
  pub enrol_refused_lem : (g ≡ Done → ⊥) → ws ≡ after_enrol ws n p
  unfolding after_enrol
  enrol_refused_lem d = sym (if_refused (enrol_gives ws n p) (λ h. d (e ∙ h)) (enrolled ws (point_entry n p)) ws)

  pub enrol_done : g ≡ Done → enrolled ws (point_entry n p) ≡ after_enrol ws n p
  unfolding after_enrol
  enrol_done d = rw (sym e ∙ d)

module _ (ws : Words) (n : ℤ) {g : Given} (e : g ≡ withdraw_gives ws n) where
  pub withdraw_refused_lem : (g ≡ Done → ⊥) → ws ≡ after_withdraw ws n
  unfolding after_withdraw
  withdraw_refused_lem d = sym (if_refused (withdraw_gives ws n) (λ h. d (e ∙ h)) (withdrawn ws (nat_of n)) ws)

  pub withdraw_done : g ≡ Done → withdrawn ws (nat_of n) ≡ after_withdraw ws n
  unfolding after_withdraw
  withdraw_done d = rw (sym e ∙ d)
