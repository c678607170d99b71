-- Each call passes on what the check gives: after the lines of the table itself no line gives 2. By the order of the lines. Assumes nothing.
use native.Mathlib.Omega.{arith}
use mathlib.Core.Path.{◌≡◌, refl, sym, ap, ◌∙◌}
use mathlib.Core.Bool.{Bool, true, false, not, cond, false≢true}
use mathlib.Core.List.{List, [], ◌∷◌}
use borrow.Author.Tests.{eq-eqb}
use lib.Dec.{eqb}
use lib.ListN.{length, drop}
use Rattle.std.specs.Prelude.{Err}
use Rattle.order.specs.Lists.{every}
use Rattle.order.proofs.Lists.{by_bool, and_left, and_right}
use Rattle.table.specs.declared.given.Refusal.TheVariants.{WrongLength}
use Rattle.table.specs.Given.{Given, Done, number_given, Line, first_of}
use Rattle.audit.specs.Check.{wrong_length, malformed, bad_at, check_gives}
use Rattle.refusals.specs.Refusals.{enrol_lines, enrol_gives, withdraw_lines, withdraw_gives, query_lines, query_gives, card_lines, card_gives}
use Rattle.desk.specs.Calls.{after_query, after_card}
use Rattle.desk.specs.PassedOn.{PassedOn}

-- a line that does not give 2
abbrev other : Line → Bool
other l = not (eqb (number_given l.gives) 2)

-- of such lines none is given with 2
not_two : (ls : List Line) → every other ls ≡ true → number_given (first_of ls) ≡ 2 → ⊥
not_two [] o e = omega arith
not_two (l ∷ ls) o e =
    by_bool (λ b. number_given (cond b l.gives (first_of ls)) ≡ 2 → ⊥) l.holds
    (λ h d. let same : other l ≡ false = ap not (eq-eqb (number_given l.gives) 2 d) in false≢true (sym same ∙ and_left (other l) (every other ls) o))
    (λ h d. not_two ls (and_right (other l) (every other ls) o) d) e

-- the lines of the table itself, and such lines behind them
of_check : (a b : Bool) (bad : Given) (ls : List Line) → every other ls ≡ true → number_given (cond a (Err WrongLength) (cond b bad (first_of ls))) ≡ 2
    → cond a (Err WrongLength) (cond b bad (first_of ls)) ≡ cond a (Err WrongLength) (cond b bad Done)
of_check true b bad ls o e = refl
of_check false true bad ls o e = refl
of_check false false bad ls o e = absurd (not_two ls o e)

pub passed_on : PassedOn
unfolding check_gives enrol_gives withdraw_gives query_gives card_gives after_query after_card
passed_on = record {
  enrol = λ ws n p. of_check (wrong_length ws) (malformed ws) (Err (bad_at ws)) (drop 2 (enrol_lines ws n p)) refl;
  withdraw = λ ws n. of_check (wrong_length ws) (malformed ws) (Err (bad_at ws)) (drop 2 (withdraw_lines ws n)) refl;
  query = λ ws q k cs out. of_check (wrong_length ws) (malformed ws) (Err (bad_at ws)) (drop 2 (query_lines ws q k (length cs) (length out))) refl;
  card = λ ws n k list. of_check (wrong_length ws) (malformed ws) (Err (bad_at ws)) (drop 2 (card_lines ws n k (length list))) refl;
}
