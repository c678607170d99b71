-- What a granted call means, line by line; and what a call gives on a table that passes the check, where only its own lines are left. Assumes nothing.
use Prim.Native.Nat.{ℕ, ◌≤◌, ◌<◌}
use mathlib.Core.Path.{◌≡◌, refl, ap, ◌∙◌}
use mathlib.Core.Bool.{true, false, cond, not, ◌&&◌}
use mathlib.Core.List.{List, [], ◌∷◌, ◌++◌}
use lib.Dec.{eqb, ltb}
use lib.IntN.{ℤ}
use lib.ListN.{length}
use borrow.Author.Tests.{eqb-true, eq-eqb, leb-true, leb-false, ltb-true, ltb-false, le-ltb, not-false}
use Rattle.std.specs.Prelude.{Err}
use Rattle.words.specs.Word.{nat_of, on_grid}
use Rattle.grid.specs.declared.site.Site.{Site}
use Rattle.grid.proofs.Sites.{SiteOnGrid}
use Rattle.order.specs.Lists.{All}
use Rattle.order.proofs.Lists.{by_bool, and_left, and_right}
use Rattle.table.specs.declared.given.Refusal.TheVariants.{WrongLength, NoSuchNumber, OffGrid, NoSuchK, AlreadyEnrolled, Full, NotEnrolled, FewCandidates, ShortList}
use Rattle.figures.specs.Figures.{MOST, LENGTH, HIGHEST}
use Rattle.table.specs.Words.{Words, points_of, between}
use Rattle.table.specs.Stations.{stations}
use Rattle.limits.specs.Limits.{no_such_number, off_grid, no_such_k}
use Rattle.rules.specs.Rules.{well_formed, Passing}
use Rattle.table.specs.Given.{Done, Line, line, first_of}
use Rattle.audit.specs.Check.{wrong_length, malformed, check_gives, bad_at}
use Rattle.filter.specs.Query.{answers_found}
use Rattle.card.specs.Card.{names_for}
use Rattle.rules.proofs.Tests.{between_true}
use Rattle.refusals.specs.Refusals.{is_enrolled, is_full, enrol_gives, withdraw_gives, query_gives, card_gives}
use Rattle.refusals.proofs.Given.{passed_before, last_holds, all_passed}

-- ---- a line that is passed

right_length : (ws : Words) → wrong_length ws ≡ false → length ws ≡ LENGTH
right_length ws e = eqb-true (length ws) LENGTH (not-false (eqb (length ws) LENGTH) e)

pub record Within (a b n : ℕ) : Type 0 where
  pub least : a ≤ n
  pub most : n ≤ b

pub within : (a b n : ℕ) → not (between a b n) ≡ false → Within a b n
within a b n e =
    let h = between_true a b n (not-false (between a b n) e) in
    record { least = h.0; most = h.1 }

on_grid_lem : (q : Site) → off_grid q ≡ false → SiteOnGrid q
on_grid_lem q e =
    let h = not-false (on_grid q.x && on_grid q.y) e in
    record { x = and_left (on_grid q.x) (on_grid q.y) h; y = and_right (on_grid q.x) (on_grid q.y) h }

-- ---- the lines of each call

-- lines 1 and 2, and then others
abbrev checked : Words → List Line → List Line
checked ws ls = line (wrong_length ws) WrongLength ∷ line (malformed ws) (bad_at ws) ∷ ls

-- an enrolment's own, before the last
abbrev before_full : Words → ℤ → Site → List Line
before_full ws n p = line (no_such_number n) NoSuchNumber ∷ line (off_grid p) OffGrid ∷ line (is_enrolled ws n) AlreadyEnrolled ∷ []

-- and all of its own
abbrev pub enrol_lines : Words → ℤ → Site → List Line
enrol_lines ws n p = before_full ws n p ++ line (is_full ws) Full ∷ []

-- a withdrawal's
abbrev pub withdraw_lines : Words → ℤ → List Line
withdraw_lines ws n = line (no_such_number n) NoSuchNumber ∷ line (not (is_enrolled ws n)) NotEnrolled ∷ []

-- a query's that do not speak of room
abbrev pub query_lines : Site → ℤ → List Line → List Line
query_lines q k ls = line (off_grid q) OffGrid ∷ line (no_such_k k) NoSuchK ∷ ls

-- and those that do
abbrev few_candidates : Words → ℕ → Line
few_candidates ws room = line (ltb room (points_of ws)) FewCandidates

abbrev few_answers : Words → Site → ℤ → ℕ → Line
few_answers ws q k places = line (ltb places (length (answers_found ws q (nat_of k)))) ShortList

-- a card's before the last
abbrev before_short : Words → ℤ → ℤ → List Line
before_short ws n k = line (no_such_number n) NoSuchNumber ∷ line (no_such_k k) NoSuchK ∷ line (not (is_enrolled ws n)) NotEnrolled ∷ []

-- and the last
abbrev few_names : Words → ℤ → ℤ → ℕ → Line
few_names ws n k places = line (ltb places (length (names_for (stations ws) (nat_of n) (nat_of k)))) ShortList

-- ---- what a grant means

pub record EnrolGranted (ws : Words) (n : ℤ) (p : Site) : Type 0 where
  pub long : length ws ≡ LENGTH
  pub rules : well_formed ws ≡ true
  pub number : Within 1 HIGHEST (nat_of n)
  pub grid : SiteOnGrid p
  pub new : is_enrolled ws n ≡ false
  pub room : points_of ws < MOST

pub enrol_granted : (ws : Words) (n : ℤ) (p : Site) → enrol_gives ws n p ≡ Done → EnrolGranted ws n p
unfolding enrol_gives
enrol_granted ws n p e =
    let h = (passed_before Done (checked ws (enrol_lines ws n p)) [] refl e).0 in
    record {
      long = right_length ws h.0;
      rules = not-false (well_formed ws) h.1.0;
      number = within 1 HIGHEST (nat_of n) h.1.1.0;
      grid = on_grid_lem p h.1.1.1.0;
      new = h.1.1.1.1.0;
      room = leb-false MOST (points_of ws) h.1.1.1.1.1.0;
    }

pub record WithdrawGranted (ws : Words) (n : ℤ) : Type 0 where
  pub long : length ws ≡ LENGTH
  pub rules : well_formed ws ≡ true
  pub number : Within 1 HIGHEST (nat_of n)
  pub enrolled : is_enrolled ws n ≡ true

pub withdraw_granted : (ws : Words) (n : ℤ) → withdraw_gives ws n ≡ Done → WithdrawGranted ws n
unfolding withdraw_gives
withdraw_granted ws n e =
    let h = (passed_before Done (checked ws (withdraw_lines ws n)) [] refl e).0 in
    record {
      long = right_length ws h.0;
      rules = not-false (well_formed ws) h.1.0;
      number = within 1 HIGHEST (nat_of n) h.1.1.0;
      enrolled = not-false (is_enrolled ws n) h.1.1.1.0;
    }

-- a query passes all lines but the last
pub record QueryReady (ws : Words) (q : Site) (k : ℤ) (room : ℕ) : Type 0 where
  pub long : length ws ≡ LENGTH
  pub rules : well_formed ws ≡ true
  pub grid : SiteOnGrid q
  pub count : Within 1 16 (nat_of k)
  pub candidates : points_of ws ≤ room

abbrev ready_lines : Words → Site → ℤ → ℕ → List Line
ready_lines ws q k room = checked ws (query_lines q k (few_candidates ws room ∷ []))

query_ready : (ws : Words) (q : Site) (k : ℤ) (room : ℕ) → All (λ l. l.holds ≡ false) (ready_lines ws q k room) → QueryReady ws q k room
query_ready ws q k room h = record {
  long = right_length ws h.0;
  rules = not-false (well_formed ws) h.1.0;
  grid = on_grid_lem q h.1.1.0;
  count = within 1 16 (nat_of k) h.1.1.1.0;
  candidates = ltb-false room (points_of ws) h.1.1.1.1.0;
}

pub query_granted : (ws : Words) (q : Site) (k : ℤ) (room places : ℕ) → query_gives ws q k room places ≡ Done
    → QueryReady ws q k room × (length (answers_found ws q (nat_of k)) ≤ places)
unfolding query_gives
query_granted ws q k room places e =
    let ls = few_answers ws q k places ∷ [] in
    let h = passed_before Done (ready_lines ws q k room) ls refl e in
    let last = (passed_before Done ls [] refl h.1).0.0 in
    (query_ready ws q k room h.0, ltb-false places (length (answers_found ws q (nat_of k))) last)

-- a card passes all lines but the last
pub record CardReady (ws : Words) (n k : ℤ) : Type 0 where
  pub long : length ws ≡ LENGTH
  pub rules : well_formed ws ≡ true
  pub number : Within 1 HIGHEST (nat_of n)
  pub count : Within 1 16 (nat_of k)
  pub enrolled : is_enrolled ws n ≡ true

card_ready : (ws : Words) (n k : ℤ) → All (λ l. l.holds ≡ false) (checked ws (before_short ws n k)) → CardReady ws n k
card_ready ws n k h = record {
  long = right_length ws h.0;
  rules = not-false (well_formed ws) h.1.0;
  number = within 1 HIGHEST (nat_of n) h.1.1.0;
  count = within 1 16 (nat_of k) h.1.1.1.0;
  enrolled = not-false (is_enrolled ws n) h.1.1.1.1.0;
}

pub card_granted : (ws : Words) (n k : ℤ) (places : ℕ) → card_gives ws n k places ≡ Done
    → CardReady ws n k × (length (names_for (stations ws) (nat_of n) (nat_of k)) ≤ places)
unfolding card_gives
card_granted ws n k places e =
    let ls = few_names ws n k places ∷ [] in
    let h = passed_before Done (checked ws (before_short ws n k)) ls refl e in
    let last = (passed_before Done ls [] refl h.1).0.0 in
    (card_ready ws n k h.0, ltb-false places (length (names_for (stations ws) (nat_of n) (nat_of k))) last)

-- ---- what a refusal for room means

-- 7: the table has 500 points at least
pub full_points : (ws : Words) (n : ℤ) (p : Site) → enrol_gives ws n p ≡ Err Full → MOST ≤ points_of ws
unfolding enrol_gives
full_points ws n p e =
    let last = (passed_before (Err Full) (checked ws (before_full ws n p)) (line (is_full ws) Full ∷ []) refl e).1 in
    leb-true MOST (points_of ws) (last_holds (is_full ws) Full last)

-- 10: all is in order but for the answer list, which is shorter than n
pub query_short : (ws : Words) (q : Site) (k : ℤ) (room places : ℕ) → query_gives ws q k room places ≡ Err ShortList
    → QueryReady ws q k room × (places < length (answers_found ws q (nat_of k)))
unfolding query_gives
query_short ws q k room places e =
    let h = passed_before (Err ShortList) (ready_lines ws q k room) (few_answers ws q k places ∷ []) refl e in
    let last = last_holds (few_answers ws q k places).holds ShortList h.1 in
    (query_ready ws q k room h.0, ltb-true places (length (answers_found ws q (nat_of k))) last)

-- 10: all is in order but for the list, which is shorter than the card
pub card_short_lem : (ws : Words) (n k : ℤ) (places : ℕ) → card_gives ws n k places ≡ Err ShortList
    → CardReady ws n k × (places < length (names_for (stations ws) (nat_of n) (nat_of k)))
unfolding card_gives
card_short_lem ws n k places e =
    let h = passed_before (Err ShortList) (checked ws (before_short ws n k)) (few_names ws n k places ∷ []) refl e in
    let last = last_holds (few_names ws n k places).holds ShortList h.1 in
    (card_ready ws n k h.0, ltb-true places (length (names_for (stations ws) (nat_of n) (nat_of k))) last)

-- ---- on a table that passes the check

module _ {ws : Words} (passing : Passing ws) where
  no_wrong_length : wrong_length ws ≡ false
  no_wrong_length = ap not (eq-eqb (length ws) LENGTH passing.long)

  no_malformed : malformed ws ≡ false
  no_malformed = ap not passing.rules

  -- lines 1 and 2 are passed
  checked_passed : (ls : List Line) → first_of (checked ws ls) ≡ first_of ls
  checked_passed ls = rw (no_wrong_length, no_malformed)

  pub passing_check : check_gives ws ≡ Done
  unfolding check_gives
  passing_check = checked_passed []

  pub passing_enrol : (n : ℤ) (p : Site) → enrol_gives ws n p ≡ first_of (enrol_lines ws n p)
  unfolding enrol_gives
  passing_enrol n p = checked_passed (enrol_lines ws n p)

  pub passing_withdraw : (n : ℤ) → withdraw_gives ws n ≡ first_of (withdraw_lines ws n)
  unfolding withdraw_gives
  passing_withdraw n = checked_passed (withdraw_lines ws n)

  -- where neither list can be short
  pub passing_query : (q : Site) (k : ℤ) (room places : ℕ) → points_of ws ≤ room → (SiteOnGrid q → length (answers_found ws q (nat_of k)) ≤ places)
      → query_gives ws q k room places ≡ first_of (query_lines q k [])
  unfolding query_gives
  passing_query q k room places few fits =
      let rest = few_candidates ws room ∷ few_answers ws q k places ∷ [] in
      let enough : off_grid q ≡ false → first_of rest ≡ Done = λ e.
      all_passed rest (le-ltb room (points_of ws) few, (le-ltb places (length (answers_found ws q (nat_of k))) (fits (on_grid_lem q e)), tt)) in
      checked_passed (query_lines q k rest)
      ∙ by_bool (λ b. off_grid q ≡ b → cond b (Err OffGrid) (cond (no_such_k k) (Err NoSuchK) (first_of rest)) ≡ cond b (Err OffGrid) (cond (no_such_k k) (Err NoSuchK) Done)) (off_grid q)
      (λ t e. refl) (λ f e. ap (cond (no_such_k k) (Err NoSuchK)) (enough e)) refl
