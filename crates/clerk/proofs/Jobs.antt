-- What each job leaves behind, from what the desk's call promises and the line that is laid. Assumes nothing.
use Prim.Native.Nat.{ℕ, ◌≤◌}
use mathlib.Core.Path.{◌≡◌, refl, sym, ap, subst, ◌∙◌}
use mathlib.Core.List.{List, [], ◌∷◌}
use native.Mathlib.Omega.{arith}
use lib.IntN.{ℤ}
use lib.ListN.{length, take}
use lib.Seq.{length-take-le}
use mir.Syntax.{w32}
use mir.Val.{SFits}
use Rattle.std.specs.Prelude.{Ok, Err}
use Rattle.limits.proofs.CallTests.{back, one_back, two_back, three_back, one_passed, three_passed}
use Rattle.grid.specs.declared.site.Site.{Site}
use Rattle.grid.specs.Site.{site}
use Rattle.table.specs.Words.{Words}
use Rattle.table.specs.Given.{Given, Done, number_given, if_done}
use Rattle.table.specs.Stations.{stations}
use Rattle.filter.specs.Query.{answers_found}
use Rattle.card.specs.Card.{names_for}
use Rattle.words.specs.Word.{nat_of}
use Rattle.asking.specs.Slate.{Slate}
use Rattle.asking.specs.declared.answer.Reply.{Reply}
use Rattle.refusals.specs.declared.answered.Refused.{Refused}
use Rattle.refusals.specs.Told.{Answered, answered, Carded, carded}
use Rattle.refusals.specs.Refusals.{enrol_gives, withdraw_gives, query_gives, card_gives}
use Rattle.desk.specs.Calls.{after_enrol, after_withdraw, Queried, after_query, after_card}
use Rattle.desk.specs.Lent.{queried}
use Rattle.desk.specs.Alone.{blank_list, AnswersAlone}
use Rattle.desk.specs.Carding.{Cards}
use Rattle.desk.proofs.Granted.{query_granted, card_granted}
use Rattle.desk.proofs.CallQuery.{queried_ext}
use Rattle.sheet.specs.Bytes.{Bytes}
use Rattle.jobs.specs.declared.job.Job.{Job}
use Rattle.jobs.specs.declared.job.Job.TheVariants.{Enrol, Withdraw, Query, Card, MissingK, Misshapen}
use Rattle.jobs.specs.Job.{ENROL, WITHDRAW, QUERY, CARD, job_of}
use Rattle.slip.specs.Output.{letter_of, output_line, Laid}
use Rattle.clerk.specs.Sheet.{State, Ran, ran_job, ran_line, line_output}
use Rattle.clerk.specs.Sheet as ran
use Rattle.clerk.specs.Running.{lent, job_output, RanJob, RanOne, slate_of_job}

-- ---- a line, by its job

pub line_ran : {number : ℕ} {line : Bytes} {job : Job} {before after : State} {out : Bytes} {at : ℕ} {left : Bytes} {next : ℕ}
    → job ≡ job_of line → RanJob number job before after out at left next → RanOne number line before after out at left next
unfolding ran_line line_output job_output
line_ran {number} {line} {job} {before} {after} {out} {at} {left} {next} e r =
    let s : RanJob number (job_of line) before after out at left next = subst (λ j. RanJob number j before after out at left next) e r in
    record { state = s.state; laid = s.laid }

-- by a callee that was passed the job's numbers
module _ {number : ℕ} {before after : State} {out : Bytes} {at : ℕ} {left : Bytes} {next : ℕ} where
  pub query_back : (x y k : ℤ) → SFits w32 x → SFits w32 y → SFits w32 k → RanJob number (Query (back x) (back y) (back k)) before after out at left next
      → RanJob number (Query x y k) before after out at left next
  query_back x y k a b d r = three_back (λ u v w. RanJob number (Query u v w) before after out at left next) x y k a b d r

  pub card_back : (n k : ℤ) → SFits w32 n → SFits w32 k → RanJob number (Card (back n) (back k)) before after out at left next
      → RanJob number (Card n k) before after out at left next
  card_back n k a b r = two_back (λ u v. RanJob number (Card u v) before after out at left next) n k a b r

-- the slate after it
pub line_slate : (line : Bytes) (st : State) (s : Slate) {job : Job} {t : Slate} → job ≡ job_of line → t ≡ slate_of_job st job s → t ≡ slate_of_job st (job_of line) s
line_slate line st s {t = t} e h = subst (λ j. t ≡ slate_of_job st j s) e h

-- ---- jobs that leave the answer list

module _ {number : ℕ} {ws us : Words} {ns : List ℕ} {out : Bytes} {at : ℕ} {left : Bytes} {next : ℕ} {g : Given} {b : ℕ} (e : b ≡ number_given g) where
  -- the callee was passed the job's numbers
  pub enrol_ran : (n x y : ℤ) → SFits w32 n → SFits w32 x → SFits w32 y → g ≡ enrol_gives ws (back n) (site (back x) (back y)) → us ≡ after_enrol ws (back n) (site (back x) (back y))
      → Laid out at (output_line number ENROL b []) left next
      → RanJob number (Enrol n x y) (lent ws ns) (lent us ns) out at left next
  unfolding job_output
  enrol_ran n x y f h i given words laid = record {
    state = ap (λ vs. lent vs ns) (three_passed (λ u v w. after_enrol ws u (site v w)) n x y f h i words);
    laid = subst (λ k. Laid out at (output_line number ENROL (number_given k) []) left next) (three_passed (λ u v w. enrol_gives ws u (site v w)) n x y f h i given) (rw (← e) laid);
  }

  pub withdraw_ran : (n : ℤ) → SFits w32 n → g ≡ withdraw_gives ws (back n) → us ≡ after_withdraw ws (back n)
      → Laid out at (output_line number WITHDRAW b []) left next
      → RanJob number (Withdraw n) (lent ws ns) (lent us ns) out at left next
  unfolding job_output
  withdraw_ran n f given words laid = record {
    state = ap (λ vs. lent vs ns) (one_passed (after_withdraw ws) n f words);
    laid = subst (λ k. Laid out at (output_line number WITHDRAW (number_given k) []) left next) (one_passed (withdraw_gives ws) n f given) (rw (← e) laid);
  }

module _ {number : ℕ} {l : State} {out : Bytes} {at : ℕ} {left : Bytes} {next : ℕ} {b : ℕ} where
  pub missing_ran : (letter : ℕ) → b ≡ 5 → Laid out at (output_line number letter b []) left next → RanJob number (MissingK letter) l l out at left next
  unfolding job_output
  missing_ran letter e h = record { state = refl; laid = rw (← e) h }

  pub misshapen_ran : b ≡ 11 → Laid out at (output_line number 63 b []) left next → RanJob number Misshapen l l out at left next
  unfolding job_output
  misshapen_ran e h = record { state = refl; laid = rw (← e) h }

-- ---- jobs that leave the table and list: a query, a card

-- what such a job comes to: what is given back, the list, and the further numbers of a granted one, which lists so many
record Lists (job : Job) (ws : Words) (old new : List ℕ) (g : Given) (n : ℕ) (more : List ℕ) : Type 0 where
  said : ◌≡◌ {A = Ran} (record { state = lent ws new; given = g; more = if_done g more [] }) (ran_job (lent ws old) job)
  -- the list has room for them
  room : g ≡ Done → n ≤ length old

module _ {number : ℕ} {job : Job} {ws : Words} {old new : List ℕ} {g : Given} {n : ℕ} {more : List ℕ} {out : Bytes} {at : ℕ} {left : Bytes} {next : ℕ}
    (lists : Lists job ws old new g n more) where
  list_ran : (b : ℕ) (ms : List ℕ) → b ≡ number_given g → ms ≡ if_done g more [] → Laid out at (output_line number (letter_of job) b ms) left next
      → RanJob number job (lent ws old) (lent ws new) out at left next
  unfolding job_output
  list_ran b ms e m h = record {
    state = ap (λ r. r.state) lists.said;
    laid = subst (λ r. Laid out at (output_line number (letter_of job) (number_given r.given) r.more) left next) lists.said (rw (← e, ← m) h);
  }

-- ---- a query

module _ {ws : Words} {q : Site} {k : ℤ} {s t : Slate} {old new : List ℕ} where
  module _ {r : Answered} (told : AnswersAlone ws q k s t old new r) where
    abbrev asked : Queried
    asked = after_query ws q k blank_list old

    -- what is told, with the candidate list that nobody sees
    says : queried r asked.candidates new ≡ asked
    says = queried_ext told.given told.counts refl told.answers

    answers_fit : r.given ≡ Done → r.n ≤ length old
    unfolding after_query
    answers_fit d =
        let g = query_gives ws q k (length blank_list) (length old) in
        let e : g ≡ Done = sym told.given ∙ d in
        let n : r.n ≡ length (answers_found ws q (nat_of k)) = ap (λ t. t.n) told.counts ∙ rw e in
        omega (arith, (query_granted ws q k (length blank_list) (length old) e).1)

    query_lists : Lists (Query q.x q.y k) ws old new r.given r.n (r.n ∷ r.m ∷ r.o ∷ take r.n new)
    query_lists = record { said = ap (ran.queried (lent ws old)) says; room = answers_fit }

  -- by the callee, which was passed k
  module _ (fits : SFits w32 k) where
    asked_of : {r : Answered} → AnswersAlone ws q (back k) s t old new r → Lists (Query q.x q.y k) ws old new r.given r.n (r.n ∷ r.m ∷ r.o ∷ take r.n new)
    asked_of {r} told = query_lists (one_back (λ v. AnswersAlone ws q v s t old new r) k fits told)

    pub answers_room : (r : Reply) → AnswersAlone ws q (back k) s t old new (answered (Ok r)) → r.n ≤ length old
    answers_room r told = (asked_of told).room refl

    pub answers_ran : {number : ℕ} {out : Bytes} {at : ℕ} {left : Bytes} {next : ℕ} (r : Reply) → AnswersAlone ws q (back k) s t old new (answered (Ok r)) → length new ≡ length old
        → Laid out at (output_line number QUERY 0 (length (take r.n new) ∷ r.m ∷ r.o ∷ take r.n new)) left next
        → RanJob number (Query q.x q.y k) (lent ws old) (lent ws new) out at left next
    answers_ran r told same laid =
        let n : length (take r.n new) ≡ r.n = length-take-le r.n new (omega (arith, answers_room r told)) in
        list_ran (asked_of told) 0 _ refl (ap (λ i. i ∷ r.m ∷ r.o ∷ take r.n new) n) laid

    pub query_refused_ran : {number : ℕ} {out : Bytes} {at : ℕ} {left : Bytes} {next : ℕ} {b : ℕ} (e : Refused) → AnswersAlone ws q (back k) s t old new (answered (Err e))
        → b ≡ number_given (Err e.why) → Laid out at (output_line number QUERY b []) left next
        → RanJob number (Query q.x q.y k) (lent ws old) (lent ws new) out at left next
    query_refused_ran {b = b} e told given laid = list_ran (asked_of told) b [] given refl laid

-- ---- a card

module _ (ws : Words) (n k : ℤ) (old new : List ℕ) where
  module _ (r : Carded) (told : Cards ws n k old new r) where
    names_fit : r.given ≡ Done → r.names ≤ length old
    unfolding after_card
    names_fit d =
        let g = card_gives ws n k (length old) in
        let e : g ≡ Done = sym (ap (λ l. l.given) told) ∙ d in
        let m : r.names ≡ length (names_for (stations ws) (nat_of n) (nat_of k)) = ap (λ l. l.names) told ∙ rw e in
        omega (arith, (card_granted ws n k (length old) e).1)

    card_lists : Lists (Card n k) ws old new r.given r.names (r.names ∷ take r.names new)
    card_lists = record { said = ap (ran.carded (lent ws old)) told; room = names_fit }

  -- by the callee, which was passed n and k
  module _ (f : SFits w32 n) (h : SFits w32 k) where
    named_of : (r : Carded) → Cards ws (back n) (back k) old new r → Lists (Card n k) ws old new r.given r.names (r.names ∷ take r.names new)
    named_of r told = card_lists r (two_back (λ u v. Cards ws u v old new r) n k f h told)

    pub names_room : (names : ℕ) → Cards ws (back n) (back k) old new (carded (Ok names)) → names ≤ length old
    names_room names told = (named_of _ told).room refl

    pub names_ran : {number : ℕ} {out : Bytes} {at : ℕ} {left : Bytes} {next : ℕ} (names : ℕ) → Cards ws (back n) (back k) old new (carded (Ok names)) → length new ≡ length old
        → Laid out at (output_line number CARD 0 (length (take names new) ∷ take names new)) left next
        → RanJob number (Card n k) (lent ws old) (lent ws new) out at left next
    names_ran names told same laid =
        let m : length (take names new) ≡ names = length-take-le names new (omega (arith, names_room names told)) in
        list_ran (named_of _ told) 0 _ refl (ap (λ i. i ∷ take names new) m) laid

    pub card_refused_ran : {number : ℕ} {out : Bytes} {at : ℕ} {left : Bytes} {next : ℕ} {b : ℕ} (e : Refused) → Cards ws (back n) (back k) old new (carded (Err e))
        → b ≡ number_given (Err e.why) → Laid out at (output_line number CARD b []) left next
        → RanJob number (Card n k) (lent ws old) (lent ws new) out at left next
    card_refused_ran {b = b} e told given laid = list_ran (named_of _ told) b [] given refl laid
