-- A query whose candidate list nobody sees: what stood in the list decides neither what is given, nor the counts, nor the answers; and what it leaves on the slate. By the definition of a query. Assumes nothing.
use Prim.Native.Nat.{ℕ}
use mathlib.Core.Path.{◌≡◌, refl, sym, ap, ◌∙◌}
use mathlib.Core.Bool.{cond}
use mathlib.Core.List.{List}
use lib.Dec.{ltb}
use lib.IntN.{ℤ}
use lib.ListN.{length, length-replicate}
use Rattle.std.specs.Prelude.{Err}
use Rattle.limits.proofs.Refused.{if_refused}
use Rattle.words.specs.Word.{nat_of}
use Rattle.grid.specs.declared.site.Site.{Site}
use Rattle.order.proofs.Lists.{by_bool}
use Rattle.figures.specs.Figures.{MOST}
use Rattle.table.specs.declared.given.Refusal.TheVariants.{ShortList}
use Rattle.table.specs.Words.{Words}
use Rattle.table.specs.Given.{Given, Done, if_done}
use Rattle.filter.specs.Query.{Counts, records_found, answers_found, counts_of, laid_over}
use Rattle.record.specs.declared.Candidate.{Candidate}
use Rattle.record.specs.Blank.{none}
use Rattle.asking.specs.declared.answer.Reply.{Reply}
use Rattle.asking.specs.Slate.{Slate, slate_after}
use Rattle.asking.specs.Asked.{Replied}
use Rattle.listing.specs.Listed.{Listed}
use Rattle.refusals.specs.Refusals.{query_gives}
use Rattle.refusals.specs.Cases.{if_short_list}
use Rattle.refusals.specs.Told.{Answered, answered, told}
use Rattle.desk.specs.Calls.{Queried, after_query, zero_counts, only_n}
use Rattle.desk.specs.Lent.{queried, Answers}
use Rattle.desk.specs.Alone.{blank_list, slate_left, AnswersAlone, SameAnswers, AnyList}
use Rattle.refusals.proofs.Given.{if_not_few}
use Rattle.refusals.proofs.QueryOrder.{answers_told, query_early, not_few, query_late}
use Rattle.desk.proofs.CallQuery.{answered_ext}
use Rattle.desk.proofs.CallList.{list_refused, list_told}

pub any_list : AnyList
unfolding after_query
any_list ws q k cs ds old e =
    let counts = counts_of ws q (nat_of k) in
    let g : query_gives ws q k (length cs) (length old) ≡ query_gives ws q k (length ds) (length old) = ap (λ m. query_gives ws q k m (length old)) e in
    record {
      given = g;
      counts = ap (λ h. if_done h counts (if_short_list h (only_n counts) zero_counts)) g;
      answers = ap (λ h. if_done h (laid_over (answers_found ws q (nat_of k)) old) old) g;
    }

pub blank_long : length blank_list ≡ MOST
unfolding blank_list
blank_long = length-replicate {A = Candidate} MOST none

-- any list of 500 does
same_answers : (ws : Words) (q : Site) (k : ℤ) (before : List Candidate) {after : List Candidate} (old : List ℕ) {new : List ℕ} {r : Answered} → length before ≡ MOST
    → Answers ws q k before after old new r → SameAnswers (queried r blank_list new) (after_query ws q k blank_list old)
same_answers ws q k before old long a =
    let same = any_list ws q k before blank_list old (long ∙ sym blank_long) in
    record {
      given = ap (λ (t : Queried). t.given) a ∙ same.given;
      counts = ap (λ (t : Queried). t.counts) a ∙ same.counts;
      answers = ap (λ (t : Queried). t.answers) a ∙ same.answers;
    }

-- ---- with a slate

module _ (ws : Words) (q : Site) (k : ℤ) where
  -- a refusal before the answers are known leaves it
  pub alone_refused : (s : Slate) (old : List ℕ) {g : Given} → g ≡ query_gives ws q k MOST (answers_told ws q k) → (g ≡ Done → ⊥)
      → AnswersAlone ws q k s s old old (record { given = g; n = 0; m = 0; o = 0 })
  unfolding slate_left
  alone_refused s old {g} e refused =
      let same = same_answers ws q k blank_list old blank_long (list_refused ws q k blank_list old (rw blank_long e) refused) in
      let left : g ≡ query_gives ws q k MOST (length old) = query_early ws q k MOST e refused (length old) in
      record {
        given = same.given;
        counts = same.counts;
        answers = same.answers;
        slate = rw (← left) (sym (if_refused g refused _ _ ∙ if_not_few g (not_few ws q k MOST e) _ _));
      }

  -- the answer list decides, and either way the slate is written on
  pub alone_told : (before after : Slate) (old new : List ℕ) (reply : Reply) {g : Given} → g ≡ query_gives ws q k MOST (answers_told ws q k) → g ≡ Done
      → Replied ws q (nat_of k) before after old new reply → AnswersAlone ws q k before after old new (answered (told reply reply.n (length old)))
  unfolding slate_left
  alone_told before after old new reply e done r =
      let written = slate_after ws q (nat_of k) before in
      let list = laid_over (records_found ws q (nat_of k)) blank_list in
      let found : Listed ws q (nat_of k) blank_list list old new reply = record { n = r.n; m = r.m; o = r.o; candidates = refl; answers = r.answers } in
      let same = same_answers ws q k blank_list old blank_long (list_told ws q k blank_list list old new reply found (rw blank_long e) done) in
      record {
        given = same.given;
        counts = same.counts;
        answers = same.answers;
        slate = r.slate ∙ rw (query_late ws q k MOST e done (length old))
            (by_bool (λ b. written ≡ if_done (cond b (Err ShortList) Done) written (if_short_list (cond b (Err ShortList) Done) written before)) (ltb (length old) (answers_told ws q k)) (λ _. refl) (λ _. refl));
      }

-- any two outcomes that the promise permits are equal
pub alone_once : {ws : Words} {q : Site} {k : ℤ} {before after after' : Slate} {old new new' : List ℕ} {r r' : Answered}
    → AnswersAlone ws q k before after old new r → AnswersAlone ws q k before after' old new' r' → (after ≡ after') × (new ≡ new') × (r ≡ r')
alone_once {r = r} {r' = r'} a b =
    let c : ◌≡◌ {A = Counts} (record { n = r.n; m = r.m; o = r.o }) (record { n = r'.n; m = r'.m; o = r'.o }) = a.counts ∙ sym b.counts in (
      a.slate ∙ sym b.slate,
      a.answers ∙ sym b.answers,
      answered_ext (a.given ∙ sym b.given) (ap (λ x. x.n) c) (ap (λ x. x.m) c) (ap (λ x. x.o) c),
    )
