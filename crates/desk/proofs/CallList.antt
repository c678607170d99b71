-- What each answer to a query leaves behind. By the lines of a query. Assumes nothing.
use Prim.Native.Nat.{ℕ, ◌≤◌, ◌<◌}
use native.Mathlib.Omega.{arith}
use native.Mathlib.Decide.{dec_lt}
use mathlib.Core.Path.{◌≡◌, refl, sym, ap, ◌∙◌}
use mathlib.Core.Bool.{cond}
use mathlib.Core.List.{List}
use lib.Dec.{ltb}
use lib.IntN.{ℤ}
use lib.ListN.{length}
use borrow.Author.Tests.{lt-ltb, le-ltb, le-leb, lt-leb}
use Rattle.std.specs.Prelude.{Ok, Err}
use Rattle.words.specs.Word.{nat_of}
use Rattle.grid.specs.declared.site.Site.{Site}
use Rattle.order.proofs.Lists.{by_leb}
use Rattle.table.specs.declared.given.Refusal.TheVariants.{ShortList}
use Rattle.table.specs.Given.{Given, Done}
use Rattle.table.specs.Words.{Words}
use Rattle.filter.specs.Query.{answers_found, laid_over}
use Rattle.filter.proofs.RowLaws.{laid_length}
use Rattle.asking.specs.declared.answer.Reply.{Reply}
use Rattle.record.specs.declared.Candidate.{Candidate}
use Rattle.listing.specs.Listed.{Listed}
use Rattle.refusals.specs.Refusals.{query_gives}
use Rattle.desk.specs.Calls.{after_query}
use Rattle.refusals.specs.Told.{answered, told}
use Rattle.desk.specs.Lent.{Answers}
use Rattle.refusals.proofs.QueryOrder.{answers_told, query_early, not_few, query_late}
use Rattle.desk.proofs.CallQuery.{after_refused, queried_ext, counts_ext}

module _ (ws : Words) (q : Site) (k : ℤ) where
  -- a refusal before the answers are known
  pub list_refused : (cs : List Candidate) (out : List ℕ) {g : Given} → g ≡ query_gives ws q k (length cs) (answers_told ws q k) → (g ≡ Done → ⊥)
      → Answers ws q k cs cs out out (record { given = g; n = 0; m = 0; o = 0 })
  list_refused cs out e d = after_refused ws q k cs out (query_early ws q k (length cs) e d (length out)) d (not_few ws q k (length cs) e)

  module _ (before after : List Candidate) (old new : List ℕ) (reply : Reply) (r : Listed ws q (nat_of k) before after old new reply)
      {g : Given} (e : g ≡ query_gives ws q k (length before) (answers_told ws q k)) (done : g ≡ Done) where
    last : query_gives ws q k (length before) (length old) ≡ cond (ltb (length old) reply.n) (Err ShortList) Done
    last =
        query_late ws q k (length before) e done (length old)
        ∙ ap (λ m. cond (ltb (length old) m) (Err ShortList) Done) (sym r.n)

    -- the answer list is as long as it was
    new_length : length new ≡ length old
    new_length =
        let found = answers_found ws q (nat_of k) in
        ap length r.answers
        ∙ by_leb (λ b. length (cond b (laid_over found old) old) ≡ length old) (length found) (length old) (λ h. laid_length found old h) (λ h. refl)

    -- one that is too short stays, and m and o are not told
    list_few : length new < reply.n → Answers ws q k before after old new (answered (Err (record { why = ShortList; length = reply.n })))
    unfolding after_query
    list_few short =
        let h : query_gives ws q k (length before) (length old) ≡ Err ShortList = last ∙ rw (lt-ltb (length old) reply.n (omega (arith, new_length))) in
        let kept : new ≡ old = r.answers ∙ rw (lt-leb (answers_told ws q k) (length old) (omega (arith, new_length, r.n))) in
        rw h (queried_ext refl (counts_ext r.n refl refl) r.candidates kept)

    list_done : reply.n ≤ length new → Answers ws q k before after old new (answered (Ok reply))
    unfolding after_query
    list_done enough =
        let h : query_gives ws q k (length before) (length old) ≡ Done = last ∙ rw (le-ltb (length old) reply.n (omega (arith, new_length))) in
        let laid : new ≡ laid_over (answers_found ws q (nat_of k)) old =
        r.answers ∙ rw (le-leb (answers_told ws q k) (length old) (omega (arith, new_length, r.n))) in
        rw h (queried_ext refl (counts_ext r.n r.m r.o) r.candidates laid)

    pub list_told : Answers ws q k before after old new (answered (told reply reply.n (length old)))
    list_told = go (dec_lt (length new) reply.n)
      where
        go : Dec (length new < reply.n) → Answers ws q k before after old new (answered (told reply reply.n (length old)))
        go (yes l) = rw (lt-ltb (length old) reply.n (omega (arith, new_length))) (list_few l)
        go (no l) =
            let h : reply.n ≤ length new = omega arith in
            rw (le-ltb (length old) reply.n (omega (arith, new_length))) (list_done h)
