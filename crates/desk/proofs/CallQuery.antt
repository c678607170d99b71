-- What a refused query leaves behind; and that a query's promise permits one outcome only. By the definition of a query. Assumes nothing.
use Prim.Native.Nat.{ℕ}
use mathlib.Core.Path.{◌≡◌, refl, sym, ap, ◌∙◌}
use mathlib.Core.List.{List}
use lib.IntN.{ℤ}
use lib.ListN.{length}
use Rattle.std.specs.Prelude.{Err}
use Rattle.limits.proofs.Refused.{if_refused}
use Rattle.grid.specs.declared.site.Site.{Site}
use Rattle.table.specs.declared.given.Refusal.TheVariants.{ShortList}
use Rattle.table.specs.Given.{Given, Done}
use Rattle.table.specs.Words.{Words}
use Rattle.filter.specs.Query.{Counts}
use Rattle.record.specs.declared.Candidate.{Candidate}
use Rattle.refusals.specs.Told.{Answered}
use Rattle.refusals.specs.Refusals.{query_gives}
use Rattle.desk.specs.Calls.{Queried, after_query}
use Rattle.desk.specs.Lent.{queried}
use Rattle.refusals.proofs.Given.{if_not_few}

-- ---- what a refusal leaves behind

pub queried_ext : {a b : Queried} → a.given ≡ b.given → a.counts ≡ b.counts → a.candidates ≡ b.candidates → a.answers ≡ b.answers → a ≡ b
queried_ext g c r o = λ i. record { given = g i; counts = c i; candidates = r i; answers = o i }

pub counts_ext : {a b : Counts} → a.n ≡ b.n → a.m ≡ b.m → a.o ≡ b.o → a ≡ b
counts_ext n m o = λ i. record { n = n i; m = m i; o = o i }

module _ (ws : Words) (q : Site) (k : ℤ) where
  pub after_refused : (cs : List Candidate) (out : List ℕ) {g : Given} → g ≡ query_gives ws q k (length cs) (length out) → (g ≡ Done → ⊥) → (g ≡ Err ShortList → ⊥)
      → queried (record { given = g; n = 0; m = 0; o = 0 }) cs out ≡ after_query ws q k cs out
  unfolding after_query
  after_refused cs out {g} e d f =
      rw (← e)
      (queried_ext refl (sym (if_refused g d _ _ ∙ if_not_few g f _ _)) (sym (if_refused g d _ _ ∙ if_not_few g f _ _)) (sym (if_refused g d _ _)))

-- ---- any two outcomes that the promise permits are equal

pub answered_ext : {r s : Answered} → r.given ≡ s.given → r.n ≡ s.n → r.m ≡ s.m → r.o ≡ s.o → r ≡ s
answered_ext g n m o = λ i. record { given = g i; n = n i; m = m i; o = o i }

pub answers_once : {t : Queried} {after after' : List Candidate} {new new' : List ℕ} {r r' : Answered} → queried r after new ≡ t → queried r' after' new' ≡ t
    → (after ≡ after') × (new ≡ new') × (r ≡ r')
answers_once {after = after} {after' = after'} {new = new} {new' = new'} {r = r} {r' = r'} a b =
    let e : queried r after new ≡ queried r' after' new' = a ∙ sym b in (
      ap (λ x. x.candidates) e,
      ap (λ x. x.answers) e,
      answered_ext (ap (λ x. x.given) e) (ap (λ x. x.counts.n) e) (ap (λ x. x.counts.m) e) (ap (λ x. x.counts.o) e),
    )
