-- `listing::listed::answer_listed` meets its contract: the rows that the query left are read back as records, which go to the front of the list. Assumes nothing.
use Rattle.std.proofs.Common.{arith, rules}
use Prim.Native.Nat.{ℕ}
use mathlib.Core.Path.{◌≡◌, sym, ap, subst, ◌∙◌}
use mathlib.Core.List.{List}
use lib.ListN.{length}
use Rattle.grid.specs.declared.site.Site.{Site}
use Rattle.grid.proofs.Sites.{SiteOnGrid}
use Rattle.table.specs.Words.{Words, points_of}
use Rattle.rules.specs.Rules.{Passing}
use Rattle.filter.specs.Query.{laid_over}
use Rattle.filter.specs.Rows.{rows}
use Rattle.record.specs.declared.Candidate.{Candidate}
use Rattle.asking.specs.declared.answer.Reply.{Reply}
use Rattle.asking.specs.Slate.{Slate, Wide}
use Rattle.asking.specs.Asked.{Replied}
use Rattle.listing.specs.Records.{candidates_in, Readable}
use Rattle.listing.proofs.Outcome.{readable, listed_few, lists}
use Rattle.asking.proofs.Outcome.{points_most}
use Rattle.listing.proofs.listed.answer_listed.Goals as goal

-- rows of 500 places are wide enough for any table
wide : {ws : Words} (t : Passing ws) (ns xs ys bs ks : List ℕ) → length ns ≡ 500 → length xs ≡ 500 → length ys ≡ 500 → length bs ≡ 500 → length ks ≡ 500
    → Wide (points_of ws) (record { noted = rows ns xs ys bs; kept = ks })
wide t ns xs ys bs ks n x y b k =
    let h = points_most t in
    record {
      noted = record { numbers = omega (arith, h, n); xs = omega (arith, h, x); ys = omega (arith, h, y); bars = omega (arith, h, b) };
      kept = omega (arith, h, k);
    }

pub answer-reply-requires : goal.answer-reply-requires
answer-reply-requires c = record {
  table = c.requires.table;
  x = c.requires.x;
  y = c.requires.y;
  room = wide c.requires.table _ _ _ _ _ (search rules) (search rules) (search rules) (search rules) (search rules);
}

-- so is the slate that a query was answered on
was_wide : {ws : Words} (t : Passing ws) {q : Site} {k : ℕ} {ns xs ys bs ks : List ℕ} {after : Slate} {old new : List ℕ} {r : Reply}
    → Replied ws q k (record { noted = rows ns xs ys bs; kept = ks }) after old new r
    → length ns ≡ 500 → length xs ≡ 500 → length ys ≡ 500 → length bs ≡ 500 → length ks ≡ 500 → Wide (points_of ws) (record { noted = rows ns xs ys bs; kept = ks })
was_wide t {ns = ns} {xs = xs} {ys = ys} {bs = bs} {ks = ks} answered = wide t ns xs ys bs ks

-- rows that hold the same are read back alike
module _ (q : Site) (m : ℕ) {ns ns' xs xs' ys ys' : List ℕ} (n : ns ≡ ns') (x : xs ≡ xs') (y : ys ≡ ys') where
  readable_in : Readable q ns xs ys m → Readable q ns' xs' ys' m
  readable_in r = subst (λ (l : List ℕ). Readable q l xs' ys' m) n (subst (λ (l : List ℕ). Readable q ns l ys' m) x (subst (λ (l : List ℕ). Readable q ns xs l m) y r))

  made_in : candidates_in q ns' xs' ys' m ≡ candidates_in q ns xs ys m
  made_in = sym (λ i. candidates_in q (n i) (x i) (y i) m)

-- what the query left on the slate stands in the rows that were lent to it
pub hand_over-requires : goal.hand_over-requires
hand_over-requires c =
    let a = c.args in
    let t = c.requires.table in
    let grid : SiteOnGrid a.q = record { x = c.requires.x; y = c.requires.y } in
    let answered = c.answer-reply.ensures.replied in
    let w = was_wide t answered (search rules) (search rules) (search rules) (search rules) (search rules) in
    (readable_in _ _ (search rules) (search rules) (search rules) (readable t _ grid a.k w answered), omega (arith, listed_few t _ grid a.k w answered, c.requires.room))

pub returns : goal.returns
returns c =
    let a = c.args in
    let t = c.requires.table in
    let grid : SiteOnGrid a.q = record { x = c.requires.x; y = c.requires.y } in
    let answered = c.answer-reply.ensures.replied in
    let w = was_wide t answered (search rules) (search rules) (search rules) (search rules) (search rules) in
    lists t _ grid a.k w answered a.list.now c.hand_over.new.list
    (c.hand_over.ensures ∙ ap (λ (l : List Candidate). laid_over l a.list.now) (made_in a.q c.answer-reply.result.m (search rules) (search rules) (search rules)))
