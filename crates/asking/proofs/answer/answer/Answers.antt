-- `asking::answer::answer` meets its contract: the walk, the final test of its candidates, and the answers, by the laws of `proofs/Outcome.antt`. Assumes nothing.
use Rattle.std.proofs.Common.{rules}
use Prim.Native.Nat.{ℕ}
use mathlib.Core.Path.{◌≡◌, subst}
use mathlib.Core.List.{List}
use Rattle.grid.proofs.Sites.{SiteOnGrid}
use Rattle.asking.specs.Slate.{Slate, slate, slate_of}
use Rattle.asking.specs.Asked.{Replied}
use Rattle.asking.proofs.Outcome.{keepable, replies}
use Rattle.asking.proofs.answer.answer.Goals as goal

-- rows that hold the same make the same slate
rows_same : {ns ns' xs xs' ys ys' bs bs' : List ℕ} (ks : List ℕ) → ns ≡ ns' → xs ≡ xs' → ys ≡ ys' → bs ≡ bs' → slate ns xs ys bs ks ≡ slate ns' xs' ys' bs' ks
rows_same ks n x y b = λ i. slate (n i) (x i) (y i) (b i) ks

pub keep_passing-n-requires : goal.keep_passing-n-requires
keep_passing-n-requires c =
    let a = c.args in
    let g : SiteOnGrid a.q = record { x = c.requires.x; y = c.requires.y } in
    rw (c.from-place.ensures, c.candidates-found.ensures) (keepable c.requires.table _ g a.k c.requires.room.noted c.find-seen.ensures.noted _ c.requires.room.kept)

-- what the walk left in the rows stands on the slate
pub returns-clause-replied : goal.returns-clause-replied
returns-clause-replied c =
    let a = c.args in
    let g : SiteOnGrid a.q = record { x = c.requires.x; y = c.requires.y } in
    let r = c.keep_passing-n.ensures in
    let t = c.put_answers.ensures in
    let noted = replies c.requires.table _ g a.k c.requires.room.noted c.find-seen.ensures.noted _ _ _ (rw (c.from-place.ensures, c.candidates-found.ensures) at r.count) (rw (c.from-place.ensures, c.candidates-found.ensures) at r.list) (rw c.kept.ensures at t.reply) (rw c.kept.ensures at t.list) in
    subst (λ (s : Slate). Replied a.table.now a.q a.k (slate_of a.slate.now) s a.answers.now c.put_answers.new.answers c.put_answers.result)
    (rows_same _ (search rules) (search rules) (search rules) (search rules)) noted
