-- `answers::answers_passing` meets its contract: a refusal leaves the slate, and the answer list decides last. Assumes nothing.
use Prim.Native.Nat.{ℕ, ◌≤◌}
use native.Mathlib.Omega.{arith}
use mathlib.Core.Path.{refl, sym, ap, subst, ◌∙◌}
use Rattle.std.specs.Prelude.{Result}
use Rattle.words.proofs.Machine.{natural_passed}
use Rattle.figures.specs.Figures.{MOST}
use Rattle.rules.specs.Rules.{Passing}
use Rattle.filter.proofs.Turns.{room_less}
use Rattle.asking.specs.declared.answer.Reply.{Reply}
use Rattle.asking.specs.Slate.{Slate, slate_of, Wide}
use Rattle.asking.specs.Asked.{Replied}
use Rattle.limits.proofs.CallTests.{one_passed}
use Rattle.limits.proofs.Refused.{not_done}
use Rattle.refusals.specs.declared.answered.Refused.{Refused}
use Rattle.refusals.specs.Refusals.{query_gives}
use Rattle.refusals.specs.Told.{answered, told}
use Rattle.refusals.proofs.QueryOrder.{answers_told}
use Rattle.desk.specs.Alone.{AnswersAlone}
use Rattle.desk.proofs.Exits.{refused_is}
use Rattle.desk.proofs.Granted.{query_granted}
use Rattle.desk.proofs.CallAlone.{alone_refused, alone_told}
use Rattle.desk.proofs.answers.answers_passing.Goals as goal

wide_less : {m n : ℕ} {s : Slate} → m ≤ n → Wide n s → Wide m s
wide_less h w = record { noted = room_less h w.noted; kept = omega (arith, w.kept) }

pub returns-in_err-query_given-clause-answers : goal.returns-in_err-query_given-clause-answers
returns-in_err-query_given-clause-answers c =
    let a = c.args in
    let ws = a.table.now in
    let asked = one_passed (λ k. query_gives ws a.q k MOST (answers_told ws a.q k)) a.k c.ranges.k c.in_err-query_given.ensures in
    rw (refused_is _ c.from_residual.result c.from_residual.ensures.1) (alone_refused ws a.q a.k (slate_of a.slate.now) a.answers.now asked (not_done _))

pub answer-reply-requires : goal.answer-reply-requires
answer-reply-requires c =
    let a = c.args in
    let ws = a.table.now in
    let asked = one_passed (λ k. query_gives ws a.q k MOST (answers_told ws a.q k)) a.k c.ranges.k c.in_ok-query_given.ensures in
    let y = (query_granted ws a.q a.k MOST (answers_told ws a.q a.k) (sym asked)).0 in
    let table : Passing ws = record { long = c.requires.0.0; words = c.are_words.ensures; rules = c.requires.0.1 } in
    record { table = table; x = y.grid.x; y = y.grid.y; room = wide_less y.candidates c.requires.1 }

pub returns-clause-answers : goal.returns-clause-answers
returns-clause-answers c =
    let a = c.args in
    let ws = a.table.now in
    let w = c.answer-reply in
    let old = a.answers.now in
    let before = slate_of a.slate.now in
    let after = slate_of w.new.slate in
    let asked = one_passed (λ k. query_gives ws a.q k MOST (answers_told ws a.q k)) a.k c.ranges.k c.in_ok-query_given.ensures in
    let r = subst (λ (k : ℕ). Replied ws a.q k before after old w.new.answers w.result) (natural_passed a.k c.ranges.k c.natural.ensures) w.ensures.replied in
    subst (λ (t : Result Reply Refused). AnswersAlone ws a.q a.k before after old w.new.answers (answered t))
    (sym (c.told.ensures ∙ ap (told w.result w.result.n) w.auto.answers))
    (alone_told ws a.q a.k before after old w.new.answers w.result asked refl r)
