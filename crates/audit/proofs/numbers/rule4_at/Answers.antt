-- `numbers::rule4_at` meets its contract: a leaf's entries are points, and its numbers are entered after those of the slots before. Assumes nothing.
use mathlib.Core.Path.{◌≡◌, ap, sym, subst, ◌∙◌}
use mathlib.Core.Bool.{true, false, false≢true}
use mathlib.Core.List.{append-nil}
use borrow.Author.Tests.{eq-eqb, ne_eqb}
use Rattle.order.specs.Lists.{every, join}
use Rattle.order.specs.Order.{up_from}
use Rattle.table.specs.Slots.{level_at, entries_at}
use Rattle.table.specs.Stations.{is_point}
use Rattle.rules.specs.Rules.{numbers_at, rule4}
use Rattle.audit.specs.Seen.{refs_of, Entered}
use Rattle.audit.proofs.Every.{failed, passed}
use Rattle.audit.proofs.Gathered.{join_more}
use Rattle.audit.proofs.numbers.rule4_at.Goals as goal

pub returns-then-level_at-ne0 : goal.returns-then-level_at-ne0
unfolding rule4
returns-then-level_at-ne0 c =
    let ws = c.args.table.now in
    let f = ne_eqb (level_at ws c.args.slot) 0 (λ e. c.if-level_at-ne0.true (c.level_at.ensures ∙ e)) in
    record {
      answer = rw f;
      marks = λ e. rw (join_more (numbers_at ws) c.args.slot, f, append-nil) c.requires.1;
    }

pub returns-then-not-all_points : goal.returns-then-not-all_points
unfolding rule4
returns-then-not-all_points c =
    let ws = c.args.table.now in
    let l = eq-eqb (level_at ws c.args.slot) 0 (sym c.level_at.ensures ∙ c.if-level_at-ne0.false) in
    let f : every is_point (entries_at ws c.args.slot) ≡ false =
    ap (every is_point) (sym c.node_at-n.ensures.entries) ∙ failed c.all_points.ensures c.if-not-all_points.true in
    record {
      answer = rw (l, f);
      marks = λ e. absurd (false≢true e);
    }

pub mark-requires : goal.mark-requires
mark-requires c = passed c.all_points.ensures c.if-not-all_points.false

pub returns : goal.returns
unfolding rule4
returns c =
    let ws = c.args.table.now in
    let slot = c.args.slot in
    let before = join (numbers_at ws) (up_from 0 slot) in
    let l = eq-eqb (level_at ws slot) 0 (sym c.level_at.ensures ∙ c.if-level_at-ne0.false) in
    let p : every is_point (entries_at ws slot) ≡ true =
    ap (every is_point) (sym c.node_at-n.ensures.entries) ∙ passed c.all_points.ensures c.if-not-all_points.false in
    let n : Entered before (refs_of (entries_at ws slot)) c.mark.result c.mark.new.seen =
    subst (λ es. Entered before (refs_of es) c.mark.result c.mark.new.seen) c.node_at-n.ensures.entries (c.mark.ensures before c.requires.1) in
    record {
      answer = rw (l, p) n.answer;
      marks = λ e. rw (join_more (numbers_at ws) slot, l) (n.marks e);
    }
