-- `table::node::Node::cover` meets its contract. The invariant: `all` covers the first entry and those of the others that have passed. Assumes nothing.
use mathlib.Core.Path.{◌≡◌, sym, ap, ◌∙◌}
use mathlib.Core.List.{[], ◌∷◌}
use native.Mathlib.Omega.{arith}
use lib.Seq.{take_all}
use Rattle.std.proofs.lemmas.List.{nil_from_length}
use Rattle.table.specs.Page.{held, cover_from, cover_of, blank_entry}
use Rattle.table.proofs.Cover.{from_step}
use Rattle.table.proofs.node.Node.cover.Goals as goal

pub returns-in_default : goal.returns-in_default
unfolding cover_of
returns-in_default c =
    let none : held c.args.self ≡ [] = sym c.held.ensures ∙ nil_from_length _ c.in_default.ensures.cases in
    ap (λ e. e.rect) c.blank.ensures ∙ sym (ap cover_of none)

pub loop-e-preserved : goal.loop-e-preserved
loop-e-preserved c =
    let l = c.loop-e in
    cc (from_step c.in-Some.first.now.rect c.in-Some.others.now l.e-index blank_entry (omega arith))

pub returns : goal.returns
unfolding cover_of
returns c =
    let os = c.in-Some.others.now in
    let h : held c.args.self ≡ c.in-Some.first.now ∷ os = sym c.held.ensures ∙ c.in-Some.ensures.cases.0 in
    c.loop-e.invariant
    ∙ ap (cover_from c.in-Some.first.now.rect) (take_all c.loop-e.e-index os (omega arith))
    ∙ sym (ap cover_of h)
