-- `cuts::fields::field` meets its contract. The loop's invariant: the fields from `at` on are those of the record behind the first `counter`. Assumes nothing.
use Prim.Native.Nat.{ℕ, suc, ◌+◌}
use mathlib.Core.Path.{◌≡◌, sym, ap, ◌∙◌}
use mathlib.Core.List.{[]}
use native.Mathlib.Nat.{zero-add}
use native.Mathlib.Omega.{arith}
use lib.ListN.{get_or}
use Rattle.cuts.specs.declared.parts.Mark.TheVariants.{Comma}
use Rattle.cuts.specs.Cuts.{parts_of}
use Rattle.cuts.proofs.Parted.{next_within, part_first, part_next}
use Rattle.cuts.proofs.fields.field.Goals as goal

pub loop-init : goal.loop-init
loop-init c = (λ k. rw zero-add, omega arith)

pub loop-preserved : goal.loop-preserved
loop-preserved c =
    let l = c.loop in
    let item = c.args.item.now in (
      λ k.
          let one : l.counter + suc k ≡ l.counter + 1 + k = omega arith in
          rw c.next_at-at.ensures
          (sym (part_next Comma item l.at k) ∙ l.invariant.0 (suc k) ∙ ap (λ (n : ℕ). get_or (parts_of Comma item) n []) one),
      omega (arith, next_within Comma item l.at l.invariant.1),
    )

pub returns : goal.returns
returns c =
    let l = c.loop in
    let item = c.args.item.now in
    let all : l.counter + 0 ≡ c.args.i = omega arith in
    c.part_at.ensures
    ∙ sym (part_first Comma item l.at)
    ∙ l.invariant.0 0
    ∙ ap (λ (n : ℕ). get_or (parts_of Comma item) n []) all
