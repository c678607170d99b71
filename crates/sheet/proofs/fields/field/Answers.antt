-- `sheet::fields::field` meets its contract. The loop's invariant: the fields from `at` on are those of the line behind the first `counter`. Assumes nothing.
use Prim.Native.Nat.{ℕ, suc, ◌+◌}
use mathlib.Core.Path.{◌≡◌, sym, ap, ◌∙◌}
use mathlib.Core.List.{[]}
use native.Mathlib.Nat.{zero-add}
use native.Mathlib.Omega.{arith}
use lib.ListN.{get_or}
use Rattle.sheet.specs.Bytes.{TAB, fields_of}
use Rattle.sheet.proofs.Parted.{next_within, part_cut, part_first, part_next}
use Rattle.sheet.proofs.fields.field.Goals as goal

pub loop-init : goal.loop-init
unfolding fields_of
loop-init c = (λ k. rw zero-add, omega arith)

pub loop-preserved : goal.loop-preserved
loop-preserved c =
    let l = c.loop in
    let line = c.args.line.now in (
      λ k.
          let one : l.counter + suc k ≡ l.counter + 1 + k = omega arith in
          rw c.next_from-at.ensures
          (sym (part_next TAB line l.at k l.invariant.1) ∙ l.invariant.0 (suc k) ∙ ap (λ (n : ℕ). get_or (fields_of line) n []) one),
      omega (arith, next_within TAB line l.at l.invariant.1),
    )

pub returns : goal.returns
returns c =
    let l = c.loop in
    let line = c.args.line.now in
    let all : l.counter + 0 ≡ c.args.i = omega arith in
    part_cut TAB line l.at _ c.stop_from-end.ensures
    ∙ sym (part_first TAB line l.at)
    ∙ l.invariant.0 0
    ∙ ap (λ (n : ℕ). get_or (fields_of line) n []) all
