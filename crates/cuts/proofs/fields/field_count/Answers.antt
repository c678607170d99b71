-- `cuts::fields::field_count` meets its contract. The loop's invariant: the fields passed and those behind `stop` are all fields of the record. Assumes nothing.
use Prim.Native.Nat.{ℕ, ◌+◌, ◌≤◌}
use mathlib.Core.Path.{sym, ap, ◌∙◌}
use native.Mathlib.Omega.{arith}
use lib.ListN.{length}
use Rattle.cuts.specs.declared.parts.Mark.TheVariants.{Comma}
use Rattle.cuts.proofs.Parted.{stop_within, behind, behind_some, parts_count}
use Rattle.cuts.proofs.fields.field_count.Goals as goal

pub loop-stop-init : goal.loop-stop-init
loop-stop-init c =
    let item = c.args.item.now in
    rw c.stop_at-stop.ensures (omega (arith, parts_count Comma item 0, stop_within Comma item 0 (omega arith)))

pub loop-stop-smaller : goal.loop-stop-smaller
loop-stop-smaller c =
    let further : (c.loop-stop.stop + 1 ≤ c.stop_at-stop-in-loop-stop.result) × (c.stop_at-stop-in-loop-stop.result ≤ length c.args.item.now) =
    let item = c.args.item.now in
    omega (arith, stop_within Comma item (c.loop-stop.stop + 1) (omega arith)) in
    omega (arith, further)

pub loop-stop-preserved : goal.loop-stop-preserved
loop-stop-preserved c =
    let further : (c.loop-stop.stop + 1 ≤ c.stop_at-stop-in-loop-stop.result) × (c.stop_at-stop-in-loop-stop.result ≤ length c.args.item.now) =
    let item = c.args.item.now in
    omega (arith, stop_within Comma item (c.loop-stop.stop + 1) (omega arith)) in
    let item = c.args.item.now in
    let stop = c.loop-stop.stop in
    let count =
    behind_some Comma item stop c.loop-stop-test.true
    ∙ parts_count Comma item (stop + 1)
    ∙ ap (λ (s : ℕ). 1 + behind Comma item s) (sym c.stop_at-stop-in-loop-stop.ensures) in
    omega (arith, further, count)
