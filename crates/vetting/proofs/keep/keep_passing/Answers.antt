-- `vetting::keep::keep_passing` meets its contract. The loop's invariant: the numbers of those of the first `i` candidates that pass stand at the front of `kept`. Assumes nothing.
use native.Mathlib.Omega.{arith}
use mathlib.Core.Path.{◌≡◌, sym, ◌∙◌}
use mathlib.Core.Bool.{true, false}
use Rattle.filter.proofs.RowLaws.{kept_standing}
use Rattle.vetting.proofs.Passed.{numbered_none, crowded_at, numbered_at, numbered_all}
use Rattle.vetting.proofs.keep.keep_passing.Goals as goal
use Rattle.vetting.proofs.keep.keep_passing.Goals.{then-is_kept, else-is_kept}

pub loop-i-init : goal.loop-i-init
loop-i-init c = numbered_none _ _ _ _ _

pub place_at-place-requires : goal.place_at-place-requires
place_at-place-requires c =
    let st = kept_standing c.requires.grid c.requires.kept in
    (omega (arith, st.room_x), omega (arith, st.room_y), c.requires.grid, st.grid c.loop-i.i (omega arith))

pub as_near-near-requires : goal.as_near-near-requires
as_near-near-requires c =
    let st = kept_standing c.requires.grid c.requires.kept in
    (st, rw c.place_at-place.ensures (st.grid c.loop-i.i (omega arith)), c.requires.grid)

pub square_to-requires : goal.square_to-requires
square_to-requires c =
    let st = kept_standing c.requires.grid c.requires.kept in
    (c.requires.grid, rw c.place_at-place.ensures (st.grid c.loop-i.i (omega arith)))

pub invariant_of-c : goal.invariant_of-c
invariant_of-c c =
    let st = kept_standing c.requires.grid c.requires.kept in
    record { on_grid = rw c.place_at-place.ensures (st.grid c.loop-i.i (omega arith)) }

pub is_kept-requires : goal.is_kept-requires
is_kept-requires c = (
  c.requires.table,
  crowded_at c.requires c.loop-i.i (omega arith) _ _ _ c.place_at-place.ensures c.square_to.ensures c.as_near-near.ensures,
)

pub loop-i-preserved : goal.loop-i-preserved
loop-i-preserved c =
    let next = numbered_at c.requires c.loop-i.i (omega arith) _ c.requires.places _ _ c.loop-i.invariant _ _ c.place_at-place.ensures c.square_to.ensures in
    elim c.if-is_kept.branch [
      | then-is_kept w ↦ rw (w.n-is, w.kept-is) (next true (sym c.is_kept.ensures ∙ w.if-is_kept.true))
      | else-is_kept w ↦ rw (w.n-is, w.kept-is) (next false (sym c.is_kept.ensures ∙ w.if-is_kept.false))
    ]

pub returns : goal.returns
returns c =
    let e : c.loop-i.i ≡ c.args.m = omega arith in
    let both = numbered_all _ _ _ _ _ _ _ _ (rw e at c.loop-i.invariant) in
    record { count = both.0; list = both.1 }
