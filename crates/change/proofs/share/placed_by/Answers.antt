-- `change::share::placed_by` meets its contract. The invariant: the entries at the first k places of the row have been copied. Assumes nothing.
use Prim.Native.Nat.{◌+◌}
use native.Mathlib.Omega.{arith}
use mathlib.Core.Path.{◌≡◌, refl, sym, ap, ◌∙◌}
use lib.ListN.{length, take, get_or, length-map}
use Rattle.order.specs.Order.{pick}
use Rattle.order.proofs.Lists.{map_take}
use Rattle.order.proofs.Order.{pick_at}
use Rattle.table.specs.Page.{page, blank_entry}
use Rattle.table.proofs.Nodes.{full, copy_more, copy_shows}
use Rattle.change.proofs.share.placed_by.Goals as goal

pub loop-k-preserved : goal.loop-k-preserved
loop-k-preserved c =
    let l = c.loop-k in
    let es = c.args.n.entries in
    let row = c.args.row in
    let n = length-map row (λ i. get_or es i blank_entry) in
    let f = full c.args.n c.well_formed.0 in
    let g : length row ≡ 10 = omega (arith, c.well_formed.1.0) in
    copy_more es 0 (pick es blank_entry row) l.k blank_entry l.entries l.invariant l.k
    (get_or es (get_or row l.k 0) blank_entry) (l.k + 1) (omega arith) (sym (pick_at es blank_entry row blank_entry l.k (omega arith)))
    (omega arith) (omega (arith, c.args.n.room)) (omega (arith, c.args.n.room))

pub returns : goal.returns
returns c =
    let l = c.loop-k in
    let a = c.args.n in
    let es = a.entries in
    let row = c.args.row in
    let n = length-map row (λ i. get_or es i blank_entry) in
    let f = full a c.well_formed.0 in
    let g : length row ≡ 10 = omega (arith, c.well_formed.1.0) in
    let e : l.k ≡ a.count = omega arith in
    let many : a.count ≡ 0 + l.k = omega arith in
    copy_shows _ es 0 (pick es blank_entry row) l.k (page a.level (pick es blank_entry (take a.count row)))
    l.invariant f (omega (arith, a.room)) (omega (arith, a.room)) many refl
    (ap (λ k. take k (pick es blank_entry row)) e ∙ sym (map_take (λ i. get_or es i blank_entry) a.count row))
