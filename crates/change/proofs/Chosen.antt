-- The entry that takes a newcomer is one of the node's, by recursion on how many were looked at. Assumes nothing.
use Prim.Native.Nat.{ℕ, zero, suc, ◌+◌, ◌-◌, ◌≤◌, ◌<◌}
use mathlib.Core.Path.{◌≡◌}
use native.Mathlib.Omega.{arith}
use mathlib.Core.Bool.{cond}
use mathlib.Core.List.{List}
use lib.ListN.{length}
use Rattle.grid.specs.declared.rect.Rect.{Rect}
use Rattle.order.proofs.Lists.{by_bool}
use Rattle.table.specs.declared.node.Entry.{Entry}
use Rattle.change.specs.Choose.{takes_before, entry_in, chosen_up_to, chosen}

pub chosen_most : (new : Rect) (es : List Entry) (n : ℕ) → chosen_up_to new es n ≤ n
chosen_most new es zero = omega arith
chosen_most new es (suc n) =
    let ih = chosen_most new es n in
    let c = chosen_up_to new es n in
    by_bool (λ b. cond b (suc n) c ≤ suc n) (takes_before new (entry_in es (suc n)).rect (entry_in es c).rect) (λ e. omega arith) (λ e. omega arith)

pub chosen_in : (new : Rect) (es : List Entry) → 0 < length es → chosen new es < length es
unfolding chosen
chosen_in new es h = omega (arith, chosen_most new es (length es - 1))

-- one more is looked at
pub chosen_step : (new : Rect) (es : List Entry) (k : ℕ) → 1 ≤ k
    → chosen_up_to new es (k + 1 - 1)
    ≡ cond (takes_before new (entry_in es k).rect (entry_in es (chosen_up_to new es (k - 1))).rect) k (chosen_up_to new es (k - 1))
chosen_step new es zero h = absurd (omega arith)
chosen_step new es (suc j) h =
    let a : suc j + 1 - 1 ≡ suc j = omega arith in
    let b : suc j - 1 ≡ j = omega arith in
    rw (a, b)
