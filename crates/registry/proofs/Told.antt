-- What was done and not told, of one writing and of two. Assumes nothing.
use Rattle.std.proofs.Common.{◌≡◌, subst, sym, OnOk, Result, Ok, Err}
use Rattle.std.specs.Result.{result_and}

pub quietly : {T E : Type 0} (P Q : Type 0) {done told : Result T E} → told ≡ done → OnOk done P → OnOk told Q → OnOk told (P × Q)
quietly {T} {E} P Q {done} {told} same p q = go told (subst (λ r. OnOk r P) (sym same) p) q
  where
    go : (r : Result T E) → OnOk r P → OnOk r Q → OnOk r (P × Q)
    go (Ok x) p q = (p, q)
    go (Err e) p q = tt

pub both_done : {T E : Type 0} (P Q R : Type 0) (first second : Result T E) → OnOk first P → OnOk second Q → (P → Q → R) → OnOk (result_and first second) R
both_done P Q R (Ok x) (Ok y) p q f = f p q
both_done P Q R (Ok x) (Err e) p q f = tt
both_done P Q R (Err e) second p q f = tt
