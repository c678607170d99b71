-- The laws of bytes laid into a buffer: one run after another is the run of both, one byte in front of a run, and what stands before its end. By the laws of `take`, `drop` and `++`. Assumes nothing.
use Prim.Native.Nat.{ℕ, suc, ◌+◌, ◌≤◌, ◌<◌}
use mathlib.Core.Path.{◌≡◌, sym, ap, ◌∙◌}
use mathlib.Core.List.{[], ◌∷◌, ◌++◌, append_assoc}
use native.Mathlib.Omega.{arith}
use native.Mathlib.Nat.{add-zero}
use native.Mathlib.Numerals.{add-one}
use lib.ListN.{length, take, drop, set, length-append, length-take, length-drop, take-append-drop}
use lib.Seq.{take_at, drop_at, drop-drop, set_split, take-set-le, length-take-le}
use Rattle.sheet.specs.Bytes.{Bytes}
use Rattle.slip.specs.Output.{laid_at, Laid}

module _ (out : Bytes) (at : ℕ) (bs : Bytes) (room : at + length bs ≤ length out) where
  pub laid_length : length (laid_at out at bs) ≡ length out
  unfolding laid_at
  laid_length = simp (length-append, length-take, length-drop) (omega arith)

  up_to : length (take at out ++ bs) ≡ at + length bs
  up_to = simp (length-append, length-take) (omega arith)

  -- what stands before the end of the run
  pub laid_front : take (at + length bs) (laid_at out at bs) ≡ take at out ++ bs
  unfolding laid_at
  laid_front =
      rw (← append_assoc) (take_at (take at out ++ bs) (drop (at + length bs) out) (at + length bs) up_to)

  -- and behind it
  pub laid_behind : drop (at + length bs) (laid_at out at bs) ≡ drop (at + length bs) out
  unfolding laid_at
  laid_behind =
      rw (← append_assoc) (drop_at (take at out ++ bs) (drop (at + length bs) out) (at + length bs) up_to)

pub laid_none : (out : Bytes) (at : ℕ) → laid_at out at [] ≡ out
unfolding laid_at
laid_none out at = rw add-zero (take-append-drop at out)

pub laid_one : (out : Bytes) (at b : ℕ) → at < length out → set out at b ≡ laid_at out at (b ∷ [])
unfolding laid_at
laid_one out at b h = rw add-one (set_split out at b h)

-- one run, then another behind it
pub laid_more : (out : Bytes) (at : ℕ) (xs ys : Bytes) → at + (length xs + length ys) ≤ length out
    → laid_at (laid_at out at xs) (at + length xs) ys ≡ laid_at out at (xs ++ ys)
unfolding laid_at
laid_more out at xs ys h =
    let rest = at + length xs + length ys in
    let whole : at + length (xs ++ ys) ≡ rest = omega (arith, length-append xs ys) in
    let back : drop rest (laid_at out at xs) ≡ drop rest out =
    sym (drop-drop (length ys) (at + length xs) (laid_at out at xs))
    ∙ ap (drop (length ys)) (laid_behind out at xs (omega arith))
    ∙ drop-drop (length ys) (at + length xs) out in
    ap (λ (l : Bytes). l ++ (ys ++ drop rest (laid_at out at xs))) (laid_front out at xs (omega arith))
    ∙ ap (λ (l : Bytes). (take at out ++ xs) ++ (ys ++ l)) back
    ∙ rw whole (simp append_assoc)

-- one byte, then a run in front of it
pub laid_last : (out : Bytes) (at : ℕ) (ds : Bytes) (d : ℕ) → at + length ds < length out
    → laid_at (set out (at + length ds) d) at ds ≡ laid_at out at (ds ++ d ∷ [])
unfolding laid_at
laid_last out at ds d h =
    let j = at + length ds in
    let whole : at + length (ds ++ d ∷ []) ≡ suc j = omega (arith, length-append ds (d ∷ [])) in
    let back : drop j (set out j d) ≡ d ∷ drop (suc j) out =
    ap (drop j) (set_split out j d h) ∙ drop_at (take j out) (d ∷ drop (suc j) out) j (length-take-le j out (omega arith)) in
    ap (λ (l : Bytes). l ++ (ds ++ drop j (set out j d))) (take-set-le at out j d (omega arith))
    ∙ ap (λ (l : Bytes). take at out ++ (ds ++ l)) back
    ∙ rw whole (simp append_assoc)

-- how far a run of at most k bytes goes, and that the buffer keeps its length
pub laid_room : {out : Bytes} {at : ℕ} {bs left : Bytes} {next : ℕ} (k : ℕ) → Laid out at bs left next → length bs ≤ k → at + k ≤ length out
    → (next ≤ at + k) × (length left ≡ length out)
laid_room k l few room = (omega arith, ap length l.laid ∙ laid_length _ _ _ (omega arith))

-- what two functions lay one after the other
pub laid_then : (out : Bytes) (at : ℕ) (xs mid : Bytes) (n : ℕ) (ys left : Bytes) (m : ℕ) → at + (length xs + length ys) ≤ length out
    → Laid out at xs mid n → Laid mid n ys left m → Laid out at (xs ++ ys) left m
laid_then out at xs mid n ys left m h p q = record {
  laid = q.laid ∙ rw (p.laid, p.behind) (laid_more out at xs ys h);
  behind = rw length-append (omega (arith, p.behind, q.behind));
}
