-- The laws of a run of words put in the place of as many others: the run is read back, and every word elsewhere is as it was. By the laws of `take`, `drop` and `++`. Assumes nothing.
use Prim.Native.Nat.{ℕ, suc, ◌+◌, ◌-◌, ◌≤◌, ◌<◌}
use mathlib.Core.Path.{◌≡◌, sym, ap, ◌∙◌}
use mathlib.Core.List.{[], ◌∷◌, ◌++◌, append_assoc}
use native.Mathlib.Omega.{arith}
use lib.IntN.{ℤ, pos}
use lib.ListN.{length, set, take, drop, length-append, length-take, length-drop, take-append-drop, get_or-append}
use lib.Seq.{sets-eq, get_or-drop, get_or-take, ext_get_or, drop_at, take_at, length-take-le, take-append_seam, drop-drop}
use Rattle.table.specs.Words.{Words, word, placed}

-- the n words from `at` on
abbrev pub run : Words → ℕ → ℕ → Words
run ws at n = take n (drop at ws)

module _ (ws : Words) (at : ℕ) (vs : Words) (fits : at + length vs ≤ length ws) where
  pub placed_length : length (placed ws at vs) ≡ length ws
  unfolding placed
  placed_length = simp (length-append, length-take, length-drop) (omega arith)

  -- what was put there stands there
  pub placed_here : run (placed ws at vs) at (length vs) ≡ vs
  unfolding placed
  placed_here =
      rw (drop_at (take at ws) (vs ++ drop (at + length vs) ws) at (length-take-le at ws (omega arith)))
      (take-append_seam vs (drop (at + length vs) ws))

  -- what stands elsewhere is as it was
  pub placed_left : (i : ℕ) → i < at → word (placed ws at vs) i ≡ word ws i
  unfolding placed
  placed_left i h =
      let l : length (take at ws) ≡ at = length-take-le at ws (omega arith) in
      get_or-append (take at ws) (vs ++ drop (at + length vs) ws) (pos 0) i (omega arith) ∙ get_or-take at ws i (pos 0) h

  pub placed_right : (b : ℕ) → at + length vs ≤ b → drop b (placed ws at vs) ≡ drop b ws
  unfolding placed
  placed_right b h =
      let l : length (take at ws ++ vs) ≡ at + length vs = simp (length-append, length-take) (omega arith) in
      let k : at + length vs + (b - (at + length vs)) ≡ b = omega arith in
      rw (← append_assoc, ← k, ← drop-drop)
      (ap (drop (b - (at + length vs))) (drop_at (take at ws ++ vs) (drop (at + length vs) ws) (at + length vs) l)
      ∙ drop-drop (b - (at + length vs)) (at + length vs) ws)

  -- a run that ends before it, and one that starts after it, are as they were
  pub placed_before : (b n : ℕ) → b + n ≤ at → run (placed ws at vs) b n ≡ run ws b n
  placed_before b n h =
      ext_get_or (pos 0) (run (placed ws at vs) b n) (run ws b n) (simp (length-take, length-drop, placed_length)) each
    where
      each : (i : ℕ) → i < length (run (placed ws at vs) b n) → word (run (placed ws at vs) b n) i ≡ word (run ws b n) i
      each i hi =
          let m : i < n = omega (arith, length-take n (drop b (placed ws at vs))) in
          get_or-take n (drop b (placed ws at vs)) i (pos 0) m
          ∙ get_or-drop b (placed ws at vs) i (pos 0)
          ∙ placed_left (b + i) (omega arith)
          ∙ sym (get_or-take n (drop b ws) i (pos 0) m ∙ get_or-drop b ws i (pos 0))

  pub placed_after : (b n : ℕ) → at + length vs ≤ b → run (placed ws at vs) b n ≡ run ws b n
  placed_after b n h = ap (take n) (placed_right b h)

-- five words set one after the other
pub five : (ws : Words) (at : ℕ) (a b c d e : ℤ) → at + 5 ≤ length ws
    → set (set (set (set (set ws at a) (at + 1) b) (at + 2) c) (at + 3) d) (at + 4) e ≡ placed ws at (a ∷ b ∷ c ∷ d ∷ e ∷ [])
unfolding placed
five ws at a b c d e h =
    let e1 : at + 1 ≡ suc at = omega arith in
    let e2 : at + 2 ≡ suc (suc at) = omega arith in
    let e3 : at + 3 ≡ suc (suc (suc at)) = omega arith in
    let e4 : at + 4 ≡ suc (suc (suc (suc at))) = omega arith in
    let vs = a ∷ b ∷ c ∷ d ∷ e ∷ [] in
    rw (e1, e2, e3, e4) (sets-eq vs ws at h ∙ append_assoc (take at ws) vs (drop (at + length vs) ws))

-- one run after another
pub placed_more : (ws : Words) (at : ℕ) (vs us : Words) → at + length vs + length us ≤ length ws
    → placed (placed ws at vs) (at + length vs) us ≡ placed ws at (vs ++ us)
unfolding placed
placed_more ws at vs us h =
    let l : length (take at ws ++ vs) ≡ at + length vs = simp (length-append, length-take) (omega arith) in
    let t : take (at + length vs) (placed ws at vs) ≡ take at ws ++ vs =
    ap (take (at + length vs)) (sym (append_assoc (take at ws) vs (drop (at + length vs) ws)))
    ∙ take_at (take at ws ++ vs) (drop (at + length vs) ws) (at + length vs) l in
    let d : drop (at + length vs + length us) (placed ws at vs) ≡ drop (at + length vs + length us) ws =
    placed_right ws at vs (omega arith) (at + length vs + length us) (omega arith) in
    let k : at + length vs + length us ≡ at + length (vs ++ us) = omega (arith, length-append vs us) in
    ap (λ (x : Words). x ++ (us ++ drop (at + length vs + length us) (placed ws at vs))) t
    ∙ ap (λ (x : Words). take at ws ++ vs ++ (us ++ x)) d
    ∙ append_assoc (take at ws) vs (us ++ drop (at + length vs + length us) ws)
    ∙ ap (λ (x : Words). take at ws ++ x) (sym (append_assoc vs us (drop (at + length vs + length us) ws)))
    ∙ ap (λ (m : ℕ). take at ws ++ (vs ++ us ++ drop m ws)) k

pub placed_none : (ws : Words) (at : ℕ) → ws ≡ placed ws at []
unfolding placed
placed_none ws at =
    let k : at + 0 ≡ at = omega arith in
    sym (ap (λ (m : ℕ). take at ws ++ drop m ws) k ∙ take-append-drop at ws)
