-- Bytes laid one behind the other: a run from its front, a field after its tab, the five runs of an E line. By the laws of bytes laid into a buffer. Assumes nothing.
use Prim.Native.Nat.{ℕ, ◌+◌, ◌≤◌, ◌<◌}
use mathlib.Core.Path.{◌≡◌, refl, sym, ap, subst, ◌∙◌}
use mathlib.Core.List.{[], ◌∷◌, ◌++◌, append-nil, append_assoc}
use native.Mathlib.Omega.{arith}
use native.Mathlib.Numerals.{add-one}
use lib.ListN.{length, take, get_or, length-append}
use lib.Seq.{take-suc, length-take-le}
use Rattle.sheet.specs.Bytes.{Bytes, TAB, FEED}
use Rattle.jobs.specs.Job.{ENROL}
use Rattle.slip.specs.Output.{tabbed, Laid}
use Rattle.slip.proofs.Laid.{laid_none, laid_room, laid_then}
use Rattle.slip.proofs.Decimal.{tabbed_append}
use Rattle.roster.specs.Roster.{as_line}

-- a run of some of the bytes, and the next byte behind it
pub byte_more : {out mid left : Bytes} {at n m : ℕ} (bytes : Bytes) (i : ℕ) → i < length bytes → at + length bytes ≤ length out
    → Laid out at (take i bytes) mid n → Laid mid n (get_or bytes i 0 ∷ []) left m → Laid out at (take (i + 1) bytes) left m
byte_more {out} {mid} {left} {at} {n} {m} bytes i l room p q =
    rw (add-one, take-suc bytes i 0 l)
    (laid_then out at (take i bytes) mid n (get_or bytes i 0 ∷ []) left m (omega (arith, length-take-le i bytes)) p q)

-- a field after its tab
pub tabbed_one : {out mid left : Bytes} {at n m : ℕ} {bytes f : Bytes} → bytes ≡ f → at + (1 + length f) ≤ length out
    → Laid out at (TAB ∷ []) mid n → Laid mid n bytes left m → Laid out at (tabbed (f ∷ [])) left m
tabbed_one {out} {mid} {left} {at} {n} {m} {bytes} {f} e room t l =
    let whole : f ++ [] ≡ bytes = append-nil f ∙ sym e in
    rw whole (laid_then out at (TAB ∷ []) mid n bytes left m (omega (arith, ap length e)) t l)

pub tab_room : (f : Bytes) {out left : Bytes} {at n : ℕ} → Laid out at (tabbed (f ∷ [])) left n → at + (1 + length f) ≤ length out
    → (n ≡ at + (1 + length f)) × (length left ≡ length out)
tab_room f l room =
    let long : length (tabbed (f ∷ [])) ≤ 1 + length f = omega (arith, length-append f []) in
    (omega (arith, l.behind, length-append f []), (laid_room (1 + length f) l long room).1)

-- the letter, three fields, the line feed
pub three_fields : (out : Bytes) (at : ℕ) (f g h : Bytes) {a b c d left : Bytes} {i j k l next : ℕ}
    → at + (length f + (length g + length h) + 5) ≤ length out
    → Laid out at (ENROL ∷ []) a i → Laid a i (tabbed (f ∷ [])) b j → Laid b j (tabbed (g ∷ [])) c k → Laid c k (tabbed (h ∷ [])) d l → Laid d l (FEED ∷ []) left next
    → Laid out at (as_line (ENROL ∷ tabbed (f ∷ g ∷ h ∷ []))) left next
three_fields out at f g h {a} {b} {c} {d} {left} {i} {j} {k} {l} {next} room e p q r s =
    let fs = length-append f [] in
    let gs = length-append g [] in
    let hs = length-append h [] in
    let two = laid_then out at (ENROL ∷ []) a i (tabbed (f ∷ [])) b j (omega (arith, fs)) e p in
    let three = laid_then out at (ENROL ∷ tabbed (f ∷ [])) b j (tabbed (g ∷ [])) c k (omega (arith, fs, gs)) two q in
    let gone = length-append (ENROL ∷ tabbed (f ∷ [])) (tabbed (g ∷ [])) in
    let four = laid_then out at (ENROL ∷ tabbed (f ∷ []) ++ tabbed (g ∷ [])) c k (tabbed (h ∷ [])) d l (omega (arith, fs, gs, hs, gone)) three r in
    let far = length-append (ENROL ∷ tabbed (f ∷ []) ++ tabbed (g ∷ [])) (tabbed (h ∷ [])) in
    let all = laid_then out at ((ENROL ∷ tabbed (f ∷ []) ++ tabbed (g ∷ [])) ++ tabbed (h ∷ [])) d l (FEED ∷ []) left next (omega (arith, fs, gs, hs, gone, far)) four s in
    subst (λ (bs : Bytes). Laid out at (ENROL ∷ (bs ++ FEED ∷ [])) left next) (sym (tabbed_append (f ∷ g ∷ []) (h ∷ []) ∙ ap (λ (bs : Bytes). bs ++ tabbed (h ∷ [])) (tabbed_append (f ∷ []) (g ∷ [])))) all

pub nothing_laid : (out : Bytes) (at : ℕ) → Laid out at [] out at
nothing_laid out at = record { laid = sym (laid_none out at); behind = omega arith }

-- ---- run after run from the front, up to a whole

-- so many bytes of it stand, and the rest is to come
pub record SoFar (before whole rest out : Bytes) (filled : ℕ) : Type 0 where
  pub bytes : Bytes
  pub laid : Laid before 0 bytes out filled
  pub goes : bytes ++ rest ≡ whole

pub so_far_none : (out whole : Bytes) → SoFar out whole whole out 0
so_far_none out whole = record { bytes = []; laid = nothing_laid out 0; goes = refl }

pub so_far_long : {before whole rest out : Bytes} {n : ℕ} → SoFar before whole rest out n → n ≤ length before → length out ≡ length before
so_far_long {n = n} s room = (laid_room n s.laid (omega (arith, s.laid.behind)) (omega arith)).1

pub so_far_more : {before whole rest rest' run out left : Bytes} {n m : ℕ} → rest ≡ run ++ rest' → SoFar before whole rest out n
    → n + length run ≤ length before → Laid out n run left m → SoFar before whole rest' left m
so_far_more {before} {whole} {rest} {rest'} {run} {out} {left} {n} {m} e s room l = record {
  bytes = s.bytes ++ run;
  laid = laid_then before 0 s.bytes out n run left m (omega (arith, s.laid.behind)) s.laid l;
  goes = append_assoc s.bytes run rest' ∙ ap (λ (bs : Bytes). s.bytes ++ bs) (sym e) ∙ s.goes;
}

pub so_far_all : {before whole rest out : Bytes} {n : ℕ} → rest ≡ [] → SoFar before whole rest out n → Laid before 0 whole out n
so_far_all {before} {whole} {rest} {out} {n} e s =
    subst (λ (bs : Bytes). Laid before 0 bs out n) (sym (append-nil s.bytes) ∙ ap (λ (bs : Bytes). s.bytes ++ bs) (sym e) ∙ s.goes) s.laid
