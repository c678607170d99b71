-- Rule 4's numbers: each is new where it stands, slot by slot, exactly where no number stands twice in the table. By recursion on the list of numbers, then on the number of slots. Assumes nothing.
use Prim.Native.Nat.{ℕ, zero, suc, ◌+◌, ◌-◌, ◌<◌}
use native.Mathlib.Omega.{arith}
use mathlib.Core.Path.{◌≡◌, refl, sym, ap, subst, ◌∙◌}
use mathlib.Core.Bool.{true, false, not, false≢true}
use mathlib.Core.List.Memᴰ
use mathlib.Core.List.{List, [], ◌∷◌, ◌++◌, append-nil, append_assoc}
use lib.Dec.{eqb}
use borrow.Author.Tests.{eq-eqb, not-true, ne_eqb}
use Rattle.order.specs.Lists.{has, join, Mem, NoDup}
use Rattle.order.specs.Order.{up_from}
use Rattle.order.proofs.Lists.{join_append, nodup_append, and_left, and_right}
use Rattle.rules.specs.Rules.{each_new}
use Rattle.rules.proofs.Tests.{both_true, or_second}
use Rattle.rules.proofs.Joined.{nodup_left, nodup_apart}
use Rattle.rules.proofs.Counted.{up_append}

-- ---- a number in a list, as a test

pub mem_has : {n : ℕ} (ns : List ℕ) → Mem n ns → has n ns ≡ true
mem_has [] m = absurd (Memᴰ.not-nil m)
mem_has {n} (x ∷ ns) (Memᴰ.head e) = rw (eq-eqb n x e)
mem_has {n} (x ∷ ns) (Memᴰ.tail m) = or_second (eqb n x) (mem_has ns m)

missing_has : (n : ℕ) (ns : List ℕ) → (Mem n ns → ⊥) → has n ns ≡ false
missing_has n [] k = refl
missing_has n (x ∷ ns) k = rw (ne_eqb n x (λ e. k (Memᴰ.head e))) (missing_has n ns (λ m. k (Memᴰ.tail m)))

-- ---- one list

pub new_nodup : (before ns : List ℕ) → NoDup before → each_new before ns ≡ true → NoDup (before ++ ns)
new_nodup before [] d e = rw append-nil d
new_nodup before (n ∷ ns) d e =
    let a = not (has n before) in
    let b = each_new (before ++ n ∷ []) ns in
    let f : has n before ≡ false = not-true (has n before) (and_left a b e) in
    let alone : NoDup (before ++ n ∷ []) =
    nodup_append before (n ∷ []) d ((λ m. Memᴰ.not-nil m), tt)
    (λ x m k. false≢true (sym f ∙ mem_has before (Memᴰ.cast (sym (Memᴰ.eq_of_singleton k)) m))) in
    subst NoDup (append_assoc before (n ∷ []) ns) (new_nodup (before ++ n ∷ []) ns alone (and_right a b e))

pub nodup_new : (before ns : List ℕ) → NoDup (before ++ ns) → each_new before ns ≡ true
nodup_new before [] d = refl
nodup_new before (n ∷ ns) d =
    both_true (ap not (missing_has n before (λ m. nodup_apart before (n ∷ ns) d m (Memᴰ.head refl))))
    (nodup_new (before ++ n ∷ []) ns (subst NoDup (sym (append_assoc before (n ∷ []) ns)) d))

-- ---- the lists of all slots below n

module _ (f : ℕ → List ℕ) where
  -- the last slot's comes last
  join_last : (n : ℕ) → join f (up_from 0 (suc n)) ≡ join f (up_from 0 n) ++ f n
  join_last n =
      let e : suc n ≡ n + 1 = omega arith in
      let g : 0 + n ≡ n = omega arith in
      ap (λ k. join f (up_from 0 k)) e
      ∙ ap (join f) (up_append 0 n 1)
      ∙ join_append f (up_from 0 n) (up_from (0 + n) 1)
      ∙ ap (λ k. join f (up_from 0 n) ++ (f k ++ [])) g
      ∙ ap (λ l. join f (up_from 0 n) ++ l) (append-nil (f n))

  pub all_new : (n : ℕ) → ((s : ℕ) → s < n → each_new (join f (up_from 0 s)) (f s) ≡ true) → NoDup (join f (up_from 0 n))
  all_new zero h = tt
  all_new (suc n) h =
      subst NoDup (sym (join_last n))
      (new_nodup (join f (up_from 0 n)) (f n) (all_new n (λ s lt. h s (omega arith))) (h n (omega arith)))

  pub new_all : (n : ℕ) → NoDup (join f (up_from 0 n)) → (s : ℕ) → s < n → each_new (join f (up_from 0 s)) (f s) ≡ true
  new_all n d s lt =
      let e : n ≡ suc s + (n - suc s) = omega arith in
      let rest = up_from (0 + suc s) (n - suc s) in
      let d' : NoDup (join f (up_from 0 (suc s)) ++ join f rest) =
      subst NoDup (ap (λ k. join f (up_from 0 k)) e ∙ ap (join f) (up_append 0 (suc s) (n - suc s)) ∙ join_append f (up_from 0 (suc s)) rest) d in
      nodup_new (join f (up_from 0 s)) (f s)
      (subst NoDup (join_last s) (nodup_left (join f (up_from 0 (suc s))) (join f rest) d'))
