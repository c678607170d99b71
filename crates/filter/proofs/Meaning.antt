-- A small truth of the meaning: with k or fewer points enrolled every point answers, since no point is its own other. And who stands in the answer. Assumes nothing.
use Prim.Native.Nat.{ℕ, ◌≤◌}
use native.Mathlib.Omega.{arith}
use mathlib.Core.Path.{◌≡◌, refl, ap}
use mathlib.Core.Bool.{Bool, true, false, ◌&&◌}
use mathlib.Core.List.Memᴰ
use mathlib.Core.List.{List, [], ◌∷◌, map}
use lib.ListN.{length}
use borrow.Author.Tests.{lt-ltb, eq-eqb}
use Rattle.grid.specs.declared.site.Site.{Site}
use Rattle.order.specs.Lists.{one, count, filter, Mem, All}
use Rattle.order.proofs.Perm.{psym, perm_mem}
use Rattle.order.proofs.Lists.{filter_mem, mem_filter, all_mem, count_less}
use Rattle.order.proofs.Order.{sort_perm}
use Rattle.table.specs.Stations.{Station}
use Rattle.filter.specs.Meaning.{as_near_other, answers_to, rising, answer}

-- ---- lists

pub count_none : {A : Type 0} (P : A → Bool) (xs : List A) → All (λ x. P x ≡ false) xs → count P xs ≡ 0
count_none P [] h = refl
count_none P (x ∷ xs) h = omega (arith, ap one h.0, count_none P xs h.1)

pub filter_all : {A : Type 0} (P : A → Bool) (xs : List A) → All (λ x. P x ≡ true) xs → filter P xs ≡ xs
filter_all P [] h = refl
filter_all P (x ∷ xs) h = rw h.0 (ap (λ l. x ∷ l) (filter_all P xs h.1))

pub and_false : (b : Bool) → (b && false) ≡ false
and_false true = refl
and_false false = refl

-- ---- no point is its own other

self_no_other : (q : Site) (p : Station) → as_near_other q p p ≡ false
unfolding as_near_other
self_no_other q p = rw (eq-eqb p.number p.number refl)

-- ---- who answers stands in the answer

pub answering_in : (all : List Station) (q : Site) (k : ℕ) (p : Station) → Mem p all → answers_to all q k p ≡ true → Mem p.number (answer all q k)
unfolding answer rising
answering_in all q k p m e =
    let ns = map (λ (s : Station). s.number) (filter (answers_to all q k) all) in
    perm_mem (psym (sort_perm (λ n. n) ns)) (Memᴰ.map (λ (s : Station). s.number) (mem_filter (answers_to all q k) all m e))

-- and nobody else
pub in_answer : (all : List Station) (q : Site) (k n : ℕ) → Mem n (answer all q k)
    → (p : Station) × Mem p all × (answers_to all q k p ≡ true) × (p.number ≡ n)
unfolding answer rising
in_answer all q k n m =
    let ps = filter (answers_to all q k) all in
    let o = Memᴰ.of_map (λ (s : Station). s.number) ps (perm_mem (sort_perm (λ i. i) (map (λ (s : Station). s.number) ps)) m) in
    let f = filter_mem (answers_to all q k) all o.1 in
    (o.0, f.0, f.1, o.2)

-- ---- few points

-- with k or fewer points enrolled every point answers
pub few_answer : (all : List Station) (q : Site) (k : ℕ) → length all ≤ k → (p : Station) → Mem p all → answers_to all q k p ≡ true
unfolding answers_to
few_answer all q k few p m =
    lt-ltb (count (as_near_other q p) all) k (omega (arith, count_less (as_near_other q p) all m (self_no_other q p)))

-- so the answer is all of them
pub few_all_answer : (all : List Station) (q : Site) (k : ℕ) → length all ≤ k → answer all q k ≡ rising (map (λ p. p.number) all)
unfolding answer
few_all_answer all q k few =
    ap (λ ps. rising (map (λ (p : Station). p.number) ps))
    (filter_all (answers_to all q k) all (all_mem (λ p. answers_to all q k p ≡ true) all (few_answer all q k few)))
