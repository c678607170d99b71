-- The answer list: kept numbers that are sorted in place are those numbers, rising. Assumes nothing.
use Prim.Native.Nat.{ℕ, suc, ◌+◌, ◌≤◌, ◌<◌}
use native.Mathlib.Omega.{arith}
use mathlib.Core.Path.{◌≡◌, refl, ap, subst, ◌∙◌, sym}
use mathlib.Core.Bool.{Bool}
use mathlib.Core.List.{List, [], ◌∷◌, ◌++◌}
use lib.ListN.{length, take, drop, get_or, set}
use lib.Seq.{take_all, take-append_seam, drop-append_seam}
use Rattle.std.specs.List.{sum_by}
use Rattle.std.specs.List.Sorted.{IsPermutation, IsSorted, IsNonDecreasing}
use Rattle.std.specs.Ordering.{nat_cmp}
use Rattle.std.proofs.lemmas.List.Sorted.{IsNonDecreasingBy-from_sort, sum_by-IsPermutation}
use Rattle.std.proofs.lemmas.List.Sums.{sum_by-cons}
use Rattle.order.specs.Lists.{one, count, Rises}
use Rattle.order.specs.Order.{sort_by}
use Rattle.order.proofs.Lists.{perm_count, all_from_at}
use Rattle.order.proofs.Least.{up_to, rises_only}
use Rattle.order.proofs.Order.{sort_length, sort_perm}
use Rattle.order.proofs.Pairwise.{sort_rises}
use Rattle.filter.specs.Meaning.{rising}
use Rattle.filter.specs.Query.{laid_over}
use Rattle.filter.proofs.RowLaws.{map_same, laid_next}

-- one number more at the front of the list
pub kept_next : (kept old : List ℕ) (i : ℕ) → i < length kept → length kept ≤ length old → {list : List ℕ} → list ≡ laid_over (take i kept) old
    → set list i (get_or kept i 0) ≡ laid_over (take (i + 1) kept) old
kept_next kept old i h room e =
    laid_next (λ n. n) kept 0 old i h (omega arith) (e ∙ ap (λ (l : List ℕ). laid_over l old) (sym (map_same (take i kept))))
    ∙ ap (λ (l : List ℕ). laid_over l old) (map_same (take (i + 1) kept))

pub rising_length : (xs : List ℕ) → length (rising xs) ≡ length xs
unfolding rising
rising_length xs = sort_length (λ n. n) xs

count_sum : (P : ℕ → Bool) (ns : List ℕ) → count P ns ≡ sum_by (λ n. one (P n)) ns
count_sum P [] = refl
count_sum P (n ∷ ns) = omega (arith, count_sum P ns, sum_by-cons (λ n. one (P n)) n ns)

rises : (ns : List ℕ) → IsNonDecreasing ns → Rises ns
rises [] h = tt
rises (n ∷ ns) h =
    (all_from_at (λ m. n ≤ m) ns 0 (λ i l. h 0 (suc i) 0 (omega arith) (omega arith)), rises ns (λ i j d u l. h (suc i) (suc j) d (omega arith) (omega arith)))

pub sorted_rising : (kept ns : List ℕ) → IsPermutation kept ns → IsSorted nat_cmp ns → ns ≡ rising kept
unfolding rising
sorted_rising kept ns moved sorted =
    rises_only ns (sort_by (λ n. n) kept) (rises ns (IsNonDecreasingBy-from_sort (λ n. n) ns sorted)) (sort_rises (λ n. n) kept)
    (λ v. count_sum (up_to v) ns ∙ sum_by-IsPermutation (λ n. one (up_to v n)) kept ns moved ∙ sym (count_sum (up_to v) kept) ∙ sym (perm_count (sort_perm (λ n. n) kept) (up_to v)))

-- the front of the list holds the numbers kept; sorted there, it makes the answer list
pub sorted_front : (kept old front l : List ℕ) (i : ℕ) → length kept ≤ i → l ≡ laid_over (take i kept) old
    → IsPermutation (take (length kept) l) front → IsSorted nat_cmp front → front ++ drop (length kept) l ≡ laid_over (rising kept) old
sorted_front kept old front l i h e moved sorted =
    let n = length kept in
    let tail = drop n old in
    let whole : l ≡ kept ++ tail = e ∙ ap (λ (ns : List ℕ). laid_over ns old) (take_all i kept h) in
    let from : take n l ≡ kept = ap (take n) whole ∙ take-append_seam kept tail in
    let behind : drop n l ≡ tail = ap (drop n) whole ∙ drop-append_seam kept tail in
    let rises : front ≡ rising kept = sorted_rising kept front (subst (λ (ns : List ℕ). IsPermutation ns front) from moved) sorted in
    ap (λ (ns : List ℕ). ns ++ drop n l) rises
    ∙ ap (λ (ns : List ℕ). rising kept ++ ns) behind
    ∙ ap (λ (m : ℕ). rising kept ++ drop m old) (sym (rising_length kept))
