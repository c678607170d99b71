-- Laws of how often each slot was referred to: one reference more, and no more than eight a slot. By recursion on the lists. Assumes nothing.
use Prim.Native.Nat.{ℕ, zero, suc, ◌+◌, ◌*◌, ◌≤◌, ◌<◌}
use native.Mathlib.Omega.{arith}
use native.Mathlib.Decide.{ℕ_discrete}
use mathlib.Core.Path.{◌≡◌, sym, ap, ◌∙◌}
use mathlib.Core.Bool.{Bool}
use mathlib.Core.List.{List, [], ◌∷◌, ◌++◌}
use borrow.Author.Tests.{eq-eqb, ne_eqb}
use lib.Dec.{eqb}
use lib.ListN.{length, get_or, set, replicate, length-set, length-map, length-replicate, get_or-replicate}
use lib.Seq.{get_or-set_same, get_or-set_other}
use Rattle.order.specs.Lists.{one, count, join}
use Rattle.order.specs.Order.{up_from}
use Rattle.order.proofs.Lists.{count_append}
use Rattle.figures.specs.Figures.{FAN, SLOTS}
use Rattle.table.specs.Words.{Words}
use Rattle.table.specs.Slots.{entries_at}
use Rattle.rules.specs.Rules.{is_above, refs_at}
use Rattle.table.proofs.Slots.{page_few}
use Rattle.rules.proofs.Tests.{by_test}
use Rattle.audit.specs.Seen.{Tally}
use Rattle.audit.proofs.Gathered.{length_more}

-- ---- the tally

pub none_tallied : Tally (replicate SLOTS 0) []
none_tallied = record { long = length-replicate {A = ℕ} SLOTS 0; exact = λ s h. get_or-replicate {A = ℕ} SLOTS s 0 0 h }

-- one reference more
pub one_tallied : (times refs : List ℕ) (r : ℕ) → r < SLOTS → Tally times refs → Tally (set times r (get_or times r 0 + 1)) (refs ++ r ∷ [])
one_tallied times refs r low t =
    record { long = length-set times r (get_or times r 0 + 1) ∙ t.long; exact = λ s h. go s h (ℕ_discrete s r) }
  where
    go : (s : ℕ) → s < SLOTS → Dec (s ≡ r) → get_or (set times r (get_or times r 0 + 1)) s 0 ≡ count (eqb s) (refs ++ r ∷ [])
    go s h (yes e) =
        let v = get_or times r 0 + 1 in
        let here : get_or (set times r v) s 0 ≡ v = ap (λ k. get_or (set times r v) k 0) e ∙ get_or-set_same times r v 0 (omega (arith, t.long)) in
        let same : get_or times r 0 ≡ get_or times s 0 = ap (λ k. get_or times k 0) (sym e) in
        let last : one (eqb s r) ≡ 1 = ap one (eq-eqb s r e) in
        omega (arith, t.exact s h, count_append (eqb s) refs (r ∷ []))
    go s h (no d) =
        let v = get_or times r 0 + 1 in
        let there : get_or (set times r v) s 0 ≡ get_or times s 0 = get_or-set_other times r s v 0 d in
        let last : one (eqb s r) ≡ 0 = ap one (ne_eqb s r d) in
        omega (arith, t.exact s h, count_append (eqb s) refs (r ∷ []))

-- a number more at one place
pub few_more : (times : List ℕ) (r m : ℕ) → length times ≡ SLOTS → r < SLOTS → ((s : ℕ) → s < SLOTS → get_or times s 0 ≤ m)
    → (s : ℕ) → s < SLOTS → get_or (set times r (get_or times r 0 + 1)) s 0 ≤ m + 1
few_more times r m l low few s h = go (ℕ_discrete s r)
  where
    go : Dec (s ≡ r) → get_or (set times r (get_or times r 0 + 1)) s 0 ≤ m + 1
    go (yes e) = rw (e, get_or-set_same times r (get_or times r 0 + 1) 0 (omega arith)) (omega (arith, few r low))
    go (no d) = rw (get_or-set_other times r s (get_or times r 0 + 1) 0 d) (omega (arith, few s h))

-- ---- how many references there are

count_few : {A : Type 0} (P : A → Bool) (xs : List A) → count P xs ≤ length xs
count_few P [] = omega arith
count_few P (x ∷ xs) = by_test (P x) (λ e. rw e (omega (arith, count_few P xs))) (λ e. rw e (omega (arith, count_few P xs)))

refs_few : (ws : Words) (s : ℕ) → length (refs_at ws s) ≤ FAN
refs_few ws s =
    by_test (is_above ws s) (λ e. rw e (omega (arith, length-map (entries_at ws s) (λ e. e.reference), page_few ws s))) (λ e. rw e (omega arith))

joined_few : (ws : Words) (n : ℕ) → length (join (refs_at ws) (up_from 0 n)) ≤ FAN * n
joined_few ws zero = omega arith
joined_few ws (suc n) =
    let e : n + 1 ≡ suc n = omega arith in
    let l : length (join (refs_at ws) (up_from 0 (suc n))) ≡ length (join (refs_at ws) (up_from 0 n)) + length (refs_at ws n) =
    ap (λ k. length (join (refs_at ws) (up_from 0 k))) (sym e) ∙ length_more (refs_at ws) n in
    omega (arith, joined_few ws n, refs_few ws n)

-- no slot is referred to more often than the slots passed have entries
pub tally_few : (ws : Words) (times : List ℕ) (n : ℕ) → n ≤ SLOTS → Tally times (join (refs_at ws) (up_from 0 n)) → (s : ℕ) → s < SLOTS → get_or times s 0 ≤ FAN * SLOTS
tally_few ws times n h t s l =
    omega (arith, t.exact s l, count_few (eqb s) (join (refs_at ws) (up_from 0 n)), joined_few ws n)
