-- Laws of how often a number stands in a list, and of the numbers from a on: what stands at most once everywhere makes a list without repetition, and what is counted once in a join has one source. By recursion on the list. Assumes nothing.
use Prim.Native.Nat.{ℕ, zero, suc, ◌+◌, ◌≤◌, ◌<◌}
use native.Mathlib.Omega.{arith}
use native.Mathlib.Decide.{ℕ_discrete, dec_le}
use mathlib.Core.Path.{◌≡◌, refl, sym, ap, ◌∙◌}
use mathlib.Core.Logic.{⊎_elim}
use mathlib.Core.Bool.{Bool, true, false, not, cond}
use mathlib.Core.List.Memᴰ
use mathlib.Core.List.{List, [], ◌∷◌, ◌++◌}
use lib.Dec.{eqb}
use lib.ListN.{length}
use borrow.Author.Tests.{eqb-true, eq-eqb, ne_eqb}
use Rattle.order.specs.Lists.{one, count, filter, every, join, Mem, NoDup}
use Rattle.order.specs.Order.{up_from}
use Rattle.order.proofs.Lists.{by_bool, count_append, mem_count, count_mem, filter_mem, length_filter, mem_all}
use Rattle.order.proofs.Order.{up_all, mem_up}
use Rattle.rules.proofs.Tests.{every_all, all_every}

-- ---- a number in a list

pub number_counted : {r : ℕ} {xs : List ℕ} → Mem r xs → 1 ≤ count (eqb r) xs
number_counted m = mem_count eqb eqb-true (λ a. eq-eqb a a refl) m

pub counted_number : (r : ℕ) (xs : List ℕ) → 1 ≤ count (eqb r) xs → Mem r xs
counted_number r xs h = count_mem eqb eqb-true (λ a. eq-eqb a a refl) r xs h

pub number_missing : (r : ℕ) (xs : List ℕ) → (Mem r xs → ⊥) → count (eqb r) xs ≡ 0
number_missing r xs n =
    elim (dec_le 1 (count (eqb r) xs)) [ yes h ↦ absurd (n (counted_number r xs h)) | no h ↦ omega arith ]

pub number_in : (r : ℕ) (xs : List ℕ) → Dec (Mem r xs)
number_in r xs =
    elim (dec_le 1 (count (eqb r) xs)) [
      | yes h ↦ yes (counted_number r xs h)
      | no h ↦ no (λ m. h (number_counted m))
    ]

-- none twice: each counted once at most
pub nodup_count : (r : ℕ) (xs : List ℕ) → NoDup xs → count (eqb r) xs ≤ 1
nodup_count r [] d = omega arith
nodup_count r (x ∷ xs) d =
    elim (ℕ_discrete r x) [
      | yes e ↦ rw (eq-eqb r x e) (omega (arith, number_missing r xs (λ m. d.0 (Memᴰ.cast (sym e) m))))
      | no n ↦ rw (ne_eqb r x n) (omega (arith, nodup_count r xs d.1))
    ]

pub count_nodup : (xs : List ℕ) → ((r : ℕ) → Mem r xs → count (eqb r) xs ≤ 1) → NoDup xs
count_nodup [] h = tt
count_nodup (x ∷ xs) h = (
  (λ m.
      let e : eqb x x ≡ true = eq-eqb x x refl in
      let k : one (eqb x x) + count (eqb x) xs ≤ 1 = h x (Memᴰ.head refl) in
      let k' : 1 + count (eqb x) xs ≤ 1 = rw e at k in
      omega (arith, number_counted m)),
  count_nodup xs (λ r m. omega (arith, h r (Memᴰ.tail m))),
)

-- ---- counts in a join

pub part_count : {A B : Type 0} (P : B → Bool) (f : A → List B) {x : A} (xs : List A) → Mem x xs → count P (f x) ≤ count P (join f xs)
part_count P f [] m = absurd (Memᴰ.not-nil m)
part_count P f (y ∷ ys) (Memᴰ.head e) = omega (arith, count_append P (f y) (join f ys), ap (λ z. count P (f z)) e)
part_count P f (y ∷ ys) (Memᴰ.tail m) = omega (arith, count_append P (f y) (join f ys), part_count P f ys m)

-- p is the only source of r: its part has r once, the others not at all
pub record Source (f : ℕ → List ℕ) (r : ℕ) (xs : List ℕ) : Type 0 where
  pub place : ℕ
  pub there : Mem place xs
  pub only : (q : ℕ) → Mem q xs → count (eqb r) (f q) ≡ one (eqb place q)

module _ (f : ℕ → List ℕ) (r : ℕ) where
  pub one_source : (xs : List ℕ) → NoDup xs → count (eqb r) (join f xs) ≡ 1 → Source f r xs
  one_source [] d h = absurd (omega arith)
  one_source (x ∷ xs) d h =
      let sum : count (eqb r) (f x ++ join f xs) ≡ count (eqb r) (f x) + count (eqb r) (join f xs) = count_append (eqb r) (f x) (join f xs) in
      let apart : (q : ℕ) → Mem q xs → (x ≡ q) → ⊥ = λ q m e. d.0 (Memᴰ.cast e m) in
      elim (dec_le 1 (count (eqb r) (f x))) [
        | yes k ↦
            record {
              place = x;
              there = Memᴰ.head refl;
              only = λ q m.
                  ⊎_elim {C = count (eqb r) (f q) ≡ one (eqb x q)}
                  (λ e. rw (eq-eqb x q (sym e)) (omega (arith, ap (λ z. count (eqb r) (f z)) e)))
                  (λ n. rw (ne_eqb x q (apart q n)) (omega (arith, part_count (eqb r) f xs n)))
                  (Memᴰ.cases_cons m);
            }
        | no k ↦
            let s = one_source xs d.1 (omega arith) in
            record {
              place = s.place;
              there = Memᴰ.tail s.there;
              only = λ q m.
                  ⊎_elim {C = count (eqb r) (f q) ≡ one (eqb s.place q)}
                  (λ e.
                  rw (ne_eqb s.place q (λ g. apart s.place s.there (sym (g ∙ e))))
                  (omega (arith, ap (λ z. count (eqb r) (f z)) e)))
                  (λ n. s.only q n)
                  (Memᴰ.cases_cons m);
            }
      ]

  -- then r is counted in a join as often as its source in the list
  pub source_count : (p : ℕ) (ys : List ℕ) → ((q : ℕ) → Mem q ys → count (eqb r) (f q) ≡ one (eqb p q)) → count (eqb r) (join f ys) ≡ count (eqb p) ys
  source_count p [] h = refl
  source_count p (y ∷ ys) h =
      omega (
        arith,
        count_append (eqb r) (f y) (join f ys),
        h y (Memᴰ.head refl),
        source_count p ys (λ q m. h q (Memᴰ.tail m)),
      )

-- ---- the numbers from a on

pub up_mem : (r a n : ℕ) → Mem r (up_from a n) → (a ≤ r) × (r < a + n)
up_mem r a n m = mem_all (λ i. (a ≤ i) × (i < a + n)) (up_from a n) (up_all (λ i. (a ≤ i) × (i < a + n)) a n (λ i h k. (h, k))) m

pub nodup_up : (a n : ℕ) → NoDup (up_from a n)
nodup_up a zero = tt
nodup_up a (suc n) = ((λ m. omega (arith, up_mem a (suc a) n m)), nodup_up (suc a) n)

pub up_append : (a m n : ℕ) → up_from a (m + n) ≡ up_from a m ++ up_from (a + m) n
up_append a zero n =
    let e : 0 + n ≡ n = omega arith in
    let g : a + 0 ≡ a = omega arith in
    rw (e, g)
up_append a (suc m) n =
    let e : suc m + n ≡ suc (m + n) = omega arith in
    let g : suc a + m ≡ a + suc m = omega arith in
    rw (e, up_append (suc a) m n, g)

-- ---- tests of the numbers below n

module _ (P : ℕ → Bool) (n : ℕ) where
  pub every_below : every P (up_from 0 n) ≡ true → (s : ℕ) → s < n → P s ≡ true
  every_below e s h = mem_all (λ i. P i ≡ true) (up_from 0 n) (every_all P (up_from 0 n) e) (mem_up s 0 n (omega arith) (omega arith))

  pub below_every : ((s : ℕ) → s < n → P s ≡ true) → every P (up_from 0 n) ≡ true
  below_every h = all_every P (up_from 0 n) (up_all (λ i. P i ≡ true) 0 n (λ i l u. h i (omega arith)))

-- ---- those that pass, and those that do not

pub filter_nodup : {A : Type 0} (P : A → Bool) (xs : List A) → NoDup xs → NoDup (filter P xs)
filter_nodup P [] d = tt
filter_nodup P (x ∷ xs) d =
    let ih = filter_nodup P xs d.1 in
    by_bool (λ b. NoDup (cond b (x ∷ filter P xs) (filter P xs))) (P x) (λ e. ((λ m. d.0 (filter_mem P xs m).0), ih)) (λ e. ih)

one_each : (b : Bool) → one b + one (not b) ≡ 1
one_each true = refl
one_each false = refl

count_both : {A : Type 0} (P : A → Bool) (xs : List A) → count P xs + count (λ x. not (P x)) xs ≡ length xs
count_both P [] = refl
count_both P (x ∷ xs) = omega (arith, one_each (P x), count_both P xs)

pub filter_both : {A : Type 0} (P : A → Bool) (xs : List A) → length (filter P xs) + length (filter (λ x. not (P x)) xs) ≡ length xs
filter_both P xs = omega (arith, length_filter P xs, length_filter (λ x. not (P x)) xs, count_both P xs)
