-- Laws of counts, filters, joined lists, `All` and `NoDup`, each by recursion on the list or on the permutation. Two lists are permutations of each other where every test counts the same in both. Assumes nothing.
use Prim.Native.Nat.{ℕ, zero, suc, ◌+◌, ◌≤◌, ◌<◌}
use native.Mathlib.Omega.{arith}
use native.Mathlib.Nat.{le_of_suc-le-suc}
use native.Mathlib.Numerals.{add-one}
use mathlib.Core.Path.{◌≡◌, refl, sym, ap, subst, ◌∙◌}
use mathlib.Core.Logic.{⊎_elim}
use mathlib.Core.Bool.{Bool, true, false, cond, ◌&&◌, ◌||◌, false≢true}
use mathlib.Core.List.Memᴰ
use mathlib.Core.List.{
  List,
  [],
  ◌∷◌,
  ◌++◌,
  map,
  append_assoc,
}
use lib.Dec.{eqb, leb}
use lib.ListN.{length, get_or, take, drop, set, replicate}
use lib.Seq.{take-suc}
use borrow.Author.Tests.{eqb-true, leb-true, leb-false}
use Rattle.order.specs.Lists.{one, count, filter, has, join, Mem, All, NoDup, Same}
use Rattle.order.specs.Order.{Perm, pnil, pskip, pswap, ptrans}
use Rattle.order.proofs.Perm.{prefl, psym, perm_mem, perm_before, perm_behind, perm_turn}

-- ---- by the cases of a test

pub by_bool : (Q : Bool → Type 0) (b : Bool) → (b ≡ true → Q true) → (b ≡ false → Q false) → Q b
by_bool Q true y n = y refl
by_bool Q false y n = n refl

pub by_leb : (Q : Bool → Type 0) (a b : ℕ) → (a ≤ b → Q true) → (b < a → Q false) → Q (leb a b)
by_leb Q a b y n = by_bool Q (leb a b) (λ e. y (leb-true a b e)) (λ e. n (leb-false a b e))

-- two tests that both pass
pub and_left : (a b : Bool) → (a && b) ≡ true → a ≡ true
and_left true b e = refl
and_left false b e = e

pub and_right : (a b : Bool) → (a && b) ≡ true → b ≡ true
and_right true b e = e
and_right false b e = absurd (false≢true e)

-- ---- maps

-- below the length no default is met
pub map_at : {A B : Type 0} (f : A → B) (xs : List A) (d : A) (e : B) (i : ℕ) → i < length xs → get_or (map f xs) i e ≡ f (get_or xs i d)
map_at f [] d e i h = absurd (omega arith)
map_at f (x ∷ xs) d e zero h = refl
map_at f (x ∷ xs) d e (suc i) h = map_at f xs d e i (le_of_suc-le-suc h)

pub map_take : {A B : Type 0} (f : A → B) (n : ℕ) (xs : List A) → map f (take n xs) ≡ take n (map f xs)
map_take f zero xs = refl
map_take f (suc n) [] = refl
map_take f (suc n) (x ∷ xs) = ap (λ l. f x ∷ l) (map_take f n xs)

-- past its end nothing is left of a list
pub drop_all : {A : Type 0} (i : ℕ) (xs : List A) → length xs ≤ i → drop i xs ≡ []
drop_all zero [] h = refl
drop_all zero (x ∷ xs) h = absurd (omega arith)
drop_all (suc i) [] h = refl
drop_all (suc i) (x ∷ xs) h = drop_all i xs (le_of_suc-le-suc h)

-- ---- counts and filters

pub one_most : (b : Bool) → one b ≤ 1
one_most true = omega arith
one_most false = omega arith

pub count_most : {A : Type 0} (P : A → Bool) (xs : List A) → count P xs ≤ length xs
count_most P [] = omega arith
count_most P (x ∷ xs) = omega (arith, one_most (P x), count_most P xs)

pub count_append : {A : Type 0} (P : A → Bool) (xs ys : List A) → count P (xs ++ ys) ≡ count P xs + count P ys
count_append P [] ys = omega arith
count_append P (x ∷ xs) ys = omega (arith, count_append P xs ys)

pub count_same : {A : Type 0} (P Q : A → Bool) (xs : List A) → All (λ x. P x ≡ Q x) xs → count P xs ≡ count Q xs
count_same P Q [] h = refl
count_same P Q (x ∷ xs) h = omega (arith, ap one h.0, count_same P Q xs h.1)

pub count_map : {A B : Type 0} (P : B → Bool) (f : A → B) (xs : List A) → count P (map f xs) ≡ count (λ x. P (f x)) xs
count_map P f [] = refl
count_map P f (x ∷ xs) = omega (arith, count_map P f xs)

-- of those that pass another test
pub count_filter : {A : Type 0} (P Q : A → Bool) (xs : List A) → count P (filter Q xs) ≡ count (λ x. Q x && P x) xs
count_filter P Q [] = refl
count_filter P Q (x ∷ xs) =
    let ih = count_filter P Q xs in
    by_bool (λ b. count P (cond b (x ∷ filter Q xs) (filter Q xs)) ≡ one (b && P x) + count (λ x. Q x && P x) xs) (Q x) (λ e. omega (arith, ih)) (λ e. omega (arith, ih))

-- one that does not pass is not counted
pub count_less : {A : Type 0} (P : A → Bool) {a : A} (xs : List A) → Mem a xs → P a ≡ false → count P xs < length xs
count_less P [] m e = absurd (Memᴰ.not-nil m)
count_less P (x ∷ xs) m e =
    ⊎_elim (λ h. omega (arith, ap one (ap P (sym h) ∙ e), count_most P xs))
    (λ h. omega (arith, one_most (P x), count_less P xs h e)) (Memᴰ.cases_cons m)

-- all that pass are counted
pub count_all : {A : Type 0} (P : A → Bool) (xs : List A) → All (λ x. P x ≡ true) xs → count P xs ≡ length xs
count_all P [] h = refl
count_all P (x ∷ xs) h = omega (arith, ap one h.0, count_all P xs h.1)

-- of the first so many, one more
pub count_more : {A : Type 0} (P : A → Bool) (xs : List A) (i : ℕ) (d : A) → i < length xs → count P (take (i + 1) xs) ≡ count P (take i xs) + one (P (get_or xs i d))
count_more P xs i d h =
    let e = ap (λ (j : ℕ). count P (take j xs)) (add-one i) ∙ ap (count P) (take-suc xs i d h) in
    omega (arith, e, count_append P (take i xs) (get_or xs i d ∷ []))

one_mono : (a b : Bool) → (a ≡ true → b ≡ true) → one a ≤ one b
one_mono true b h = rw (h refl) (omega arith)
one_mono false b h = omega arith

pub count_mono : {A : Type 0} (P Q : A → Bool) → ((x : A) → P x ≡ true → Q x ≡ true) → (xs : List A)
    → count P xs ≤ count Q xs
count_mono P Q h [] = omega arith
count_mono P Q h (x ∷ xs) = omega (arith, one_mono (P x) (Q x) (h x), count_mono P Q h xs)

pub length_filter : {A : Type 0} (P : A → Bool) (xs : List A) → length (filter P xs) ≡ count P xs
length_filter P [] = refl
length_filter P (x ∷ xs) =
    let ih = length_filter P xs in
    by_bool (λ b. length (cond b (x ∷ filter P xs) (filter P xs)) ≡ one b + count P xs) (P x) (λ e. omega arith) (λ e. omega arith)

pub filter_mem : {A : Type 0} (P : A → Bool) (xs : List A) {a : A} → Mem a (filter P xs) → Mem a xs × (P a ≡ true)
filter_mem P [] m = absurd (Memᴰ.not-nil m)
filter_mem P (x ∷ xs) {a} m =
    let ih : Mem a (filter P xs) → Mem a xs × (P a ≡ true) = λ n. filter_mem P xs n in
    by_bool (λ b. P x ≡ b → Mem a (cond b (x ∷ filter P xs) (filter P xs)) → Mem a (x ∷ xs) × (P a ≡ true)) (P x)
    (λ e f n. ⊎_elim (λ s. (Memᴰ.head s, ap P s ∙ e)) (λ n'. (Memᴰ.tail (ih n').0, (ih n').1)) (Memᴰ.cases_cons n))
    (λ e f n. (Memᴰ.tail (ih n).0, (ih n).1))
    refl m

pub mem_filter : {A : Type 0} (P : A → Bool) (xs : List A) {a : A} → Mem a xs → P a ≡ true → Mem a (filter P xs)
mem_filter P [] m h = absurd (Memᴰ.not-nil m)
mem_filter P (x ∷ xs) {a} m h =
    let ih : Mem a xs → Mem a (filter P xs) = λ n. mem_filter P xs n h in
    let f : (a ≡ x) → Mem a (cond (P x) (x ∷ filter P xs) (filter P xs)) = λ s.
    let e : P x ≡ true = ap P (sym s) ∙ h in
    rw e (Memᴰ.head s) in
    let g : Mem a xs → Mem a (cond (P x) (x ∷ filter P xs) (filter P xs)) = λ n.
    by_bool (λ b. Mem a (cond b (x ∷ filter P xs) (filter P xs))) (P x) (λ e. Memᴰ.tail (ih n)) (λ e. ih n) in
    ⊎_elim f g (Memᴰ.cases_cons m)

-- a permutation keeps every count
pub perm_count : {A : Type 0} {xs ys : List A} → Perm xs ys → Same xs ys
perm_count pnil P = refl
perm_count (pskip x p) P = omega (arith, perm_count p P)
perm_count (pswap x y xs) P = omega arith
perm_count (ptrans p q) P = perm_count p P ∙ perm_count q P

-- a list with a in it is one with a in front
pub mem_front : {A : Type 0} {a : A} {ys : List A} → Mem a ys → (zs : List A) × Perm (a ∷ zs) ys
mem_front (Memᴰ.head {x = x} {xs = xs} e) =
    (xs, subst (λ b. Perm (b ∷ xs) (x ∷ xs)) (sym e) (prefl (x ∷ xs)))
mem_front {a = a} (Memᴰ.tail {x = x} {xs = xs} m) =
    let r = mem_front m in
    (x ∷ r.0, ptrans (pswap a x r.0) (pskip x r.1))

-- ---- counts and members, where equality is a test

module _ {A : Type 0} (eq : A → A → Bool) (eq-true : (a b : A) → eq a b ≡ true → a ≡ b) (eq_refl : (a : A) → eq a a ≡ true) where
  pub mem_count : {a : A} {xs : List A} → Mem a xs → 1 ≤ count (eq a) xs
  mem_count {a} (Memᴰ.head {x = x} {xs = xs} e) =
      let h : eq a x ≡ true = ap (eq a) (sym e) ∙ eq_refl a in
      rw h (omega arith)
  mem_count (Memᴰ.tail m) = omega (arith, mem_count m)

  pub count_mem : (a : A) (xs : List A) → 1 ≤ count (eq a) xs → Mem a xs
  count_mem a [] h = absurd (omega arith)
  count_mem a (x ∷ xs) h =
      let ih : 1 ≤ count (eq a) xs → Mem a xs = λ k. count_mem a xs k in
      by_bool (λ b. eq a x ≡ b → 1 ≤ one b + count (eq a) xs → Mem a (x ∷ xs)) (eq a x)
      (λ e f k. Memᴰ.head (eq-true a x e)) (λ e f k. Memᴰ.tail (ih (omega arith))) refl h

  pub same_perm : (xs ys : List A) → Same xs ys → Perm xs ys
  same_perm [] [] s = pnil
  same_perm [] (y ∷ ys) s = absurd (omega (arith, s (eq y), mem_count {a = y} {xs = y ∷ ys} (Memᴰ.head refl)))
  same_perm (x ∷ xs) ys s =
      let m : Mem x ys = count_mem x ys (omega (arith, s (eq x), mem_count {a = x} {xs = x ∷ xs} (Memᴰ.head refl))) in
      let r = mem_front m in
      ptrans (pskip x (same_perm xs r.0 (λ P. omega (arith, s P, perm_count r.1 P)))) r.1

  -- the same first element can go
  pub perm_cancel : (x : A) (xs ys : List A) → Perm (x ∷ xs) (x ∷ ys) → Perm xs ys
  perm_cancel x xs ys p = same_perm xs ys (λ P. omega (arith, perm_count p P))

-- a number that stands in a list
pub has_mem : (n : ℕ) (ns : List ℕ) → has n ns ≡ true → Mem n ns
has_mem n [] h = absurd (false≢true h)
has_mem n (x ∷ ns) h =
    let ih : has n ns ≡ true → Mem n ns = has_mem n ns in
    by_bool (λ b. eqb n x ≡ b → (b || has n ns) ≡ true → Mem n (x ∷ ns)) (eqb n x)
    (λ t e g. Memᴰ.head (eqb-true n x e)) (λ t e g. Memᴰ.tail (ih g)) refl h

-- ---- joined lists

pub join_append : {A B : Type 0} (S : A → List B) (xs ys : List A) → join S (xs ++ ys) ≡ join S xs ++ join S ys
join_append S [] ys = refl
join_append S (x ∷ xs) ys = rw (join_append S xs ys, append_assoc)

pub join_one : {A : Type 0} (xs : List A) → join (λ x. x ∷ []) xs ≡ xs
join_one [] = refl
join_one (x ∷ xs) = ap (λ l. x ∷ l) (join_one xs)

pub perm_join : {A B : Type 0} (S : A → List B) {xs ys : List A} → Perm xs ys → Perm (join S xs) (join S ys)
perm_join S pnil = pnil
perm_join S (pskip x p) = perm_before (S x) (perm_join S p)
perm_join S (pswap x y xs) =
    rw (← append_assoc (S x) (S y) (join S xs), ← append_assoc (S y) (S x) (join S xs))
    (perm_behind (perm_turn (S x) (S y)) (join S xs))
perm_join S (ptrans p q) = ptrans (perm_join S p) (perm_join S q)

pub count_join : {A B : Type 0} (S : A → List B) (P : B → Bool) {xs ys : List A} → Perm xs ys
    → count P (join S xs) ≡ count P (join S ys)
count_join S P p = perm_count (perm_join S p) P

-- what holds of all in each holds of all in the joined lists
pub join_in : {A B : Type 0} (S : A → List B) (Q : B → Type 0) (xs : List A)
    → ((x : A) → Mem x xs → (b : B) → Mem b (S x) → Q b) → (b : B) → Mem b (join S xs) → Q b
join_in S Q [] h b m = absurd (Memᴰ.not-nil m)
join_in S Q (x ∷ xs) h b m =
    ⊎_elim (λ n. h x (Memᴰ.head refl) b n) (λ n. join_in S Q xs (λ y my. h y (Memᴰ.tail my)) b n)
    (Memᴰ.append_cases (S x) m)

-- ---- all of a list

module _ {A : Type 0} (Q : A → Type 0) where
  pub all_mem : (xs : List A) → ((x : A) → Mem x xs → Q x) → All Q xs
  all_mem [] h = tt
  all_mem (x ∷ xs) h = (h x (Memᴰ.head refl), all_mem xs (λ y m. h y (Memᴰ.tail m)))

  pub mem_all : {a : A} (xs : List A) → All Q xs → Mem a xs → Q a
  mem_all [] h m = absurd (Memᴰ.not-nil m)
  mem_all {a} (x ∷ xs) h m =
      ⊎_elim (λ e. subst Q (sym e) h.0) (λ n. mem_all xs h.1 n) (Memᴰ.cases_cons m)

  pub all_perm : {xs ys : List A} → Perm xs ys → All Q ys → All Q xs
  all_perm pnil a = a
  all_perm (pskip x p) a = (a.0, all_perm p a.1)
  all_perm (pswap x y xs) a = (a.1.0, (a.0, a.1.1))
  all_perm (ptrans p q) a = all_perm p (all_perm q a)

  pub all_append : (xs ys : List A) → All Q xs → All Q ys → All Q (xs ++ ys)
  all_append [] ys a b = b
  all_append (x ∷ xs) ys a b = (a.0, all_append xs ys a.1 b)

  pub all_take : (n : ℕ) (xs : List A) → All Q xs → All Q (take n xs)
  all_take zero xs a = tt
  all_take (suc n) [] a = tt
  all_take (suc n) (x ∷ xs) a = (a.0, all_take n xs a.1)

  pub all_drop : (n : ℕ) (xs : List A) → All Q xs → All Q (drop n xs)
  all_drop zero xs a = a
  all_drop (suc n) [] a = tt
  all_drop (suc n) (x ∷ xs) a = all_drop n xs a.1

  pub all_set : (xs : List A) (i : ℕ) (y : A) → All Q xs → Q y → All Q (set xs i y)
  all_set [] i y a h = tt
  all_set (x ∷ xs) zero y a h = (h, a.1)
  all_set (x ∷ xs) (suc i) y a h = (a.0, all_set xs i y a.1 h)

  pub all_at : (xs : List A) (i : ℕ) (d : A) → i < length xs → All Q xs → Q (get_or xs i d)
  all_at [] i d lt h = absurd (omega arith)
  all_at (x ∷ xs) zero d lt h = h.0
  all_at (x ∷ xs) (suc i) d lt h = all_at xs i d (le_of_suc-le-suc lt) h.1

  -- and what holds at every place holds of all
  pub all_from_at : (xs : List A) (d : A) → ((i : ℕ) → i < length xs → Q (get_or xs i d)) → All Q xs
  all_from_at [] d h = tt
  all_from_at (x ∷ xs) d h = (h 0 (omega arith), all_from_at xs d (λ i l. h (suc i) (omega arith)))

  pub all_replicate : (n : ℕ) (a : A) → Q a → All Q (replicate n a)
  all_replicate zero a h = tt
  all_replicate (suc n) a h = (h, all_replicate n a h)

pub all_map : {A B : Type 0} (Q : B → Type 0) (f : A → B) (xs : List A) → All (λ x. Q (f x)) xs → All Q (map f xs)
all_map Q f [] a = tt
all_map Q f (x ∷ xs) a = (a.0, all_map Q f xs a.1)

-- what follows of each follows of all
pub all_then : {A : Type 0} (P Q : A → Type 0) → ((x : A) → P x → Q x) → (xs : List A) → All P xs → All Q xs
all_then P Q k [] a = tt
all_then P Q k (x ∷ xs) a = (k x a.0, all_then P Q k xs a.1)

pub all_both : {A : Type 0} (P Q : A → Type 0) (xs : List A) → All P xs → All Q xs → All (λ x. P x × Q x) xs
all_both P Q [] a b = tt
all_both P Q (x ∷ xs) a b = ((a.0, b.0), all_both P Q xs a.1 b.1)

-- ---- no element twice

pub perm_nodup : {A : Type 0} {xs ys : List A} → Perm xs ys → NoDup xs → NoDup ys
perm_nodup pnil d = d
perm_nodup (pskip x p) d = ((λ m. d.0 (perm_mem (psym p) m)), perm_nodup p d.1)
perm_nodup (pswap x y xs) d =
    ((λ m. ⊎_elim (λ e. d.0 (Memᴰ.head (sym e))) (λ n. d.1.0 n) (Memᴰ.cases_cons m)), ((λ m. d.0 (Memᴰ.tail m)), d.1.1))
perm_nodup (ptrans p q) d = perm_nodup q (perm_nodup p d)

pub nodup_append : {A : Type 0} (xs ys : List A) → NoDup xs → NoDup ys → ((a : A) → Mem a xs → Mem a ys → ⊥) → NoDup (xs ++ ys)
nodup_append [] ys d e h = e
nodup_append (x ∷ xs) ys d e h =
    ((λ m. ⊎_elim (λ n. d.0 n) (λ n. h x (Memᴰ.head refl) n) (Memᴰ.append_cases xs m)), nodup_append xs ys d.1 e (λ a m n. h a (Memᴰ.tail m) n))

-- two members are one where no key stands twice and theirs is the same
pub nodup_one : {A B : Type 0} (f : A → B) (xs : List A) → NoDup (map f xs) → {a b : A} → Mem a xs → Mem b xs → f a ≡ f b → a ≡ b
nodup_one f [] d m n e = absurd (Memᴰ.not-nil m)
nodup_one f (x ∷ xs) d {a} {b} m n e =
    let ih : Mem a xs → Mem b xs → a ≡ b = λ u v. nodup_one f xs d.1 u v e in
    ⊎_elim
    (λ s. ⊎_elim (λ t. s ∙ sym t) (λ v. absurd (d.0 (Memᴰ.cast (ap f (sym s) ∙ e) (Memᴰ.map f v)))) (Memᴰ.cases_cons n))
    (λ u. ⊎_elim (λ t. absurd (d.0 (Memᴰ.cast (ap f (sym t) ∙ sym e) (Memᴰ.map f u)))) (λ v. ih u v) (Memᴰ.cases_cons n))
    (Memᴰ.cases_cons m)
