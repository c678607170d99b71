-- Lists that hold the same numbers rise the same way: two insertions may change places. And what a filter keeps of a permuted list. Assumes nothing.
use Prim.Native.Nat.{ℕ, ◌<◌}
use native.Mathlib.Omega.{arith}
use mathlib.Core.Path.{◌≡◌, refl, sym, ap, ◌∙◌}
use mathlib.Core.Bool.{Bool, false, cond}
use mathlib.Core.List.{List, [], ◌∷◌, ◌++◌, map}
use native.Mathlib.Decide.{dec_le, dec_lt}
use borrow.Author.Tests.{le-leb, lt-leb}
use Rattle.order.specs.Lists.{filter, All}
use Rattle.order.specs.Order.{insert, sort_by, Perm, pnil, pskip, pswap, ptrans}
use Rattle.order.proofs.Perm.{prefl}
use Rattle.order.proofs.Lists.{by_bool}
use Rattle.filter.specs.Meaning.{rising}

-- ---- filters

pub filter_append : {A : Type 0} (P : A → Bool) (xs ys : List A) → filter P (xs ++ ys) ≡ filter P xs ++ filter P ys
filter_append P [] ys = refl
filter_append P (x ∷ xs) ys =
    let ih = filter_append P xs ys in
    by_bool (λ b. cond b (x ∷ filter P (xs ++ ys)) (filter P (xs ++ ys)) ≡ cond b (x ∷ filter P xs) (filter P xs) ++ filter P ys) (P x)
    (λ e. ap (λ l. x ∷ l) ih) (λ e. ih)

pub filter_none : {A : Type 0} (P : A → Bool) (xs : List A) → All (λ x. P x ≡ false) xs → filter P xs ≡ []
filter_none P [] h = refl
filter_none P (x ∷ xs) h = rw h.0 (filter_none P xs h.1)

pub perm_filter : {A : Type 0} (P : A → Bool) {xs ys : List A} → Perm xs ys → Perm (filter P xs) (filter P ys)
perm_filter P pnil = pnil
perm_filter P (pskip x {xs = xs} {ys = ys} p) =
    let ih = perm_filter P p in
    by_bool (λ b. Perm (cond b (x ∷ filter P xs) (filter P xs)) (cond b (x ∷ filter P ys) (filter P ys))) (P x) (λ e. pskip x ih) (λ e. ih)
perm_filter P (pswap x y xs) =
    let f = filter P xs in
    by_bool (λ a. Perm (cond a (x ∷ cond (P y) (y ∷ f) f) (cond (P y) (y ∷ f) f)) (cond (P y) (y ∷ cond a (x ∷ f) f) (cond a (x ∷ f) f))) (P x)
    (λ e. by_bool (λ b. Perm (x ∷ cond b (y ∷ f) f) (cond b (y ∷ x ∷ f) (x ∷ f))) (P y) (λ e. pswap x y f) (λ e. prefl (x ∷ f)))
    (λ e. prefl (cond (P y) (y ∷ f) f))
perm_filter P (ptrans p r) = ptrans (perm_filter P p) (perm_filter P r)

pub filter_map : {A B : Type 0} (P : B → Bool) (f : A → B) (xs : List A) → filter P (map f xs) ≡ map f (filter (λ x. P (f x)) xs)
filter_map P f [] = refl
filter_map P f (x ∷ xs) =
    let ih = filter_map P f xs in
    by_bool (λ b. cond b (f x ∷ filter P (map f xs)) (filter P (map f xs)) ≡ map f (cond b (x ∷ filter (λ y. P (f y)) xs) (filter (λ y. P (f y)) xs))) (P (f x))
    (λ e. ap (λ l. f x ∷ l) ih) (λ e. ih)

pub filter_same : {A : Type 0} (P Q : A → Bool) (xs : List A) → All (λ x. P x ≡ Q x) xs → filter P xs ≡ filter Q xs
filter_same P Q [] h = refl
filter_same P Q (x ∷ xs) h = rw (h.0, filter_same P Q xs h.1)

-- ---- numbers

-- numbers by themselves
abbrev put : ℕ → List ℕ → List ℕ
put = insert (λ n. n)

put_less : (x y : ℕ) → x < y → (ns : List ℕ) → put x (put y ns) ≡ put y (put x ns)
put_less x y l [] = rw (le-leb x y (omega arith), lt-leb y x l)
put_less x y l (n ∷ ns) =
    let ih = put_less x y l ns in
    elim (dec_le y n) [
      | yes h ↦ simp (le-leb y n h, le-leb x n (omega arith), le-leb x y (omega arith), lt-leb y x l)
      | no h ↦ elim (dec_le x n) [
        | yes g ↦ simp (lt-leb y n (omega arith), le-leb x n g, lt-leb y x l)
        | no g ↦ simp (lt-leb y n (omega arith), lt-leb x n (omega arith)) (ap (λ l. n ∷ l) ih)
      ]
    ]

insert_turn : (x y : ℕ) (ns : List ℕ) → put x (put y ns) ≡ put y (put x ns)
insert_turn x y ns =
    elim (dec_lt x y) [
      | yes h ↦ put_less x y h ns
      | no h ↦ elim (dec_lt y x) [
        | yes g ↦ sym (put_less y x g ns)
        | no g ↦ let e : x ≡ y = omega arith in rw e
      ]
    ]

pub rising_same : {xs ys : List ℕ} → Perm xs ys → rising xs ≡ rising ys
unfolding rising
rising_same pnil = refl
rising_same (pskip x p) = ap (insert (λ n. n) x) (rising_same p)
rising_same (pswap x y xs) = insert_turn x y (sort_by (λ n. n) xs)
rising_same (ptrans p r) = rising_same p ∙ rising_same r
