-- Laws of joined lists, by recursion on the list: members, joins of joins and of maps, and when no element stands twice. Assumes nothing.
use mathlib.Core.Path.{◌≡◌, refl, sym, ap, subst, ◌∙◌}
use mathlib.Core.Logic.{⊎_elim}
use mathlib.Core.List.Memᴰ
use mathlib.Core.List.{List, [], ◌∷◌, ◌++◌, map, map-append}
use Rattle.order.specs.Lists.{join, Mem, All, NoDup}
use Rattle.order.specs.Order.{Perm, pnil, pskip, ptrans}
use Rattle.order.proofs.Perm.{psym, perm_mem}
use Rattle.order.proofs.Lists.{join_append, mem_front, all_append, perm_nodup, nodup_append}

-- ---- members

pub mem_join : {A B : Type 0} (f : A → List B) {x : A} {r : B} (xs : List A) → Mem x xs → Mem r (f x) → Mem r (join f xs)
mem_join f [] m n = absurd (Memᴰ.not-nil m)
mem_join f {r = r} (y ∷ ys) (Memᴰ.head e) n = Memᴰ.append_left (join f ys) (subst (λ z. Mem r (f z)) e n)
mem_join f (y ∷ ys) (Memᴰ.tail m) n = Memᴰ.append_right (f y) (mem_join f ys m n)

pub join_mem : {A B : Type 0} (f : A → List B) {r : B} (xs : List A) → Mem r (join f xs) → (x : A) × Mem x xs × Mem r (f x)
join_mem f [] m = absurd (Memᴰ.not-nil m)
join_mem {A} f {r} (y ∷ ys) m =
    ⊎_elim {C = (x : A) × Mem x (y ∷ ys) × Mem r (f x)}
    (λ n. (y, Memᴰ.head refl, n)) (λ n. let t = join_mem f ys n in (t.0, Memᴰ.tail t.1, t.2))
    (Memᴰ.append_cases (f y) m)

-- ---- joins

pub join_join : {A B C : Type 0} (f : B → List C) (g : A → List B) (xs : List A) → join f (join g xs) ≡ join (λ x. join f (g x)) xs
join_join f g [] = refl
join_join f g (x ∷ xs) = join_append f (g x) (join g xs) ∙ ap (λ l. join f (g x) ++ l) (join_join f g xs)

pub join_map : {A B C : Type 0} (f : B → List C) (g : A → B) (xs : List A) → join f (map g xs) ≡ join (λ x. f (g x)) xs
join_map f g [] = refl
join_map f g (x ∷ xs) = ap (λ l. f (g x) ++ l) (join_map f g xs)

pub map_join : {A B C : Type 0} (g : B → C) (f : A → List B) (xs : List A) → map g (join f xs) ≡ join (λ x. map g (f x)) xs
map_join g f [] = refl
map_join g f (x ∷ xs) = map-append g (f x) (join f xs) ∙ ap (λ l. map g (f x) ++ l) (map_join g f xs)

pub join_same : {A B : Type 0} (f g : A → List B) (xs : List A) → ((x : A) → Mem x xs → f x ≡ g x) → join f xs ≡ join g xs
join_same f g [] h = refl
join_same f g (x ∷ xs) h =
    let e = h x (Memᴰ.head refl) in
    let d = join_same f g xs (λ y m. h y (Memᴰ.tail m)) in
    cc

-- ---- all of a list

pub all_left : {A : Type 0} (Q : A → Type 0) (xs ys : List A) → All Q (xs ++ ys) → All Q xs
all_left Q [] ys a = tt
all_left Q (x ∷ xs) ys a = (a.0, all_left Q xs ys a.1)

pub all_right : {A : Type 0} (Q : A → Type 0) (xs ys : List A) → All Q (xs ++ ys) → All Q ys
all_right Q [] ys a = a
all_right Q (x ∷ xs) ys a = all_right Q xs ys a.1

-- of a join: of each part
pub all_parts : {A B : Type 0} (Q : B → Type 0) (f : A → List B) (xs : List A) → All Q (join f xs) → All (λ x. All Q (f x)) xs
all_parts Q f [] a = tt
all_parts Q f (x ∷ xs) a = (all_left Q (f x) (join f xs) a, all_parts Q f xs (all_right Q (f x) (join f xs) a))

pub all_join : {A B : Type 0} (Q : B → Type 0) (f : A → List B) (xs : List A) → All (λ x. All Q (f x)) xs → All Q (join f xs)
all_join Q f [] a = tt
all_join Q f (x ∷ xs) a = all_append Q (f x) (join f xs) a.0 (all_join Q f xs a.1)

-- ---- no element twice

pub nodup_left : {A : Type 0} (xs ys : List A) → NoDup (xs ++ ys) → NoDup xs
nodup_left [] ys d = tt
nodup_left (x ∷ xs) ys d = ((λ m. d.0 (Memᴰ.append_left ys m)), nodup_left xs ys d.1)

pub nodup_right : {A : Type 0} (xs ys : List A) → NoDup (xs ++ ys) → NoDup ys
nodup_right [] ys d = d
nodup_right (x ∷ xs) ys d = nodup_right xs ys d.1

pub nodup_apart : {A : Type 0} (xs ys : List A) → NoDup (xs ++ ys) → {s : A} → Mem s xs → Mem s ys → ⊥
nodup_apart [] ys d m n = Memᴰ.not-nil m
nodup_apart (x ∷ xs) ys d (Memᴰ.head e) n = d.0 (Memᴰ.append_right xs (Memᴰ.cast (sym e) n))
nodup_apart (x ∷ xs) ys d (Memᴰ.tail m) n = nodup_apart xs ys d.1 m n

-- each part of a join
pub nodup_parts : {A B : Type 0} (f : A → List B) (xs : List A) → NoDup (join f xs) → All (λ x. NoDup (f x)) xs
nodup_parts f [] d = tt
nodup_parts f (x ∷ xs) d = (nodup_left (f x) (join f xs) d, nodup_parts f xs (nodup_right (f x) (join f xs) d))

-- and no two parts share
pub nodup_source : {A B : Type 0} (f : A → List B) (xs : List A) → NoDup (join f xs) → {x y : A} {r : B} → Mem x xs → Mem y xs → Mem r (f x) → Mem r (f y) → x ≡ y
nodup_source f [] d m n p q = absurd (Memᴰ.not-nil m)
nodup_source f (z ∷ zs) d (Memᴰ.head e) (Memᴰ.head g) p q = e ∙ sym g
nodup_source f (z ∷ zs) d {r = r} (Memᴰ.head e) (Memᴰ.tail n) p q =
    absurd (nodup_apart (f z) (join f zs) d (subst (λ w. Mem r (f w)) e p) (mem_join f zs n q))
nodup_source f (z ∷ zs) d {r = r} (Memᴰ.tail m) (Memᴰ.head g) p q =
    absurd (nodup_apart (f z) (join f zs) d (subst (λ w. Mem r (f w)) g q) (mem_join f zs m p))
nodup_source f (z ∷ zs) d (Memᴰ.tail m) (Memᴰ.tail n) p q = nodup_source f zs (nodup_right (f z) (join f zs) d) m n p q

pub nodup_join : {A B : Type 0} (f : A → List B) (xs : List A) → NoDup xs → ((x : A) → Mem x xs → NoDup (f x))
    → ((x y : A) (r : B) → Mem x xs → Mem y xs → Mem r (f x) → Mem r (f y) → x ≡ y) → NoDup (join f xs)
nodup_join f [] d one apart = tt
nodup_join f (x ∷ xs) d one apart =
    nodup_append (f x) (join f xs) (one x (Memᴰ.head refl))
    (nodup_join f xs d.1 (λ y m. one y (Memᴰ.tail m)) (λ y z r m n. apart y z r (Memᴰ.tail m) (Memᴰ.tail n)))
    (λ r m n. let t = join_mem f xs n in d.0 (Memᴰ.cast (apart x t.0 r (Memᴰ.head refl) (Memᴰ.tail t.1) m t.2) t.1))

-- two lists with the same members, none twice
pub nodup_perm : {A : Type 0} (xs ys : List A) → NoDup xs → NoDup ys → ((a : A) → Mem a xs → Mem a ys) → ((a : A) → Mem a ys → Mem a xs) → Perm xs ys
nodup_perm [] [] d e f g = pnil
nodup_perm [] (y ∷ ys) d e f g = absurd (Memᴰ.not-nil (g y (Memᴰ.head refl)))
nodup_perm (x ∷ xs) ys d e f g =
    let t = mem_front (f x (Memᴰ.head refl)) in
    let u : NoDup (x ∷ t.0) = perm_nodup (psym t.1) e in
    ptrans
    (pskip x
    (nodup_perm xs t.0 d.1 u.1
    (λ a m. ⊎_elim (λ q. absurd (d.0 (Memᴰ.cast (sym q) m))) (λ n. n) (Memᴰ.cases_cons (perm_mem (psym t.1) (f a (Memᴰ.tail m)))))
    (λ a m. ⊎_elim (λ q. absurd (u.0 (Memᴰ.cast (sym q) m))) (λ n. n) (Memᴰ.cases_cons (g a (perm_mem t.1 (Memᴰ.tail m)))))))
    t.1
