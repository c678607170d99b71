-- Laws of `Perm`, by recursion on how the permutation is made: it can be turned round, and it keeps lengths, members, maps and appending. Assumes nothing.
use Prim.Native.Nat.{suc}
use mathlib.Core.Path.{◌≡◌, refl, ap, ◌∙◌}
use mathlib.Core.List.Memᴰ
use mathlib.Core.List.{List, [], ◌∷◌, ◌++◌, map, append-nil}
use lib.ListN.{length}
use Rattle.order.specs.Lists.{Mem}
use Rattle.order.specs.Order.{Perm, pnil, pskip, pswap, ptrans}

pub prefl : {A : Type 0} (xs : List A) → Perm xs xs
prefl [] = pnil
prefl (x ∷ xs) = pskip x (prefl xs)

pub psym : {A : Type 0} {xs ys : List A} → Perm xs ys → Perm ys xs
psym pnil = pnil
psym (pskip x p) = pskip x (psym p)
psym (pswap x y xs) = pswap y x xs
psym (ptrans p q) = ptrans (psym q) (psym p)

pub perm_length : {A : Type 0} {xs ys : List A} → Perm xs ys → length xs ≡ length ys
perm_length pnil = refl
perm_length (pskip x p) = ap suc (perm_length p)
perm_length (pswap x y xs) = refl
perm_length (ptrans p q) = perm_length p ∙ perm_length q

pub perm_map : {A B : Type 0} (f : A → B) {xs ys : List A} → Perm xs ys → Perm (map f xs) (map f ys)
perm_map f pnil = pnil
perm_map f (pskip x p) = pskip (f x) (perm_map f p)
perm_map f (pswap x y xs) = pswap (f x) (f y) (map f xs)
perm_map f (ptrans p q) = ptrans (perm_map f p) (perm_map f q)

-- for the other way, turn the permutation round
pub perm_mem : {A : Type 0} {a : A} {xs ys : List A} → Perm xs ys → Mem a xs → Mem a ys
perm_mem pnil m = m
perm_mem (pskip x p) (Memᴰ.head e) = Memᴰ.head e
perm_mem (pskip x p) (Memᴰ.tail m) = Memᴰ.tail (perm_mem p m)
perm_mem (pswap x y xs) (Memᴰ.head e) = Memᴰ.tail (Memᴰ.head e)
perm_mem (pswap x y xs) (Memᴰ.tail (Memᴰ.head e)) = Memᴰ.head e
perm_mem (pswap x y xs) (Memᴰ.tail (Memᴰ.tail m)) = Memᴰ.tail (Memᴰ.tail m)
perm_mem (ptrans p q) m = perm_mem q (perm_mem p m)

-- ---- appending

pub perm_before : {A : Type 0} (zs : List A) {xs ys : List A} → Perm xs ys → Perm (zs ++ xs) (zs ++ ys)
perm_before [] p = p
perm_before (z ∷ zs) p = pskip z (perm_before zs p)

pub perm_behind : {A : Type 0} {xs ys : List A} → Perm xs ys → (zs : List A) → Perm (xs ++ zs) (ys ++ zs)
perm_behind pnil zs = prefl zs
perm_behind (pskip x p) zs = pskip x (perm_behind p zs)
perm_behind (pswap x y xs) zs = pswap x y (xs ++ zs)
perm_behind (ptrans p q) zs = ptrans (perm_behind p zs) (perm_behind q zs)

pub perm_append : {A : Type 0} {xs xs' ys ys' : List A} → Perm xs xs' → Perm ys ys' → Perm (xs ++ ys) (xs' ++ ys')
perm_append {xs' = xs'} {ys = ys} p q = ptrans (perm_behind p ys) (perm_before xs' q)

-- an element inside comes to the front
pub perm_front : {A : Type 0} (xs : List A) (y : A) (ys : List A) → Perm (xs ++ y ∷ ys) (y ∷ xs ++ ys)
perm_front [] y ys = prefl (y ∷ ys)
perm_front (x ∷ xs) y ys = ptrans (pskip x (perm_front xs y ys)) (pswap x y (xs ++ ys))

-- two parts change places
pub perm_turn : {A : Type 0} (xs ys : List A) → Perm (xs ++ ys) (ys ++ xs)
perm_turn [] ys = rw append-nil (prefl ys)
perm_turn (x ∷ xs) ys = ptrans (pskip x (perm_turn xs ys)) (psym (perm_front ys x xs))
