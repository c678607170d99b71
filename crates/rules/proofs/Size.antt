-- A sound tree has at most six levels and at most 248 nodes: each row of nodes below the root's children has three times as many as the row above, and the leaves hold three points each. Assumes nothing.
use Prim.Native.Nat.{ℕ, zero, suc, ◌+◌, ◌*◌, ◌≤◌, ◌<◌}
use native.Mathlib.Omega.{arith}
use mathlib.Core.Path.{◌≡◌, refl, sym}
use mathlib.Core.List.{List, [], ◌∷◌}
use lib.ListN.{length, length-append}
use Rattle.order.specs.Lists.{join, All}
use Rattle.figures.specs.Figures.{LEAST, MOST}
use Rattle.table.specs.Tree.{Tree, slots_of, leaves_of, Filled, least_of, Sound}

-- ---- sums

abbrev pub sum : {A : Type 0} → (A → ℕ) → List A → ℕ
sum f [] = 0
sum f (x ∷ xs) = f x + sum f xs

-- f 0 + .. + f n
abbrev upto : (ℕ → ℕ) → ℕ → ℕ
upto f zero = f 0
upto f (suc n) = f 0 + upto (λ d. f (suc d)) n

sum_three : {A : Type 0} (P : A → Type 0) (f g : A → ℕ) → ((x : A) → P x → 3 * f x ≤ g x) → (xs : List A) → All P xs → 3 * sum f xs ≤ sum g xs
sum_three P f g k [] a = omega arith
sum_three P f g k (x ∷ xs) a = omega (arith, k x a.0, sum_three P f g k xs a.1)

sum_each : {A : Type 0} (P : A → Type 0) (g : A → ℕ) → ((x : A) → P x → 1 ≤ g x) → (xs : List A) → All P xs → length xs ≤ sum g xs
sum_each P g k [] a = omega arith
sum_each P g k (x ∷ xs) a = omega (arith, k x a.0, sum_each P g k xs a.1)

sum_ones : {A : Type 0} (f : A → ℕ) → ((x : A) → f x ≡ 1) → (xs : List A) → sum f xs ≡ length xs
sum_ones f k [] = refl
sum_ones f k (x ∷ xs) = omega (arith, k x, sum_ones f k xs)

sum_same : {A : Type 0} (f g : A → ℕ) → ((x : A) → f x ≡ g x) → (xs : List A) → sum f xs ≡ sum g xs
sum_same f g k [] = refl
sum_same f g k (x ∷ xs) = omega (arith, k x, sum_same f g k xs)

pub length_join : {A B : Type 0} (f : A → List B) (xs : List A) → length (join f xs) ≡ sum (λ x. length (f x)) xs
length_join f [] = refl
length_join f (x ∷ xs) = omega (arith, length-append (f x) (join f xs), length_join f xs)

upto_zero : (n : ℕ) → upto (λ d. 0) n ≡ 0
upto_zero zero = refl
upto_zero (suc n) = omega (arith, upto_zero n)

upto_add : (f g : ℕ → ℕ) (n : ℕ) → upto (λ d. f d + g d) n ≡ upto f n + upto g n
upto_add f g zero = refl
upto_add f g (suc n) = omega (arith, upto_add (λ d. f (suc d)) (λ d. g (suc d)) n)

upto_sum : {A : Type 0} (f : A → ℕ → ℕ) (n : ℕ) (xs : List A) → sum (λ x. upto (f x) n) xs ≡ upto (λ d. sum (λ x. f x d) xs) n
upto_sum f n [] = sym (upto_zero n)
upto_sum f n (x ∷ xs) = omega (arith, upto_sum f n xs, upto_add (f x) (λ d. sum (λ y. f y d) xs) n)

-- ---- rows

-- how many nodes stand d levels below the top
abbrev row : (l d : ℕ) → Tree l → ℕ
row l zero t = 1
row zero (suc d) t = 0
row (suc l) (suc d) t = sum (row l d) t.items

size : (l : ℕ) (t : Tree l) → length (slots_of l t) ≡ upto (λ d. row l d t) l
size zero t = refl
size (suc l) t =
    omega (
      arith,
      length_join (slots_of l) t.items,
      sum_same (λ x. length (slots_of l x)) (λ x. upto (λ d. row l d x) l) (size l) t.items,
      upto_sum (λ x d. row l d x) l t.items,
    )

-- a tree whose top has an item has a point
pub some_leaf : (lo l : ℕ) → 1 ≤ lo → (t : Tree l) → Filled lo l t → 1 ≤ length (leaves_of l t)
some_leaf lo zero h t f = omega arith
some_leaf lo (suc l) h t f =
    omega (
      arith,
      length_join (leaves_of l) t.items,
      sum_each (Filled LEAST l) (λ x. length (leaves_of l x)) (some_leaf LEAST l (omega arith)) t.items f.1,
      f.0,
    )

-- a row of the children's rows, of the leaves below them
module _ (l : ℕ) (cs : List (Tree l)) (f : All (Filled LEAST l) cs) where
  rows : (d : ℕ) → ((x : Tree l) → Filled LEAST l x → 3 * row l d x ≤ row l (suc d) x) → 3 * sum (row l d) cs ≤ sum (row l (suc d)) cs
  rows d k = sum_three (Filled LEAST l) (row l d) (row l (suc d)) k cs f

  row_points : (d : ℕ) → ((x : Tree l) → Filled LEAST l x → 3 * row l d x ≤ length (leaves_of l x))
      → 3 * sum (row l d) cs ≤ length (join (leaves_of l) cs)
  row_points d k =
      omega (arith, length_join (leaves_of l) cs, sum_three (Filled LEAST l) (row l d) (λ x. length (leaves_of l x)) k cs f)

row_row : (l d : ℕ) (t : Tree l) → d < l → Filled LEAST l t → 3 * row l d t ≤ row l (suc d) t
row_row zero d t lt f = absurd (omega arith)
row_row (suc l) zero t lt f = omega (arith, sum_ones (row l 0) (λ x. refl) t.items, f.0)
row_row (suc l) (suc d) t lt f = rows l t.items f.1 d (λ x g. row_row l d x (omega arith) g)

row_leaves : (l d : ℕ) (t : Tree l) → d ≤ l → Filled LEAST l t → 3 * row l d t ≤ length (leaves_of l t)
row_leaves zero zero t le f = omega arith
row_leaves zero (suc d) t le f = omega arith
row_leaves (suc l) zero t le f =
    omega (
      arith,
      length_join (leaves_of l) t.items,
      sum_each (Filled LEAST l) (λ x. length (leaves_of l x)) (some_leaf LEAST l (omega arith)) t.items f.1,
      f.0,
    )
row_leaves (suc l) (suc d) t le f = row_points l t.items f.1 d (λ x g. row_leaves l d x (omega arith) g)

-- ---- the numbers

module _ (f : ℕ → ℕ) (n : ℕ) (le : n ≤ MOST) (one : f 0 ≡ 1) where
  bounds : (l : ℕ) → (0 < l → 2 ≤ f 1) → ((d : ℕ) → 0 < d → d < l → 3 * f d ≤ f (suc d)) → ((d : ℕ) → 0 < d → d ≤ l → 3 * f d ≤ n) → (l ≤ 5) × (upto f l ≤ 248)
  bounds zero two more few = omega arith
  bounds (suc zero) two more few = omega (arith, few 1 (omega arith) (omega arith))
  bounds (suc (suc zero)) two more few = omega (arith, few 2 (omega arith) (omega arith), more 1 (omega arith) (omega arith))
  bounds (suc (suc (suc zero))) two more few =
      omega (arith, few 3 (omega arith) (omega arith), more 1 (omega arith) (omega arith), more 2 (omega arith) (omega arith))
  bounds (suc (suc (suc (suc zero)))) two more few =
      omega (arith, few 4 (omega arith) (omega arith), more 1 (omega arith) (omega arith), more 2 (omega arith) (omega arith), more 3 (omega arith) (omega arith))
  bounds (suc (suc (suc (suc (suc zero))))) two more few =
      let a : f 5 ≤ 166 = omega (arith, few 5 (omega arith) (omega arith)) in
      let b : f 4 ≤ 55 = omega (arith, more 4 (omega arith) (omega arith)) in
      let c : f 3 ≤ 18 = omega (arith, more 3 (omega arith) (omega arith)) in
      let d : f 2 ≤ 6 = omega (arith, more 2 (omega arith) (omega arith)) in
      let e : f 1 ≤ 2 = omega (arith, more 1 (omega arith) (omega arith)) in
      omega arith
  bounds (suc (suc (suc (suc (suc (suc l)))))) two more few =
      absurd
      (omega (
        arith,
        two (omega arith),
        more 1 (omega arith) (omega arith),
        more 2 (omega arith) (omega arith),
        more 3 (omega arith) (omega arith),
        more 4 (omega arith) (omega arith),
        more 5 (omega arith) (omega arith),
        few 6 (omega arith) (omega arith),
      ))

-- below the top of the whole
whole_row : (l d : ℕ) (t : Tree (suc l)) → All (Filled LEAST l) t.items → 0 < d → d < suc l → 3 * row (suc l) d t ≤ row (suc l) (suc d) t
whole_row l zero t f pos lt = absurd (omega arith)
whole_row l (suc d) t f pos lt = rows l t.items f d (λ x g. row_row l d x (omega arith) g)

whole_leaves : (l d : ℕ) (t : Tree (suc l)) → All (Filled LEAST l) t.items → 0 < d → d ≤ suc l → 3 * row (suc l) d t ≤ length (leaves_of (suc l) t)
whole_leaves l zero t f pos lt = absurd (omega arith)
whole_leaves l (suc d) t f pos lt = row_points l t.items f d (λ x g. row_leaves l d x (omega arith) g)

-- at most six levels, at most 248 nodes
pub tree_bounds : (l : ℕ) (t : Tree l) → Filled (least_of l) l t → length (leaves_of l t) ≤ MOST → (l ≤ 5) × (length (slots_of l t) ≤ 248)
tree_bounds zero t f le = omega arith
tree_bounds (suc l) t f le =
    let b =
    bounds (λ d. row (suc l) d t) (length (leaves_of (suc l) t)) le refl (suc l)
    (λ pos. omega (arith, sum_ones (row l 0) (λ x. refl) t.items, f.0))
    (λ d pos lt. whole_row l d t f.1 pos lt)
    (λ d pos lt. whole_leaves l d t f.1 pos lt) in
    (b.0, omega (arith, b.1, size (suc l) t))

pub sound_bounds : (l : ℕ) (t : Tree l) → Sound l t → (l ≤ 5) × (length (slots_of l t) ≤ 248)
sound_bounds l t h = tree_bounds l t h.fill h.few
