-- The laws of decimal digits: the twenty places are enough, one digit more for each tenth, and how many there are. By recursion on the places. Assumes nothing.
use Prim.Native.Nat.{ℕ, zero, suc, ◌+◌, ◌*◌, ◌/◌, ◌%◌, ◌^◌, ◌≤◌, ◌<◌}
use mathlib.Core.Path.{◌≡◌, refl, ap}
use mathlib.Core.Bool.{Bool, cond}
use mathlib.Core.List.{List, [], ◌∷◌, ◌++◌, map, append_assoc, map-append}
use native.Mathlib.Omega.{arith}
use native.Mathlib.Nat.{pow-succ', pow-le-pow_right}
use native.Mathlib.Decide.{dec_lt}
use native.Mathlib.Numerals.{add-one}
use lib.Dec.{ltb}
use lib.ListN.{length, get_or, take, set, length-append}
use lib.Seq.{take-suc, length-take-le}
use borrow.Author.Tests.{lt-ltb, le-ltb, ltb-true}
use Rattle.order.proofs.Lists.{by_bool}
use Rattle.sheet.specs.Bytes.{Bytes}
use Rattle.slip.specs.Output.{decimal_in, decimal, tabbed, head_of, output_line, laid_at}
use Rattle.slip.proofs.Laid.{laid_last}

-- the digits in so many places and one more
abbrev places_of : ℕ → ℕ → Bool → Bytes
places_of p n small = cond small ((48 + n) ∷ []) (decimal_in p (n / 10) ++ (48 + n % 10) ∷ [])

-- a further place changes nothing
enough : (p n : ℕ) → n < 10 ^ suc p → decimal_in (suc p) n ≡ decimal_in (suc (suc p)) n
enough zero n h = simp (lt-ltb n 10 h)
enough (suc p) n h =
    by_bool (λ t. places_of (suc p) n t ≡ places_of (suc (suc p)) n t) (ltb n 10)
    (λ _. refl)
    (λ _. ap (λ (ds : Bytes). ds ++ (48 + n % 10) ∷ []) (enough p (n / 10) (omega (arith, pow-succ' 10 (suc p)))))

pub decimal_small : (n : ℕ) → n < 10 → decimal n ≡ (48 + n) ∷ []
unfolding decimal
decimal_small n h = rw (lt-ltb n 10 h)

pub decimal_more : (n : ℕ) → n < 10 ^ 20 → 10 ≤ n → decimal n ≡ decimal (n / 10) ++ (48 + n % 10) ∷ []
unfolding decimal
decimal_more n h l =
    rw (le-ltb n 10 l) (ap (λ (ds : Bytes). ds ++ (48 + n % 10) ∷ []) (enough 18 (n / 10) (omega arith)))

-- ---- how many digits

places_most : (p n : ℕ) → length (decimal_in p n) ≤ p
places_most zero n = omega arith
places_most (suc p) n =
    by_bool (λ t. length (places_of p n t) ≤ suc p) (ltb n 10)
    (λ _. omega arith) (λ _. rw length-append (omega (arith, places_most p (n / 10))))

pub decimal_most : (n : ℕ) → length (decimal n) ≤ 20
unfolding decimal
decimal_most n = places_most 20 n

pub count_small : (n : ℕ) → n < 10 → length (decimal n) ≡ 1
count_small n h = rw (decimal_small n h)

pub count_more : (n : ℕ) → n < 10 ^ 20 → 10 ≤ n → length (decimal n) ≡ suc (length (decimal (n / 10)))
count_more n h l = rw (decimal_more n h l, length-append) (omega arith)

-- by the highest power of ten in it
pub count_power : (k n : ℕ) → n < 10 ^ 20 → 10 ^ k ≤ n → n < 10 * 10 ^ k → length (decimal n) ≡ k + 1
count_power zero n h l m = count_small n (omega arith)
count_power (suc k) n h l m =
    let power : 10 ^ suc k ≡ 10 * 10 ^ k = pow-succ' 10 k in
    let least : 0 ≤ k = omega arith in
    let some : 10 ^ 0 ≤ 10 ^ k = pow-le-pow_right (omega arith) least in
    omega (arith, count_more n h (omega arith), count_power k (n / 10) (omega arith) (omega arith) (omega arith))

-- a number below a power of ten has no more digits than that
pub decimal_few : (k n : ℕ) → k ≤ 19 → n < 10 ^ suc k → length (decimal n) ≤ suc k
decimal_few zero n l h = omega (arith, count_small n h)
decimal_few (suc k) n l h = go (dec_lt n 10) (λ s. decimal_few k (n / 10) (omega arith) (omega (arith, pow-succ' 10 (suc k))))
  where
    go : Dec (n < 10) → ((n < 10 → ⊥) → length (decimal (n / 10)) ≤ suc k) → length (decimal n) ≤ suc (suc k)
    go (yes s) rest = omega (arith, count_small n s)
    go (no s) rest =
        let few : suc (suc k) ≤ 20 = omega arith in
        let most : 10 ^ suc (suc k) ≤ 10 ^ 20 = pow-le-pow_right (omega arith) few in
        omega (arith, count_more n (omega (arith, most)) (omega arith), rest s)

-- ---- the digits in a known number of places

abbrev pub digits_in : ℕ → ℕ → Bytes
digits_in zero n = []
digits_in (suc k) n = digits_in k (n / 10) ++ (48 + n % 10) ∷ []

pub digits_length : (k n : ℕ) → length (digits_in k n) ≡ k
digits_length zero n = refl
digits_length (suc k) n = rw length-append (omega (arith, digits_length k (n / 10)))

places_digits : (p n : ℕ) → decimal_in p n ≡ digits_in (length (decimal_in p n)) n
places_digits zero n = refl
places_digits (suc p) n =
    by_bool (λ t. places_of p n t ≡ digits_in (length (places_of p n t)) n) (ltb n 10)
    (λ e. ap (λ (d : ℕ). (48 + d) ∷ []) (omega (arith, ltb-true n 10 e)))
    (λ _. rw (length-append, add-one) (ap (λ (ds : Bytes). ds ++ (48 + n % 10) ∷ []) (places_digits p (n / 10))))

pub decimal_digits : (n : ℕ) → decimal n ≡ digits_in (length (decimal n)) n
unfolding decimal
decimal_digits n = places_digits 20 n

-- the last digit, then those in front of it
pub digits_laid : (out : Bytes) (at k n : ℕ) → at + k < length out
    → laid_at (set out (at + k) (48 + n % 10)) at (digits_in k (n / 10)) ≡ laid_at out at (digits_in (suc k) n)
digits_laid out at k n h =
    let e = digits_length k (n / 10) in
    rw e at (laid_last out at (digits_in k (n / 10)) (48 + n % 10) (rw e h))

-- ---- numbers after tabs

pub tabbed_append : (xs ys : List Bytes) → tabbed (xs ++ ys) ≡ tabbed xs ++ tabbed ys
tabbed_append [] ys = refl
tabbed_append (x ∷ xs) ys = simp (tabbed_append xs ys, append_assoc)

-- further numbers in two runs
pub tabbed_apart : (ns ms : List ℕ) (bs : Bytes)
    → tabbed (map decimal (ns ++ ms)) ++ bs ≡ tabbed (map decimal ns) ++ (tabbed (map decimal ms) ++ bs)
tabbed_apart ns ms bs = simp (map-append, tabbed_append, append_assoc)

pub tabbed_cons : (x : Bytes) (xs : List Bytes) → tabbed (x ∷ xs) ≡ tabbed (x ∷ []) ++ tabbed xs
tabbed_cons x xs = tabbed_append (x ∷ []) xs

pub tabbed_most : (ns : List ℕ) → length (tabbed (map decimal ns)) ≤ 21 * length ns
tabbed_most [] = omega arith
tabbed_most (n ∷ ns) = rw length-append (omega (arith, decimal_most n, tabbed_most ns))

-- one number more
pub tabbed_more : (ns : List ℕ) (i : ℕ) → i < length ns
    → tabbed (map decimal (take (i + 1) ns)) ≡ tabbed (map decimal (take i ns)) ++ tabbed (decimal (get_or ns i 0) ∷ [])
tabbed_more ns i h =
    rw (add-one, take-suc ns i 0 h, map-append) (tabbed_append (map decimal (take i ns)) (decimal (get_or ns i 0) ∷ []))

-- so many numbers need so much room
pub tabbed_room : (ns : List ℕ) (i : ℕ) → i ≤ length ns → length (tabbed (map decimal (take i ns))) ≤ 21 * i
tabbed_room ns i h = omega (arith, tabbed_most (take i ns), length-take-le i ns h)

pub number_room : (n : ℕ) → length (tabbed (decimal n ∷ [])) ≤ 21
number_room n = tabbed_most (n ∷ [])

pub counts_room : (n m o : ℕ) → length (tabbed (map decimal (n ∷ m ∷ o ∷ []))) ≤ 63
counts_room n m o = tabbed_most (n ∷ m ∷ o ∷ [])

pub head_room : (number letter given : ℕ) → length (head_of number letter given) ≤ 43
unfolding head_of
head_room number letter given = rw length-append (omega (arith, decimal_most number, number_room given))

pub line_room : (number letter given : ℕ) (more : List ℕ) → length (output_line number letter given more) ≤ 44 + 21 * length more
unfolding output_line
line_room number letter given more =
    rw (length-append, length-append) (omega (arith, head_room number letter given, tabbed_most more))
