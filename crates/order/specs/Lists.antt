-- What is said of lists everywhere: how many pass a test, which pass it, where the first does, lists joined, all of a list, no element twice.
use Rattle.std.specs.Prelude.{ℕ, ◌+◌, ◌≤◌, ◌≡◌, Bool, true, false, cond, ◌&&◌, ◌||◌, eqb}
use mathlib.Core.List.{List, [], ◌∷◌, ◌++◌, Memᴰ}

-- a test as a number
abbrev pub one : Bool → ℕ
one true = 1
one false = 0

-- how many of a list pass a test
abbrev pub count : {A : Type 0} → (A → Bool) → List A → ℕ
count P [] = 0
count P (x ∷ xs) = one (P x) + count P xs

-- those of a list that pass a test, as they stand
abbrev pub filter : {A : Type 0} → (A → Bool) → List A → List A
filter P [] = []
filter P (x ∷ xs) = cond (P x) (x ∷ filter P xs) (filter P xs)

-- every element passes a test
abbrev pub every : {A : Type 0} → (A → Bool) → List A → Bool
every P [] = true
every P (x ∷ xs) = P x && every P xs

-- some element passes a test
abbrev pub some : {A : Type 0} → (A → Bool) → List A → Bool
some P [] = false
some P (x ∷ xs) = P x || some P xs

-- the place of the first that passes a test; the length if none does
abbrev pub first_place : {A : Type 0} → (A → Bool) → List A → ℕ
first_place P [] = 0
first_place P (x ∷ xs) = cond (P x) 0 (1 + first_place P xs)

-- a number stands in a list
abbrev pub has : ℕ → List ℕ → Bool
has n ns = some (eqb n) ns

-- the lists of all elements, one behind the other
abbrev pub join : {A B : Type 0} → (A → List B) → List A → List B
join f [] = []
join f (x ∷ xs) = f x ++ join f xs

-- an element stands in a list
abbrev pub Mem : {A : Type 0} → A → List A → Type 0
Mem = Memᴰ

-- a fact holds of each element
abbrev pub All : {A : Type 0} → (A → Type 0) → List A → Type 0
All P [] = Unit
All P (x ∷ xs) = P x × All P xs

-- no element stands twice
abbrev pub NoDup : {A : Type 0} → List A → Type 0
NoDup [] = Unit
NoDup (x ∷ xs) = (Mem x xs → ⊥) × NoDup xs

-- each element stands so to every later one
abbrev pub Pairwise : {A : Type 0} → (A → A → Type 0) → List A → Type 0
Pairwise R [] = Unit
Pairwise R (x ∷ xs) = All (R x) xs × Pairwise R xs

-- numbers that rise
abbrev pub Rises : List ℕ → Type 0
Rises ns = Pairwise ◌≤◌ ns

-- every test counts the same in both
abbrev pub Same : {A : Type 0} → List A → List A → Type 0
Same {A} xs ys = (P : A → Bool) → count P xs ≡ count P ys
