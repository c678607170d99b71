-- Laws of the map of point numbers: one number entered more, and a number met again. By recursion on the lists. Assumes nothing.
use Prim.Native.Nat.{ℕ, ◌+◌, ◌≤◌}
use native.Mathlib.Omega.{arith}
use native.Mathlib.Decide.{ℕ_discrete}
use mathlib.Core.Path.{◌≡◌, refl, sym, ap, subst, ◌∙◌}
use mathlib.Core.Bool.{Bool, true, false, not, ◌&&◌, ◌||◌, and_assoc, or_assoc, or-false, or-true, false≢true}
use mathlib.Core.List.{List, [], ◌∷◌, ◌++◌, append_assoc, append-nil}
use borrow.Author.Tests.{eq-eqb, ne_eqb}
use lib.Dec.{eqb}
use lib.ListN.{get_or, set, replicate, length-set, length-replicate, get_or-replicate}
use lib.Seq.{get_or-set_same, get_or-set_other}
use Rattle.order.specs.Lists.{some, has}
use Rattle.figures.specs.Figures.{HIGHEST}
use Rattle.rules.specs.Rules.{each_new}
use Rattle.audit.specs.Seen.{Marks, Entered}

-- ---- the tests of a list with more behind it

some_append : {A : Type 0} (P : A → Bool) (xs ys : List A) → some P (xs ++ ys) ≡ (some P xs || some P ys)
some_append P [] ys = refl
some_append P (x ∷ xs) ys = ap (λ b. P x || b) (some_append P xs ys) ∙ sym (or_assoc (P x) (some P xs) (some P ys))

has_last : (n r : ℕ) (ns : List ℕ) → has n (ns ++ r ∷ []) ≡ (has n ns || eqb n r)
has_last n r ns = some_append (eqb n) ns (r ∷ []) ∙ ap (λ b. has n ns || b) (or-false (eqb n r))

new_append : (before xs ys : List ℕ) → each_new before (xs ++ ys) ≡ (each_new before xs && each_new (before ++ xs) ys)
new_append before [] ys = ap (λ l. each_new l ys) (sym (append-nil before))
new_append before (x ∷ xs) ys =
    let a = not (has x before) in
    let b = each_new (before ++ x ∷ []) xs in
    ap (λ t. a && t) (new_append (before ++ x ∷ []) xs ys ∙ ap (λ l. b && each_new l ys) (append_assoc before (x ∷ []) xs))
    ∙ sym (and_assoc a b (each_new (before ++ x ∷ xs) ys))

-- ---- the map

pub none_marked : Marks (replicate (HIGHEST + 1) false) []
none_marked = record { long = length-replicate (HIGHEST + 1) false; exact = λ n h. get_or-replicate (HIGHEST + 1) n false false (omega arith) }

marks_more : (seen : List Bool) (ns : List ℕ) (r : ℕ) → r ≤ HIGHEST → Marks seen ns → Marks (set seen r true) (ns ++ r ∷ [])
marks_more seen ns r low m =
    record { long = length-set seen r true ∙ m.long; exact = λ n h. go n h (ℕ_discrete n r) }
  where
    go : (n : ℕ) → n ≤ HIGHEST → Dec (n ≡ r) → get_or (set seen r true) n false ≡ has n (ns ++ r ∷ [])
    go n h (yes e) =
        let t : get_or (set seen r true) n false ≡ true = ap (λ k. get_or (set seen r true) k false) e ∙ get_or-set_same seen r true false (omega (arith, m.long)) in
        t ∙ sym (has_last n r ns ∙ ap (λ b. has n ns || b) (eq-eqb n r e) ∙ or-true (has n ns))
    go n h (no d) =
        get_or-set_other seen r n true false d ∙ m.exact n h
        ∙ sym (has_last n r ns ∙ ap (λ b. has n ns || b) (ne_eqb n r d) ∙ or-false (has n ns))

-- ---- numbers entered after those before

module _ (before : List ℕ) where
  module _ (ns : List ℕ) (seen : List Bool) (so : Entered before ns true seen) (r : ℕ) (low : r ≤ HIGHEST) where
    -- whether the map has the number is whether it was met
    met : get_or seen r false ≡ has r (before ++ ns)
    met = (so.marks refl).exact r low

    -- the numbers so far are new, and what follows is tested behind them
    behind : (rest : List ℕ) → each_new before (ns ++ rest) ≡ each_new (before ++ ns) rest
    behind rest = new_append before ns rest ∙ ap (λ b. b && each_new (before ++ ns) rest) (sym so.answer)

    -- a new number
    pub one_entered : get_or seen r false ≡ false → Entered before (ns ++ r ∷ []) true (set seen r true)
    one_entered f =
        record {
          answer = sym (behind (r ∷ []) ∙ ap (λ b. not b && true) (sym met ∙ f));
          marks = λ e. subst (Marks (set seen r true)) (append_assoc before ns (r ∷ [])) (marks_more seen (before ++ ns) r low (so.marks refl));
        }

    -- a number met again: whatever follows, not all are new
    pub met_again : get_or seen r false ≡ true → (rest : List ℕ) (after : List Bool) → Entered before (ns ++ r ∷ rest) false after
    met_again t rest after =
        record {
          answer = sym (behind (r ∷ rest) ∙ ap (λ b. not b && each_new ((before ++ ns) ++ r ∷ []) rest) (sym met ∙ t));
          marks = λ e. absurd (false≢true e);
        }
