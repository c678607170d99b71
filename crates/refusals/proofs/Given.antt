-- What a call gives back, by its cases and from the order of its lines: what stands before the line that is given is passed, and a granted call passed every line. Assumes nothing.
use mathlib.Core.Path.{◌≡◌, refl, sym, ap, ◌∙◌}
use mathlib.Core.Bool.{Bool, true, false, cond, not, false≢true}
use mathlib.Core.List.{List, [], ◌∷◌, ◌++◌}
use lib.Dec.{eqb}
use borrow.Author.Tests.{eq-eqb}
use Rattle.std.specs.Prelude.{Ok, Err}
use Rattle.order.specs.Lists.{every, All}
use Rattle.order.proofs.Lists.{by_bool, and_left, and_right}
use Rattle.table.specs.declared.given.Refusal.{Refusal}
use Rattle.table.specs.declared.given.Refusal.TheVariants.{WrongLength, NotWellFormed, NoSuchNumber, OffGrid, NoSuchK, AlreadyEnrolled, Full, NotEnrolled, FewCandidates, ShortList, Misshapen, SheetTooLong}
use Rattle.table.specs.Given.{Given, Done, Line, line, number_given, first_of, if_done}
use Rattle.refusals.specs.Cases.{if_short_list}

-- ---- by its cases

-- a refusal other than 10
pub record Plain (g : Given) : Type 1 where
  pub done : {A : Type 0} (a b : A) → if_done g a b ≡ b
  pub few : {A : Type 0} (a b : A) → if_short_list g a b ≡ b

-- granted, refused with 10, or refused otherwise
pub by_given : {Q : Type 0} (g : Given) → (g ≡ Done → Q) → (g ≡ Err ShortList → Q) → (Plain g → Q) → Q
by_given (Ok u) d f p = d refl
by_given (Err WrongLength) d f p = p (record { done = λ a b. refl; few = λ a b. refl })
by_given (Err (NotWellFormed rule slot)) d f p = p (record { done = λ a b. refl; few = λ a b. refl })
by_given (Err NoSuchNumber) d f p = p (record { done = λ a b. refl; few = λ a b. refl })
by_given (Err OffGrid) d f p = p (record { done = λ a b. refl; few = λ a b. refl })
by_given (Err NoSuchK) d f p = p (record { done = λ a b. refl; few = λ a b. refl })
by_given (Err AlreadyEnrolled) d f p = p (record { done = λ a b. refl; few = λ a b. refl })
by_given (Err Full) d f p = p (record { done = λ a b. refl; few = λ a b. refl })
by_given (Err NotEnrolled) d f p = p (record { done = λ a b. refl; few = λ a b. refl })
by_given (Err FewCandidates) d f p = p (record { done = λ a b. refl; few = λ a b. refl })
by_given (Err ShortList) d f p = f refl
by_given (Err Misshapen) d f p = p (record { done = λ a b. refl; few = λ a b. refl })
by_given (Err SheetTooLong) d f p = p (record { done = λ a b. refl; few = λ a b. refl })

module _ (g : Given) where
  pub if_not_few : {A : Type 0} → (g ≡ Err ShortList → ⊥) → (a b : A) → if_short_list g a b ≡ b
  if_not_few n a b = by_given g (λ e. ap (λ x. if_short_list x a b) e) (λ e. absurd (n e)) (λ p. p.few a b)

  -- a fact of two things that a granted call makes, and a refused one leaves
  pub by_done : {A B : Type 0} (P : A → B → Type 0) {a c : A} {b d : B} → (g ≡ Done → P a b) → P c d → P (if_done g a c) (if_done g b d)
  by_done P {a} {c} {b} {d} made left =
      by_given g (λ e. rw e (made e)) (λ e. rw e left) (λ p. rw (p.done a c, p.done b d) left)

-- ---- from the order of its lines

-- a line that gives something else
abbrev pub other_than : Given → Line → Bool
other_than g l = not (eqb (number_given l.gives) (number_given g))

-- what stands before the line that is given is passed
pub passed_before : (g : Given) (ls ms : List Line) → every (other_than g) ls ≡ true → first_of (ls ++ ms) ≡ g
    → All (λ l. l.holds ≡ false) ls × (first_of ms ≡ g)
passed_before g [] ms o e = (tt, e)
passed_before g (l ∷ ls) ms o e =
    by_bool (λ b. l.holds ≡ b → cond b l.gives (first_of (ls ++ ms)) ≡ g → All (λ k. k.holds ≡ false) (l ∷ ls) × (first_of ms ≡ g)) l.holds
    (λ t h d.
    let same : other_than g l ≡ false = ap not (eq-eqb (number_given l.gives) (number_given g) (ap number_given d)) in
    absurd (false≢true (sym same ∙ and_left (other_than g l) (every (other_than g) ls) o)))
    (λ f h d. let rest = passed_before g ls ms (and_right (other_than g l) (every (other_than g) ls) o) d in ((h, rest.0), rest.1)) refl e

-- the last line holds if its refusal is given
pub last_holds : (b : Bool) (r : Refusal) → first_of (line b r ∷ []) ≡ Err r → b ≡ true
last_holds true r e = refl
last_holds false r e = cc

-- a call that passes every line is granted
pub all_passed : (ls : List Line) → All (λ l. l.holds ≡ false) ls → first_of ls ≡ Done
all_passed [] h = refl
all_passed (l ∷ ls) h = rw h.0 (all_passed ls h.1)
