-- What a call gives back that is no grant, by its cases. Assumes nothing.
use Prim.Native.Nat.{◌≤◌}
use mathlib.Core.Path.{◌≡◌, refl}
use native.Mathlib.Omega.{arith}
use Rattle.std.specs.Prelude.{Ok, Err}
use Rattle.table.specs.declared.given.Refusal.{Refusal}
use Rattle.table.specs.declared.given.Refusal.TheVariants.{
  WrongLength,
  NotWellFormed,
  NoSuchNumber,
  OffGrid,
  NoSuchK,
  AlreadyEnrolled,
  Full,
  NotEnrolled,
  FewCandidates,
  ShortList,
  Misshapen,
  SheetTooLong,
}
use Rattle.table.specs.Given.{Given, Done, number_refused, number_given, if_done}

-- a refusal grants nothing
pub not_done : (r : Refusal) → Err r ≡ Done → ⊥
not_done r e = cc

-- what is left of a call that is refused
pub record Refused (g : Given) : Type 1 where
  pub done : {A : Type 0} (a b : A) → if_done g a b ≡ b

pub by_done : {Q : Type 0} (g : Given) → (g ≡ Done → Q) → (Refused g → Q) → Q
by_done (Ok u) d r = d refl
by_done (Err e) d r = r (record { done = λ a b. refl })

module _ (g : Given) {A : Type 0} where
  pub if_refused : (g ≡ Done → ⊥) → (a b : A) → if_done g a b ≡ b
  if_refused n a b = by_done g (λ e. absurd (n e)) (λ r. r.done a b)

  -- a fact of what a granted call makes, and of what a refused one leaves
  pub if_either : (Q : A → Type 0) {a b : A} → (g ≡ Done → Q a) → Q b → Q (if_done g a b)
  if_either Q {a} {b} made left = by_done g (λ e. rw e (made e)) (λ r. rw (r.done a b) left)

-- no number is greater
refused_most : (r : Refusal) → number_refused r ≤ 12
refused_most WrongLength = omega arith
refused_most (NotWellFormed rule slot) = omega arith
refused_most NoSuchNumber = omega arith
refused_most OffGrid = omega arith
refused_most NoSuchK = omega arith
refused_most AlreadyEnrolled = omega arith
refused_most Full = omega arith
refused_most NotEnrolled = omega arith
refused_most FewCandidates = omega arith
refused_most ShortList = omega arith
refused_most Misshapen = omega arith
refused_most SheetTooLong = omega arith

pub given_most : (g : Given) → number_given g ≤ 12
given_most (Ok u) = omega arith
given_most (Err r) = refused_most r
