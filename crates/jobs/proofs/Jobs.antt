-- The job of a line by its first field, and what the number in a field leads to. By the cases of a list. Assumes nothing.
use Prim.Native.Nat.{ℕ}
use mathlib.Core.Path.{◌≡◌, refl, sym, ◌∙◌}
use mathlib.Core.List.{List, [], ◌∷◌}
use native.Mathlib.Omega.{arith}
use borrow.Author.Tests.{ne_eqb}
use lib.IntN.{ℤ}
use lib.ListN.{length, drop, get_or}
use mir.Syntax.{w32}
use mir.Val.{SFits, to_z, of_z}
use mir.ValLaws.{to_z-of_z}
use Rattle.sheet.specs.Bytes.{Bytes, fields_of}
use Rattle.std.specs.Prelude.{Option, Some, None}
use Rattle.jobs.specs.declared.job.Job.{Job}
use Rattle.jobs.specs.declared.job.Job.TheVariants.{Misshapen}
use Rattle.jobs.specs.Number.{read_number}
use Rattle.jobs.specs.Job.{with_number, ENROL, WITHDRAW, QUERY, CARD, by_letter, by_fields, job_of}

pub first_letter : (fs : List Bytes) → length (get_or fs 0 []) ≡ 1 → by_fields fs ≡ by_letter (get_or (get_or fs 0 []) 0 0) (drop 1 fs)
first_letter [] e = absurd (omega arith)
first_letter ([] ∷ fs) e = absurd (omega arith)
first_letter ((b ∷ []) ∷ fs) e = refl
first_letter ((b ∷ c ∷ bs) ∷ fs) e = absurd (omega arith)

pub first_other : (fs : List Bytes) → (length (get_or fs 0 []) ≡ 1 → ⊥) → by_fields fs ≡ Misshapen
first_other [] e = refl
first_other ([] ∷ fs) e = refl
first_other ((b ∷ []) ∷ fs) e = absurd (e refl)
first_other ((b ∷ c ∷ bs) ∷ fs) e = refl

-- a number as the machine reads it back
abbrev pub held : ℤ → ℤ
held z = to_z w32 (of_z w32 z)

-- what the reader of a field answers decides how it goes on
pub heard : (r : Option ℤ) (f : Bytes) (z : ℤ) (next : ℤ → Job) → r ≡ read_number f → r ≡ Some z → SFits w32 z
    → with_number (read_number f) next ≡ next (held z)
heard r f z next e n s = rw (← e, n, to_z-of_z w32 z s)

pub unheard : (r : Option ℤ) (f : Bytes) (next : ℤ → Job) → r ≡ read_number f → r ≡ None → with_number (read_number f) next ≡ Misshapen
unheard r f next e n = rw (← e, n)

pub letter_other : (b : ℕ) (more : List Bytes) → (b ≡ ENROL → ⊥) → (b ≡ WITHDRAW → ⊥) → (b ≡ QUERY → ⊥) → (b ≡ CARD → ⊥)
    → by_letter b more ≡ Misshapen
letter_other b more e w q k = simp (ne_eqb b ENROL e, ne_eqb b WITHDRAW w, ne_eqb b QUERY q, ne_eqb b CARD k)

-- the first field as the code reads it: one letter, or none
pub lettered : (line first : Bytes) (letter : ℕ) (job : Job) → first ≡ get_or (fields_of line) 0 [] → length first ≡ 1 → get_or first 0 0 ≡ letter
    → job ≡ by_letter letter (drop 1 (fields_of line)) → job ≡ job_of line
unfolding job_of
lettered line first letter job e one k j = j ∙ sym (rw (← e, k) at (first_letter (fields_of line) (rw (← e) one)))

pub unlettered : (line first : Bytes) → first ≡ get_or (fields_of line) 0 [] → (length first ≡ 1 → ⊥) → Misshapen ≡ job_of line
unfolding job_of
unlettered line first e other = sym (first_other (fields_of line) (λ one. other (rw e one)))
