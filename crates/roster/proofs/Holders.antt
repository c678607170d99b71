-- The definition of what a record asks for, over its four fields as they stand, as the code takes them; and the line of a record that is not refused, with its length. Assumes nothing.
use Prim.Native.Nat.{ℕ, zero, suc, ◌+◌, ◌-◌, ◌^◌, ◌≤◌, ◌<◌}
use mathlib.Core.Path.{◌≡◌, refl, sym, ap, subst, ◌∙◌}
use mathlib.Core.Bool.{true, false, cond, ◌&&◌}
use mathlib.Core.List.{List, [], ◌∷◌, ◌++◌, map}
use native.Mathlib.Omega.{arith}
use Rattle.std.specs.Prelude.{Option, Some, None, is_some, Err}
use lib.Dec.{ltb}
use lib.IntN.{ℤ}
use lib.ListN.{length, get_or, take, drop, length-append, length-take, length-drop}
use borrow.Author.Tests.{ltb-true}
use Rattle.order.specs.Lists.{every}
use Rattle.order.proofs.Lists.{by_bool, and_left, and_right}
use Rattle.table.specs.declared.given.Refusal.TheVariants as refusal
use Rattle.table.specs.Given.{Given, Done, number_given, if_done}
use Rattle.limits.proofs.Refused.{if_refused, if_either, given_most}
use Rattle.sheet.specs.Bytes.{Bytes, FEED}
use Rattle.jobs.specs.declared.job.Job.{Job}
use Rattle.jobs.specs.declared.job.Job.TheVariants.{Enrol, Misshapen}
use Rattle.jobs.specs.Number.{read_number}
use Rattle.jobs.specs.Job.{ENROL, with_number}
use Rattle.slip.specs.Output.{decimal, tabbed}
use Rattle.slip.proofs.Decimal.{decimal_few}
use Rattle.cuts.specs.declared.parts.Mark.TheVariants.{Comma}
use Rattle.cuts.specs.Cuts.{end_of, parts_in, parts_of}
use Rattle.csv_grammar.specs.Grammar.{is_field, unquoted, is_record, said_by}
use Rattle.csv_grammar.specs.Reading.{is_around, bare_of}
use Rattle.roster.specs.Asked.{from_fields, asked_by, given_for, given_of}
use Rattle.roster.specs.Roster.{enrol_text, report_text, as_line, line_for, report_for}
use Rattle.roster.proofs.Numerals.{read_bare, said_bare}

-- ---- what a record asks for

-- go on with the number in a field of those that there are
abbrev pub with_part : List Bytes → ℕ → (ℤ → Job) → Job
with_part ps i next = with_number (read_number (bare_of (get_or ps i []))) next

abbrev pub by_parts : List Bytes → Job
by_parts ps = with_part ps 0 (λ n. with_part ps 1 (λ a. with_part ps 2 (λ b. Enrol n a b)))

from_four : (ps : List Bytes) → length ps ≡ 4 → every is_field ps ≡ true → from_fields (map unquoted ps) ≡ by_parts ps
from_four [] l e = absurd (omega arith)
from_four (n ∷ []) l e = absurd (omega arith)
from_four (n ∷ x ∷ []) l e = absurd (omega arith)
from_four (n ∷ x ∷ y ∷ []) l e = absurd (omega arith)
from_four (n ∷ x ∷ y ∷ name ∷ []) l e =
    let others = and_right (is_field n) _ e in
    let last = and_right (is_field x) _ others in
    rw (read_bare n (and_left (is_field n) _ e), read_bare x (and_left (is_field x) _ others), read_bare y (and_left (is_field y) _ last))
from_four (n ∷ x ∷ y ∷ name ∷ z ∷ more) l e = absurd (omega arith)

from_other : (ps : List Bytes) → (length ps ≡ 4 → ⊥) → from_fields (map unquoted ps) ≡ Misshapen
from_other [] l = refl
from_other (n ∷ []) l = refl
from_other (n ∷ x ∷ []) l = refl
from_other (n ∷ x ∷ y ∷ []) l = refl
from_other (n ∷ x ∷ y ∷ name ∷ []) l = absurd (l refl)
from_other (n ∷ x ∷ y ∷ name ∷ z ∷ more) l = refl

pub asked_four : (item : Bytes) → length (parts_of Comma item) ≡ 4 → is_record item ≡ true → asked_by item ≡ by_parts (parts_of Comma item)
unfolding asked_by is_record said_by
asked_four item l e = rw e (from_four (parts_of Comma item) l e)

pub asked_other : (item : Bytes) → (length (parts_of Comma item) ≡ 4 → ⊥) → asked_by item ≡ Misshapen
unfolding asked_by said_by
asked_other item l =
    by_bool (λ t. cond t (from_fields (map unquoted (parts_of Comma item))) Misshapen ≡ Misshapen) (is_record item)
    (λ _. from_other (parts_of Comma item) l) (λ _. refl)

pub asked_broken : (item : Bytes) → is_record item ≡ false → asked_by item ≡ Misshapen
unfolding asked_by
asked_broken item e = rw e

-- ---- a record that is not refused

-- its four fields, with a number in each of the first three
pub record Holder (item : Bytes) : Type 0 where
  pub number : Bytes
  pub x : Bytes
  pub y : Bytes
  pub name : Bytes
  pub parts : parts_of Comma item ≡ number ∷ x ∷ y ∷ name ∷ []
  pub numbered : is_some (read_number (unquoted number)) ≡ true
  pub east : is_some (read_number (unquoted x)) ≡ true
  pub north : is_some (read_number (unquoted y)) ≡ true
  pub sound : every is_field (number ∷ x ∷ y ∷ name ∷ []) ≡ true

-- a misshapen record is refused
refused : {A : Type 0} → Err refusal.Misshapen ≡ Done → A
refused e = absurd (omega (arith, ap number_given e))

-- a number is needed
asked_number : (r : Option ℤ) (next : ℤ → Job) → given_for (with_number r next) ≡ Done → (z : ℤ) × ((r ≡ Some z) × (given_for (next z) ≡ Done))
asked_number (Some z) next e = (z, (refl, e))
asked_number None next e = refused e

holder_of : (item : Bytes) (ps : List Bytes) → parts_of Comma item ≡ ps → every is_field ps ≡ true
    → given_for (from_fields (map unquoted ps)) ≡ Done → Holder item
holder_of item [] p s e = refused e
holder_of item (n ∷ []) p s e = refused e
holder_of item (n ∷ x ∷ []) p s e = refused e
holder_of item (n ∷ x ∷ y ∷ []) p s e = refused e
holder_of item (n ∷ x ∷ y ∷ name ∷ []) p s e =
    let first = asked_number (read_number (unquoted n)) _ e in
    let second = asked_number (read_number (unquoted x)) _ first.1.1 in
    let third = asked_number (read_number (unquoted y)) _ second.1.1 in
    record {
      number = n;
      x = x;
      y = y;
      name = name;
      parts = p;
      numbered = ap is_some first.1.0;
      east = ap is_some second.1.0;
      north = ap is_some third.1.0;
      sound = s;
    }
holder_of item (n ∷ x ∷ y ∷ name ∷ z ∷ more) p s e = refused e

pub holder : (item : Bytes) → given_of item ≡ Done → Holder item
unfolding given_of asked_by is_record said_by
holder item e =
    by_bool (λ t. every is_field (parts_of Comma item) ≡ t → given_for (cond t (from_fields (map unquoted (parts_of Comma item))) Misshapen) ≡ Done → Holder item)
    (every is_field (parts_of Comma item))
    (λ _ s g. holder_of item (parts_of Comma item) refl s g) (λ _ _ g. refused g) refl e

-- its line: the stretches between the quote marks
pub line_parts : (item : Bytes) → given_of item ≡ Done
    → let ps = parts_of Comma item in
    line_for item ≡ as_line (ENROL ∷ tabbed (bare_of (get_or ps 0 []) ∷ bare_of (get_or ps 1 []) ∷ bare_of (get_or ps 2 []) ∷ []))
unfolding line_for enrol_text said_by
line_parts item e =
    let h = holder item e in
    let others = and_right (is_field h.number) _ h.sound in
    let last = and_right (is_field h.x) _ others in
    rw (
      e,
      h.parts,
      said_bare h.number (and_left (is_field h.number) _ h.sound) h.numbered,
      said_bare h.x (and_left (is_field h.x) _ others) h.east,
      said_bare h.y (and_left (is_field h.y) _ last) h.north,
    )

-- ---- how long it is

tabbed_three : (f g h : Bytes) → length (tabbed (f ∷ g ∷ h ∷ [])) ≡ length f + (length g + length h) + 3
tabbed_three f g h = omega (arith, length-append f (tabbed (g ∷ h ∷ [])), length-append g (tabbed (h ∷ [])), length-append h [])

-- the bytes of parts, with one mark each
abbrev lengths : List Bytes → ℕ
lengths [] = 0
lengths (p ∷ ps) = length p + 1 + lengths ps

parts_in_lem : (n : ℕ) (bs : Bytes) → lengths (parts_in n Comma bs) ≡ length bs + 1
parts_in_lem zero bs = omega arith
parts_in_lem (suc n) bs =
    let e = end_of Comma bs in
    by_bool (λ t. lengths (cond t (take e bs ∷ parts_in n Comma (drop (e + 1) bs)) (bs ∷ [])) ≡ length bs + 1) (ltb e (length bs))
    (λ l. omega (arith, ltb-true e (length bs) l, length-take e bs, length-drop (e + 1) bs, parts_in_lem n (drop (e + 1) bs))) (λ _. omega arith)

parts_long : (item : Bytes) → lengths (parts_of Comma item) ≡ length item + 1
unfolding parts_of
parts_long item = parts_in_lem (length item) item

bare_most : (field : Bytes) → length (bare_of field) ≤ length field
unfolding bare_of
bare_most field =
    by_bool (λ t. length (cond t (take (length field - 2) (drop 1 field)) field) ≤ length field) (is_around field)
    (λ _. omega (arith, length-take (length field - 2) (drop 1 field), length-drop 1 field)) (λ _. omega arith)

-- no more bytes than the record, and two for a line end
pub stretches_room : (item : Bytes) → given_of item ≡ Done
    → let ps = parts_of Comma item in
    length (bare_of (get_or ps 0 [])) + (length (bare_of (get_or ps 1 [])) + length (bare_of (get_or ps 2 []))) + 3 ≤ length item
stretches_room item e =
    let h = holder item e in
    let total = parts_long item in
    rw h.parts (omega (arith, rw h.parts at total, bare_most h.number, bare_most h.x, bare_most h.y))

-- the four fields, each tested at its place
pub four_sound : (ps : List Bytes) → length ps ≡ 4
    → (is_field (get_or ps 0 []) && (is_field (get_or ps 1 []) && (is_field (get_or ps 2 []) && (is_field (get_or ps 3 []) && true)))) ≡ every is_field ps
four_sound [] e = absurd (omega arith)
four_sound (n ∷ []) e = absurd (omega arith)
four_sound (n ∷ x ∷ []) e = absurd (omega arith)
four_sound (n ∷ x ∷ y ∷ []) e = absurd (omega arith)
four_sound (n ∷ x ∷ y ∷ name ∷ []) e = refl
four_sound (n ∷ x ∷ y ∷ name ∷ z ∷ more) e = absurd (omega arith)

-- ---- one record, by what it is given

module _ (item : Bytes) {g : Given} (e : g ≡ given_of item) where
  pub line_refused : (g ≡ Done → ⊥) → line_for item ≡ []
  unfolding line_for
  line_refused n = if_refused (given_of item) (λ d. n (e ∙ d)) (as_line (enrol_text (said_by item))) []

  pub report_refused : (number : ℕ) → (g ≡ Done → ⊥) → report_for number item ≡ as_line (report_text number g)
  unfolding report_for
  report_refused number n =
      if_refused (given_of item) (λ d. n (e ∙ d)) [] (as_line (report_text number (given_of item))) ∙ ap (λ h. as_line (report_text number h)) (sym e)

  pub report_granted : (number : ℕ) → g ≡ Done → report_for number item ≡ []
  unfolding report_for
  report_granted number d = rw (sym e ∙ d)

granted_most : (item : Bytes) → given_of item ≡ Done → length (line_for item) ≤ 2 + length item
granted_most item d =
    let ps = parts_of Comma item in
    rw (line_parts item d)
    (omega (
      arith,
      stretches_room item d,
      length-append (tabbed (bare_of (get_or ps 0 []) ∷ bare_of (get_or ps 1 []) ∷ bare_of (get_or ps 2 []) ∷ [])) (FEED ∷ []),
      tabbed_three (bare_of (get_or ps 0 [])) (bare_of (get_or ps 1 [])) (bare_of (get_or ps 2 [])),
    ))

-- no line is longer than its record and a line end
pub line_most : (item : Bytes) → length (line_for item) ≤ 2 + length item
unfolding line_for
line_most item =
    if_either (given_of item) (λ (bs : Bytes). length bs ≤ 2 + length item)
    (λ d. subst (λ (h : Given). length (if_done h (as_line (enrol_text (said_by item))) []) ≤ 2 + length item) d (granted_most item d)) (omega arith)

-- and no report of the first hundred thousand records is longer than nine bytes
pub report_most : (number : ℕ) (item : Bytes) → number < 10 ^ 5 → length (report_for number item) ≤ 9
unfolding report_for report_text
report_most number item h =
    if_either (given_of item) (λ (bs : Bytes). length bs ≤ 9) (λ _. omega arith)
    (let refusal = decimal (number_given (given_of item)) in
    omega (
      arith,
      length-append (decimal number ++ tabbed (refusal ∷ [])) (FEED ∷ []),
      length-append (decimal number) (tabbed (refusal ∷ [])),
      length-append refusal [],
      decimal_few 4 number (omega arith) h,
      decimal_few 1 (number_given (given_of item)) (omega arith) (omega (arith, given_most (given_of item))),
    ))
