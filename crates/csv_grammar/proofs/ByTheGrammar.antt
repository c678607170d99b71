-- The theorem of specs/Written: a record keeps the grammar exactly if the grammar writes it, and its fields then say what was written. A field that keeps the
-- grammar has an even number of quote marks, and each comma in it stands behind an odd number: so the cuts are where the fields end. Assumes nothing.
use Prim.Native.Nat.{ℕ, zero, suc, ◌+◌, ◌≤◌, ◌<◌}
use mathlib.Core.Path.{◌≡◌, refl, sym, ap, ◌∙◌}
use mathlib.Core.Logic.{⊎_elim, inl, inr}
use mathlib.Core.Bool.{Bool, true, false, cond, ◌&&◌, ◌||◌, false≢true}
use mathlib.Core.List.{List, [], ◌∷◌, ◌++◌, map, append-nil}
use native.Mathlib.Omega.{arith}
use native.Mathlib.Numerals.{add-one, one-add}
use lib.Dec.{eqb, ltb}
use lib.ListN.{length, take, drop, get_or, length-append, length-drop}
use lib.Seq.{split_at, drop-cons, take-append_seam, drop-append-add}
use borrow.Author.Tests.{eqb-true, ltb-true, ltb-false}
use Rattle.order.specs.Lists.{every, join}
use Rattle.order.proofs.Lists.{by_bool, and_left, and_right}
use Rattle.sheet.specs.Bytes.{Bytes}
use Rattle.cuts.specs.declared.parts.Mark.TheVariants.{Comma}
use Rattle.cuts.specs.Cuts.{QUOTE, COMMA, end_of, parts_of}
use Rattle.cuts.proofs.Parted.{reach_from, end_reach, end_marked, parts_more, parts_last}
use Rattle.csv_grammar.specs.Grammar.{is_quote, is_text, is_inside, closes, is_field, inside, unquoted, is_record, said_by}
use Rattle.csv_grammar.specs.Written.{NonEscaped, Escaped, doubled, Field, Fields, after_commas, Record, ByTheGrammar}
use Rattle.csv_grammar.proofs.States.{text_unquoted, text_uncut, inside_stays}

-- what may be said between quote marks
abbrev is_said : ℕ → Bool
is_said b = is_quote b || is_inside b

-- ---- a field that is sound is written by the grammar, and says what it is unquoted

closes_written : (bs : Bytes) → closes bs ≡ true → (bs ≡ join doubled (inside bs) ++ QUOTE ∷ []) × (every is_said (inside bs) ≡ true)
closes_written [] e = absurd (false≢true e)
closes_written (b ∷ []) e = (ap (λ c. c ∷ []) (eqb-true b QUOTE e), refl)
closes_written (b ∷ c ∷ bs) e =
    let two : closes bs ≡ true → (bs ≡ join doubled (inside bs) ++ QUOTE ∷ []) × (every is_said (inside bs) ≡ true) = closes_written bs in
    let one : closes (c ∷ bs) ≡ true → (c ∷ bs ≡ join doubled (inside (c ∷ bs)) ++ QUOTE ∷ []) × (every is_said (inside (c ∷ bs)) ≡ true) =
    closes_written (c ∷ bs) in
    by_bool
    (λ t. is_quote b ≡ t → cond t (is_quote c && closes bs) (is_inside b && closes (c ∷ bs)) ≡ true
    → let says = b ∷ cond t (inside bs) (inside (c ∷ bs)) in (b ∷ c ∷ bs ≡ join doubled says ++ QUOTE ∷ []) × (every is_said says ≡ true))
    (is_quote b)
    (λ q _ f.
    let r = two (and_right (is_quote c) _ f) in
    let k : b ≡ QUOTE = eqb-true b QUOTE q in
    let m : c ≡ QUOTE = eqb-true c QUOTE (and_left (is_quote c) _ f) in
    (rw (q, k, m) (ap (λ l. QUOTE ∷ QUOTE ∷ l) r.0), rw q r.1))
    (λ q _ f.
    let r = one (and_right (is_inside b) _ f) in
    let i : is_inside b ≡ true = and_left (is_inside b) _ f in
    (rw q (ap (λ l. b ∷ l) r.0), rw (q, i) r.1))
    refl e

field_sound : (field : Bytes) → is_field field ≡ true → Field field (unquoted field)
unfolding is_field unquoted
field_sound [] e = inr (refl, refl)
field_sound (b ∷ bs) e =
    by_bool (λ t. cond t (closes bs) (every is_text (b ∷ bs)) ≡ true → Field (b ∷ bs) (cond t (inside bs) (b ∷ bs))) (is_quote b)
    (λ q f. let r = closes_written bs f in let k : b ≡ QUOTE = eqb-true b QUOTE q in inl (rw k (ap (λ l. QUOTE ∷ l) r.0), r.1))
    (λ q f. inr (refl, f))
    e

fields_sound : (fs : List Bytes) → every is_field fs ≡ true → Fields fs (map unquoted fs)
fields_sound [] e = tt
fields_sound (f ∷ fs) e = (field_sound f (and_left (is_field f) _ e), fields_sound fs (and_right (is_field f) _ e))

-- ---- a field that is written by the grammar is sound, and says what was written

inside_next : (b : ℕ) (bs : Bytes) → is_quote b ≡ false → closes bs ≡ true → inside (b ∷ bs) ≡ b ∷ inside bs
inside_next b [] q e = absurd (false≢true e)
inside_next b (c ∷ bs) q e = rw q

closes_whole : (says : Bytes) → every is_said says ≡ true
    → (closes (join doubled says ++ QUOTE ∷ []) ≡ true) × (inside (join doubled says ++ QUOTE ∷ []) ≡ says)
closes_whole [] e = (refl, refl)
closes_whole (b ∷ says) e =
    let r = closes_whole says (and_right (is_said b) _ e) in
    let rest = join doubled says ++ QUOTE ∷ [] in
    by_bool
    (λ t. is_quote b ≡ t → (t || is_inside b) ≡ true
    → let bs = (cond t (QUOTE ∷ QUOTE ∷ []) (b ∷ []) ++ join doubled says) ++ QUOTE ∷ [] in (closes bs ≡ true) × (inside bs ≡ b ∷ says))
    (is_quote b)
    (λ q _ _. let k : QUOTE ≡ b = sym (eqb-true b QUOTE q) in (r.0, ap (λ l. QUOTE ∷ l) r.1 ∙ ap (λ c. c ∷ says) k))
    (λ q _ i. (inside_stays b q i rest ∙ r.0, inside_next b rest q r.0 ∙ ap (λ l. b ∷ l) r.1))
    refl (and_left (is_said b) _ e)

text_whole : (says : Bytes) → every is_text says ≡ true → (is_field says ≡ true) × (unquoted says ≡ says)
unfolding is_field unquoted
text_whole [] e = (refl, refl)
text_whole (b ∷ says) e =
    let q : is_quote b ≡ false = text_unquoted b (and_left (is_text b) _ e) in
    (rw q e, rw q)

field_whole : (field says : Bytes) → Field field says → (is_field field ≡ true) × (unquoted field ≡ says)
unfolding is_field unquoted
field_whole field says h =
    ⊎_elim (λ (k : Escaped field says). rw k.0 (closes_whole says k.1)) (λ (k : NonEscaped field says). rw k.0 (text_whole says k.1)) h

fields_whole : (fs ss : List Bytes) → Fields fs ss → (every is_field fs ≡ true) × (map unquoted fs ≡ ss)
fields_whole [] [] h = (refl, refl)
fields_whole [] (s ∷ ss) h = absurd h
fields_whole (f ∷ fs) [] h = absurd h
fields_whole (f ∷ fs) (s ∷ ss) h =
    let k = field_whole f s h.0 in
    let r = fields_whole fs ss h.1 in
    (rw (k.0, r.0), rw (k.1, r.1))

-- ---- no cut stands in a sound field: with nothing behind it, or a comma, it is the first part

and_false : (t : Bool) → (t && false) ≡ false
and_false true = refl
and_false false = refl

text_reach : (bs rest : Bytes) → every is_text bs ≡ true → reach_from Comma true rest ≡ 0 → reach_from Comma true (bs ++ rest) ≡ length bs
text_reach [] rest e z = z
text_reach (b ∷ bs) rest e z =
    let t : is_text b ≡ true = and_left (is_text b) _ e in
    rw (text_uncut b t, text_unquoted b t, text_reach bs rest (and_right (is_text b) _ e) z, one-add)

closes_reach : (bs rest : Bytes) → closes bs ≡ true → reach_from Comma true rest ≡ 0 → reach_from Comma false (bs ++ rest) ≡ length bs
closes_reach [] rest e z = absurd (false≢true e)
closes_reach (b ∷ []) rest e z = let k : b ≡ QUOTE = eqb-true b QUOTE e in rw (k, z)
closes_reach (b ∷ c ∷ bs) rest e z =
    let two : closes bs ≡ true → reach_from Comma false (bs ++ rest) ≡ length bs = λ f. closes_reach bs rest f z in
    let one : closes (c ∷ bs) ≡ true → reach_from Comma false ((c ∷ bs) ++ rest) ≡ length (c ∷ bs) = λ f. closes_reach (c ∷ bs) rest f z in
    by_bool
    (λ t. is_quote b ≡ t → cond t (is_quote c && closes bs) (is_inside b && closes (c ∷ bs)) ≡ true
    → reach_from Comma false ((b ∷ c ∷ bs) ++ rest) ≡ length (b ∷ c ∷ bs))
    (is_quote b)
    (λ q _ f.
    let k : b ≡ QUOTE = eqb-true b QUOTE q in
    let m : c ≡ QUOTE = eqb-true c QUOTE (and_left (is_quote c) _ f) in
    rw (k, m, two (and_right (is_quote c) _ f)) (omega arith))
    (λ q _ f. rw (and_false (eqb b COMMA), q, one (and_right (is_inside b) _ f)) (omega arith))
    refl e

field_reach : (field rest : Bytes) → is_field field ≡ true → reach_from Comma true rest ≡ 0 → reach_from Comma true (field ++ rest) ≡ length field
unfolding is_field
field_reach [] rest e z = z
field_reach (b ∷ bs) rest e z =
    by_bool (λ t. is_quote b ≡ t → cond t (closes bs) (every is_text (b ∷ bs)) ≡ true → reach_from Comma true ((b ∷ bs) ++ rest) ≡ length (b ∷ bs)) (is_quote b)
    (λ q _ f. let k : b ≡ QUOTE = eqb-true b QUOTE q in rw (k, closes_reach bs rest f z, one-add))
    (λ q _ f. text_reach (b ∷ bs) rest f z)
    refl e

-- ---- the parts and the commas between them

-- where a cut stands there is a comma
cut_comma : (item : Bytes) → end_of Comma item < length item → item ≡ take (end_of Comma item) item ++ COMMA ∷ drop (end_of Comma item + 1) item
cut_comma item l =
    let e = end_of Comma item in
    let comma : get_or item e 0 ≡ COMMA = eqb-true _ COMMA (rw (drop-cons item e 0 l) at (end_marked Comma item l)) in
    split_at item e 0 l ∙ rw (comma, add-one e)

last_joined : (item : Bytes) → length item ≤ end_of Comma item → after_commas (parts_of Comma item) ≡ COMMA ∷ item
last_joined item l = rw (parts_last Comma item l, append-nil)

-- the parts of a record, with a comma before each, are a comma and the record; of a record of at most n bytes
parts_joined : (n : ℕ) (item : Bytes) → length item ≤ n → after_commas (parts_of Comma item) ≡ COMMA ∷ item
parts_joined zero item h = last_joined item (omega arith)
parts_joined (suc n) item h =
    let rest = drop (end_of Comma item + 1) item in
    let ih : length rest ≤ n → after_commas (parts_of Comma rest) ≡ COMMA ∷ rest = parts_joined n rest in
    by_bool (λ t. after_commas (parts_of Comma item) ≡ COMMA ∷ item) (ltb (end_of Comma item) (length item))
    (λ e.
    let l = ltb-true _ _ e in
    rw (parts_more Comma item l, ih (omega (arith, length-drop (end_of Comma item + 1) item))) (ap (λ bs. COMMA ∷ bs) (sym (cut_comma item l))))
    (λ e. last_joined item (ltb-false _ _ e))

commas_cut : (fs : List Bytes) → reach_from Comma true (after_commas fs) ≡ 0
commas_cut [] = refl
commas_cut (f ∷ fs) = refl

first_end : (first : Bytes) (others : List Bytes) → is_field first ≡ true → end_of Comma (first ++ after_commas others) ≡ length first
first_end first others e = end_reach Comma (first ++ after_commas others) ∙ field_reach first (after_commas others) e (commas_cut others)

-- the parts of sound fields with commas between them are these fields
parts_whole : (first : Bytes) (others : List Bytes) → every is_field (first ∷ others) ≡ true
    → parts_of Comma (first ++ after_commas others) ≡ first ∷ others
parts_whole first [] e =
    let r = first_end first [] (and_left (is_field first) _ e) in
    parts_last Comma (first ++ []) (omega (arith, length-append first [])) ∙ rw append-nil
parts_whole first (f ∷ fs) e =
    let item = first ++ COMMA ∷ (f ++ after_commas fs) in
    let r = first_end first (f ∷ fs) (and_left (is_field first) _ e) in
    parts_more Comma item (omega (arith, length-append first (COMMA ∷ (f ++ after_commas fs))))
    ∙ rw (r, take-append_seam, drop-append-add, parts_whole f fs (and_right (is_field first) _ e))

-- ---- the theorem

joined_record : (item : Bytes) (fs : List Bytes) → after_commas fs ≡ COMMA ∷ item → every is_field fs ≡ true → Record item (map unquoted fs)
joined_record item [] w e = absurd (let z : ◌≡◌ {A = ℕ} 0 1 = cc in omega arith)
joined_record item (f ∷ fs) w e = record { first = f; others = fs; written = cc; fields = fields_sound (f ∷ fs) e }

pub by_the_grammar : ByTheGrammar
unfolding is_record said_by
by_the_grammar = record {
  sound = λ item e. joined_record item (parts_of Comma item) (parts_joined (length item) item (omega arith)) e;
  whole = λ item says r.
      let k = fields_whole (r.first ∷ r.others) says r.fields in
      let p : parts_of Comma item ≡ r.first ∷ r.others = ap (parts_of Comma) r.written ∙ parts_whole r.first r.others k.0 in
      rw p k;
}
