-- The laws of the reader's states: where each kind of byte leads from each, by the cases of what follows. Assumes nothing.
use Prim.Native.Nat.{ℕ, ◌≤◌, ◌<◌}
use mathlib.Core.Path.{◌≡◌, refl, sym, ap, ◌∙◌}
use mathlib.Core.Bool.{true, false, ◌&&◌, ◌||◌, false≢true}
use mathlib.Core.List.{[], ◌∷◌}
use native.Mathlib.Omega.{arith}
use lib.Dec.{eqb, leb}
use borrow.Author.Tests.{le-leb, lt-leb, ne_eqb}
use Rattle.order.proofs.Lists.{by_leb}
use Rattle.sheet.specs.Bytes.{Bytes, FEED}
use Rattle.cuts.specs.Cuts.{QUOTE, COMMA, RETURN}
use Rattle.csv_grammar.specs.declared.grammar.State.{State}
use Rattle.csv_grammar.specs.declared.grammar.State.TheVariants.{Start, Plain, Quoted, Closed, Broken}
use Rattle.csv_grammar.specs.Grammar.{is_quote, from_to, is_text, is_inside, closes, is_field}
use Rattle.csv_grammar.specs.Reading.{Leads, OnMark, OnText, sound_from}

-- ---- bytes

pub text_unquoted : (b : ℕ) → is_text b ≡ true → is_quote b ≡ false
unfolding is_text
text_unquoted b e = ne_eqb b QUOTE (λ q. false≢true (sym (ap is_text q) ∙ e))

pub text_uncut : (b : ℕ) → is_text b ≡ true → eqb b COMMA ≡ false
unfolding is_text
text_uncut b e = ne_eqb b COMMA (λ q. false≢true (sym (ap is_text q) ∙ e))

pub text_inside : (b : ℕ) → is_text b ≡ true → is_inside b ≡ true
unfolding is_inside
text_inside b e = rw e

-- the bytes from 20 to 7E, without quote mark and comma, are TEXTDATA
pub text_range : (b : ℕ) → 32 ≤ b → b ≤ 126 → (b ≡ QUOTE → ⊥) → (b ≡ COMMA → ⊥) → is_text b ≡ true
unfolding is_text
text_range b l h q k =
    by_leb (λ t. ((leb 32 b && t) || (from_to 35 43 b || from_to 45 126 b)) ≡ true) b 33
    (λ _. rw (le-leb 32 b l))
    (λ m. by_leb (λ t. ((leb 32 b && false) || ((leb 35 b && t) || from_to 45 126 b)) ≡ true) b 43
    (λ _. rw (le-leb 32 b l, le-leb 35 b (omega arith)))
    (λ n. rw (le-leb 32 b l, le-leb 35 b (omega arith), le-leb 45 b (omega arith), le-leb b 126 h)))

pub below_text : (b : ℕ) → b < 32 → is_text b ≡ false
unfolding is_text
below_text b l = rw (lt-leb 32 b l, lt-leb 35 b (omega arith), lt-leb 45 b (omega arith))

pub above_text : (b : ℕ) → 126 < b → is_text b ≡ false
unfolding is_text
above_text b l =
    rw (le-leb 32 b (omega arith), lt-leb b 33 (omega arith), le-leb 35 b (omega arith), lt-leb b 43 (omega arith), le-leb 45 b (omega arith), lt-leb b 126 l)

-- ---- where they lead

-- between quote marks a byte that may stand there changes nothing
pub inside_stays : (b : ℕ) → is_quote b ≡ false → is_inside b ≡ true → (bs : Bytes) → closes (b ∷ bs) ≡ closes bs
inside_stays b q e [] = q
inside_stays b q e (c ∷ bs) = rw (q, e)

-- one that may not breaks the field
inside_breaks : (b : ℕ) → is_quote b ≡ false → is_inside b ≡ false → (bs : Bytes) → closes (b ∷ bs) ≡ false
inside_breaks b q e [] = q
inside_breaks b q e (c ∷ bs) = rw (q, e)

pub mark_quoted : OnMark Quoted Quoted
unfolding sound_from is_text is_inside
mark_quoted = (inside_stays COMMA refl refl, inside_stays RETURN refl refl, inside_stays FEED refl refl)

pub text_start : OnText Start Plain
unfolding sound_from is_field
text_start b e bs = rw (text_unquoted b e, e)

pub text_plain : OnText Plain Plain
unfolding sound_from
text_plain b e bs = rw e

pub text_quoted : OnText Quoted Quoted
unfolding sound_from
text_quoted b e bs = inside_stays b (text_unquoted b e) (text_inside b e) bs

pub text_closed : OnText Closed Broken
unfolding sound_from
text_closed b e bs = rw (text_unquoted b e)

pub text_broken : OnText Broken Broken
unfolding sound_from
text_broken b e bs = refl

-- any other byte breaks the field, wherever the reader stands
pub other_breaks : (state : State) (b : ℕ) → is_text b ≡ false → (b ≡ QUOTE → ⊥) → (b ≡ COMMA → ⊥) → (b ≡ RETURN → ⊥) → (b ≡ FEED → ⊥)
    → Leads state b Broken
unfolding sound_from is_field is_inside
other_breaks Start b e q k r f bs = rw (ne_eqb b QUOTE q, e)
other_breaks Plain b e q k r f bs = rw e
other_breaks Quoted b e q k r f bs =
    inside_breaks b (ne_eqb b QUOTE q) (rw (e, ne_eqb b COMMA k, ne_eqb b RETURN r, ne_eqb b FEED f)) bs
other_breaks Closed b e q k r f bs = rw (ne_eqb b QUOTE q)
other_breaks Broken b e q k r f bs = refl

-- ---- a turn of the reader
