-- How the code reads a field: what each state says of the bytes that are left, and the stretch between the quote marks.
use Rattle.std.specs.Prelude.{ℕ, ◌-◌, ◌≡◌, Bool, true, false, cond, [], ◌∷◌, length, take, drop}
use Rattle.order.specs.Lists.{every}
use Rattle.sheet.specs.Bytes.{Bytes, FEED}
use Rattle.cuts.specs.Cuts.{QUOTE, COMMA, RETURN}
use Rattle.csv_grammar.specs.declared.grammar.State.{State}
use Rattle.csv_grammar.specs.declared.grammar.State.TheVariants.{Start, Plain, Quoted, Closed, Broken}
use Rattle.csv_grammar.specs.Grammar.{is_quote, is_text, closes, is_field}

-- whether a field is sound, by the state that was reached and what is left of it
unfoldable pub sound_from : State → Bytes → Bool
sound_from Start bs = is_field bs
sound_from Plain bs = every is_text bs
sound_from Quoted bs = closes bs
sound_from Closed bs = closes (QUOTE ∷ bs)
sound_from Broken bs = false

-- a byte leads from one state to another: whatever follows it, both say the same
abbrev pub Leads : State → ℕ → State → Type 0
Leads state b next = (bs : Bytes) → sound_from state (b ∷ bs) ≡ sound_from next bs

-- the same for each byte of a kind
abbrev pub OnMark : State → State → Type 0
OnMark state next = Leads state COMMA next × Leads state RETURN next × Leads state FEED next

abbrev pub OnText : State → State → Type 0
OnText state next = (b : ℕ) → is_text b ≡ true → Leads state b next

-- a field starts with a quote mark, and has a further byte
abbrev pub is_around : Bytes → Bool
is_around [] = false
is_around (b ∷ []) = false
is_around (b ∷ c ∷ bs) = is_quote b

-- a field without the quote marks around it
unfoldable pub bare_of : Bytes → Bytes
bare_of field = cond (is_around field) (take (length field - 2) (drop 1 field)) field
