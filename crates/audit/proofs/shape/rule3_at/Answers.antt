-- `shape::rule3_at` meets its contract: the tests in their order, of the first two words of the slot. Assumes nothing.
use Rattle.std.proofs.Common.{rules}
use mathlib.Core.Path.{◌≡◌, ap, sym, ◌∙◌}
use mathlib.Core.Bool.{true, false}
use native.Mathlib.Omega.{arith}
use Rattle.words.specs.Word.{nat_of}
use Rattle.figures.specs.Figures.{FAN}
use Rattle.table.specs.Words.{word, part_at, between}
use Rattle.table.specs.Slots.{is_free}
use Rattle.rules.specs.Rules.{rule3}
use Rattle.audit.proofs.Words.{right_natural, left_negative}
use Rattle.audit.proofs.shape.rule3_at.Goals as goal

pub returns-then-is_free : goal.returns-then-is_free
unfolding rule3
returns-then-is_free c =
    let a = c.args in
    let f : is_free a.table.now a.slot ≡ true = sym c.is_free.ensures ∙ c.if-is_free.true in
    rw f

pub returns-then-steps_at-lt-ZERO : goal.returns-then-steps_at-lt-ZERO
unfolding rule3
returns-then-steps_at-lt-ZERO c =
    let a = c.args in
    let ws = a.table.now in
    let f : is_free ws a.slot ≡ false = sym c.is_free.ensures ∙ c.if-is_free.false in
    let p = c.part_of-words.ensures in
    rw (f, left_negative (word (part_at ws a.slot) 0) (omega (arith, rw p at c.steps_at.ensures)))

pub returns : goal.returns
unfolding rule3
returns c =
    let past_level : rule3 c.args.table.now c.args.slot ≡ between c.least_fill.result FAN c.natural_at.result =
    let a = c.args in
    let ws = a.table.now in
    let f : is_free ws a.slot ≡ false = sym c.is_free.ensures ∙ c.if-is_free.false in
    let p = c.part_of-words.ensures in
    let r = right_natural (word (part_at ws a.slot) 0) (omega (arith, rw p at c.steps_at.ensures)) in
    let n : nat_of (word (part_at ws a.slot) 1) ≡ c.natural_at.result = sym (rw p at c.natural_at.ensures) in
    rw (f, r, n) (ap (λ k. between k FAN c.natural_at.result) (sym c.least_fill.ensures)) in
    let within : c.contains.result ≡ between c.least_fill.result FAN c.natural_at.result = search rules in
    within ∙ sym past_level
