-- `roster::asked::asked_by` meets its contract: the definition is followed field by field. Assumes nothing.
use mathlib.Core.Path.{sym, ◌∙◌}
use borrow.Author.Rules.{rules}
use Rattle.jobs.proofs.Jobs.{heard, unheard}
use Rattle.roster.proofs.Holders.{asked_four, asked_other, asked_broken}
use Rattle.roster.proofs.asked.asked_by.Goals as goal

pub returns-then-field_count-ne-FIELDS : goal.returns-then-field_count-ne-FIELDS
returns-then-field_count-ne-FIELDS c =
    sym (asked_other c.args.item.now (λ e. c.if-field_count-ne-FIELDS.true (c.field_count.ensures ∙ e)))

pub returns-then-not-is_sound : goal.returns-then-not-is_sound
returns-then-not-is_sound c =
    sym (asked_broken c.args.item.now (sym c.is_sound.ensures ∙ c.if-not-is_sound.true))

pub returns-in_default : goal.returns-in_default
returns-in_default c =
    let four = asked_four c.args.item.now (sym c.field_count.ensures ∙ c.if-field_count-ne-FIELDS.false) (sym c.is_sound.ensures ∙ c.if-not-is_sound.false) in
    sym (four ∙ unheard _ _ _ c.number_in.ensures c.in_default.is)

pub returns-in_default-number_in : goal.returns-in_default-number_in
returns-in_default-number_in c =
    let four = asked_four c.args.item.now (sym c.field_count.ensures ∙ c.if-field_count-ne-FIELDS.false) (sym c.is_sound.ensures ∙ c.if-not-is_sound.false) in
    sym (four
    ∙ heard _ _ _ _ c.number_in.ensures c.in-Some.is (search rules)
    ∙ unheard _ _ _ c.number_in-2.ensures c.in_default-number_in.is)

pub returns-in_default-number_in-2 : goal.returns-in_default-number_in-2
returns-in_default-number_in-2 c =
    let four = asked_four c.args.item.now (sym c.field_count.ensures ∙ c.if-field_count-ne-FIELDS.false) (sym c.is_sound.ensures ∙ c.if-not-is_sound.false) in
    sym (four
    ∙ heard _ _ _ _ c.number_in.ensures c.in-Some.is (search rules)
    ∙ heard _ _ _ _ c.number_in-2.ensures c.in-Some-number_in.is (search rules)
    ∙ unheard _ _ _ c.number_in-3.ensures c.in_default-number_in-2.is)

pub returns : goal.returns
returns c =
    let four = asked_four c.args.item.now (sym c.field_count.ensures ∙ c.if-field_count-ne-FIELDS.false) (sym c.is_sound.ensures ∙ c.if-not-is_sound.false) in
    sym (four
    ∙ heard _ _ _ _ c.number_in.ensures c.in-Some.is (search rules)
    ∙ heard _ _ _ _ c.number_in-2.ensures c.in-Some-number_in.is (search rules)
    ∙ heard _ _ _ _ c.number_in-3.ensures c.in-Some-number_in-2.is (search rules))
