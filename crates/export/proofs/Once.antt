-- Any two outcomes that the promise of the exported query, and that of the exported card, permits are equal. Assumes nothing.
use mathlib.Core.Path.{sym, ◌∙◌}
use Rattle.export.specs.Told.{ToldOnce}
use Rattle.export.specs.Cards.{ToldCardOnce}

pub told_once : ToldOnce
told_once ws q k before after after' old new new' row told told' was fault fault' r r' a b =
    (a.candidates ∙ sym b.candidates, a.answers ∙ sym b.answers, a.counts ∙ sym b.counts, a.where_bad ∙ sym b.where_bad, a.given ∙ sym b.given)

pub told_card_once : ToldCardOnce
told_card_once ws n k old new new' row told told' was fault fault' r r' a b = (a.list ∙ sym b.list, a.names ∙ sym b.names, a.where_bad ∙ sym b.where_bad, a.given ∙ sym b.given)
