-- Any two outcomes that the promise of a call permits are equal. Each promise is an equation, or a record of equations. Assumes nothing.
use mathlib.Core.Path.{sym, ◌∙◌}
use Rattle.refusals.proofs.TellsAll.{tells_all}
use Rattle.desk.specs.Sharp.{OneOutcome}
use Rattle.desk.proofs.CallQuery.{answers_once}
use Rattle.desk.proofs.CallAlone.{alone_once}
use Rattle.desk.proofs.CallCard.{card_once}

pub one_outcome : OneOutcome
one_outcome = record {
  check = λ ws r r' a b. a ∙ sym b;
  enrol = λ ws n p r r' after after' a b. (a.given ∙ sym b.given, a.table ∙ sym b.table);
  withdraw = λ ws n r r' after after' a b. (a.given ∙ sym b.given, a.table ∙ sym b.table);
  query = λ ws q k before after after' old new new' r r' a b. let once = answers_once a b in (once.0, once.1, tells_all.query r r' once.2);
  card = λ ws n k old new new' r r' a b. let once = card_once ws n k old a b in (once.0, tells_all.card r r' once.1);
  answers = λ ws q k before after after' old new new' r r' a b. let once = alone_once a b in (once.0, once.1, tells_all.query r r' once.2);
}
