-- `change::choose::takes_before` meets its contract: the measures that it compares are those of the definition. Assumes nothing.
use Rattle.change.specs.Choose.{takes_before}
use Rattle.change.proofs.choose.takes_before.Goals as goal

pub returns : goal.returns
unfolding takes_before
returns c =
    rw (← c.growth.ensures, ← c.area.ensures, ← c.growth-2.ensures, ← c.area-2.ensures) c.is_better.ensures
