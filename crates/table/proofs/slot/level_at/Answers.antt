-- `slot::level_at` meets its contract: the slot's first word. Assumes nothing.
use Prim.Native.Nat.{◌+◌}
use mathlib.Core.Path.{◌≡◌, ap, sym, ◌∙◌}
use native.Mathlib.Omega.{arith}
use Rattle.words.specs.Word.{nat_of}
use Rattle.table.specs.Words.{word, start_of}
use Rattle.table.specs.Page.{page_of}
use Rattle.table.specs.Slots.{page_at}
use Rattle.table.proofs.Slots.{word_at}
use Rattle.table.proofs.slot.level_at.Goals as goal

pub returns : goal.returns
unfolding page_at page_of
returns c =
    let a = c.args in
    let ws = a.table.now in
    let k : start_of a.slot + 0 ≡ c.start.result = omega (arith, c.start.ensures) in
    c.natural_at.ensures ∙ sym (ap nat_of (word_at ws a.slot 0 (omega arith) ∙ ap (word ws) k))
