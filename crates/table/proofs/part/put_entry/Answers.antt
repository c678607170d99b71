-- `part::put_entry` meets its contract: five words set one after the other are the entry's words placed. Assumes nothing.
use Prim.Native.Nat.{◌+◌, ◌*◌}
use native.Mathlib.Omega.{arith}
use lib.IntN.{pos}
use Rattle.words.specs.Word.{word_of}
use Rattle.figures.specs.Figures.{ENTRY}
use Rattle.table.specs.Page.{entry_words}
use Rattle.table.proofs.Placed.{five}
use Rattle.table.proofs.part.put_entry.Goals as goal

pub returns : goal.returns
unfolding entry_words
returns c =
    let e = c.args.e in
    cc
    (five c.args.part.now (2 + ENTRY * c.args.i) (pos e.reference) (word_of e.rect.x.low) (word_of e.rect.y.low)
    (word_of e.rect.x.high) (word_of e.rect.y.high) (omega (arith, c.requires.0)))
