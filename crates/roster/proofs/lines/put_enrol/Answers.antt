-- `roster::lines::put_enrol` meets its contract: five runs, one behind the other. Assumes nothing.
use Prim.Native.Nat.{ℕ}
use mathlib.Core.List.{[]}
use native.Mathlib.Omega.{arith}
use lib.ListN.{get_or}
use Rattle.sheet.specs.Bytes.{Bytes}
use Rattle.slip.proofs.Laid.{laid_room}
use Rattle.cuts.specs.declared.parts.Mark.TheVariants.{Comma}
use Rattle.cuts.specs.Cuts.{parts_of}
use Rattle.csv_grammar.specs.Reading.{bare_of}
use Rattle.roster.proofs.Holders.{stretches_room, line_parts}
use Rattle.roster.proofs.Copied.{tab_room, three_fields}
use Rattle.roster.proofs.lines.put_enrol.Goals as goal

-- the bytes of field i that are laid
abbrev stretch : Bytes → ℕ → Bytes
stretch item i = bare_of (get_or (parts_of Comma item) i [])

pub put_field-requires : goal.put_field-requires
put_field-requires c =
    let room = stretches_room c.args.item.now c.requires.0 in
    omega (arith, room, laid_room 1 c.byte.ensures.laid (omega arith) (omega arith))

pub put_field-requires-2 : goal.put_field-requires-2
put_field-requires-2 c =
    let item = c.args.item.now in
    let room = stretches_room item c.requires.0 in
    let lettered = laid_room 1 c.byte.ensures.laid (omega arith) (omega arith) in
    let numbered = tab_room (stretch item 0) c.put_field.ensures.laid (omega (arith, room, lettered)) in
    omega (arith, room, lettered, numbered)

pub put_field-requires-3 : goal.put_field-requires-3
put_field-requires-3 c =
    let item = c.args.item.now in
    let room = stretches_room item c.requires.0 in
    let lettered = laid_room 1 c.byte.ensures.laid (omega arith) (omega arith) in
    let numbered = tab_room (stretch item 0) c.put_field.ensures.laid (omega (arith, room, lettered)) in
    let east = tab_room (stretch item 1) c.put_field-2.ensures.laid (omega (arith, room, lettered, numbered)) in
    omega (arith, room, lettered, numbered, east)

pub byte-requires-2 : goal.byte-requires-2
byte-requires-2 c =
    let item = c.args.item.now in
    let room = stretches_room item c.requires.0 in
    let lettered = laid_room 1 c.byte.ensures.laid (omega arith) (omega arith) in
    let numbered = tab_room (stretch item 0) c.put_field.ensures.laid (omega (arith, room, lettered)) in
    let east = tab_room (stretch item 1) c.put_field-2.ensures.laid (omega (arith, room, lettered, numbered)) in
    let north = tab_room (stretch item 2) c.put_field-3.ensures.laid (omega (arith, room, lettered, numbered, east)) in
    omega (arith, room, lettered, numbered, east, north)

pub returns-clause-laid : goal.returns-clause-laid
returns-clause-laid c =
    let item = c.args.item.now in
    let room = stretches_room item c.requires.0 in
    rw (line_parts item c.requires.0)
    (three_fields _ _ (stretch item 0) (stretch item 1) (stretch item 2) (omega (arith, room))
    c.byte.ensures.laid c.put_field.ensures.laid c.put_field-2.ensures.laid c.put_field-3.ensures.laid c.byte-2.ensures.laid)
