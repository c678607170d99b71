-- 01, "Enrolling and withdrawing": a granted enrolment, word by word.
use Rattle.std.specs.Prelude.{ℕ, zero, suc, ◌+◌, cond, List, [], ◌∷◌, ◌++◌, leb, pos, length, set}
use Rattle.table.specs.declared.node.Entry.{Entry}
use Rattle.figures.specs.Figures.{FAN}
use Rattle.table.specs.Words.{Words, root_of, points_of}
use Rattle.table.specs.Page.{page, cover_of}
use Rattle.table.specs.Slots.{level_at, entries_at, put_page, lowest_free, entry_for, with_root, with_points}
use Rattle.rules.specs.Rules.{is_empty}
use Rattle.change.specs.Choose.{entry_in, chosen}
use Rattle.change.specs.Share.{first_share, other_share}

-- what an insertion hands up: the words, and the entry of a new node if one was made
pub record Grown : Type 0 where
  pub words : Words
  pub new : List Entry

-- up to eight entries stay together
abbrev pub kept : Words → ℕ → ℕ → List Entry → Grown
kept ws s l es = record { words = put_page ws s (page l es); new = [] }

-- of nine the first four stay; the other five go to the lowest free slot
abbrev pub split : Words → ℕ → ℕ → List Entry → Grown
split ws s l es =
    let f = lowest_free ws in
    record {
      words = put_page (put_page ws s (page l (first_share es))) f (page l (other_share es));
      new = record { reference = f; rect = cover_of (other_share es) } ∷ [];
    }

unfoldable pub settled : Words → ℕ → ℕ → List Entry → Grown
settled ws s l es = cond (leb (length es) FAN) (kept ws s l es) (split ws s l es)

-- Into the node in slot s, of level l. In a leaf the newcomer goes last. Above, it goes into the child that is chosen;
-- then the old entry gets its new box, and the new node's entry, if there is one, goes last.
abbrev pub inserted : ℕ → Words → ℕ → Entry → Grown
inserted zero ws s e = settled ws s zero (entries_at ws s ++ e ∷ [])
inserted (suc l) ws s e =
    let es = entries_at ws s in
    let i = chosen e.rect es in
    let child = (entry_in es i).reference in
    let g = inserted l ws child e in
    settled g.words s (suc l) (set es i (entry_for g.words child) ++ g.new)

-- if the root splits, a new root takes the lowest slot then free, with the old node first
abbrev pub rooted : ℕ → ℕ → Words → List Entry → Words
rooted s l ws [] = ws
rooted s l ws (e ∷ es) =
    let f = lowest_free ws in
    with_root (put_page ws f (page (suc l) (entry_for ws s ∷ e ∷ es))) (pos f)

-- on the empty table slot 0 becomes a root leaf with the one entry
abbrev pub first_enrolled : Words → Entry → Words
first_enrolled ws e = with_root (put_page ws 0 (page 0 (e ∷ []))) (pos 0)

abbrev pub next_enrolled : Words → Entry → Words
next_enrolled ws e =
    let s = root_of ws in
    let l = level_at ws s in
    let g = inserted l ws s e in
    rooted s l g.words g.new

unfoldable pub enrolled : Words → Entry → Words
enrolled ws e = with_points (cond (is_empty ws) (first_enrolled ws e) (next_enrolled ws e)) (points_of ws + 1)
