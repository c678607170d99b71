-- 01, "Well formed means all of": the seven rules, each as a test of one slot; a test of the two header words has no slot.
-- A rule may count on the rules before it: what it says of a table that breaks one of those does not matter.
use Rattle.std.specs.Prelude.{ℕ, suc, ◌+◌, ◌*◌, ◌≡◌, Bool, true, false, cond, not, ◌&&◌, ◌||◌, List, [], ◌∷◌, ◌++◌, map, eqb, ltb, ℤ, pos, negsuc, length, drop}
use Rattle.words.specs.Word.{IsWord, nat_of}
use Rattle.grid.specs.declared.rect.Rect.{Rect}
use Rattle.axis.specs.declared.span.Span.{Span}
use Rattle.order.specs.Order.{up_from}
use Rattle.order.specs.Lists.{count, every, has, join, All}
use Rattle.table.specs.declared.node.Entry.{Entry}
use Rattle.figures.specs.Figures.{FAN, LEAST, MOST, SLOTS, ENTRY, LENGTH}
use Rattle.table.specs.Words.{Words, between, word, is_zero, is_minus_one, root_of, points_of, part_at}
use Rattle.table.specs.Page.{filled, cover_of}
use Rattle.table.specs.Slots.{slots, is_free, level_at, entries_at}
use Rattle.table.specs.Stations.{is_point, is_leaf, stations}

abbrev pub is_natural : ℤ → Bool
is_natural (pos n) = true
is_natural (negsuc n) = false

abbrev pub is_root : Words → ℕ → Bool
is_root ws s = eqb (root_of ws) s

-- ---- rule 1: a free slot has 41 zeros after its level; words of unused entries are zero in every slot

abbrev pub used_words : Words → ℕ
used_words part = cond (is_minus_one (word part 0)) 1 (2 + ENTRY * filled part)

unfoldable pub rule1 : Words → ℕ → Bool
rule1 ws s = every is_zero (drop (used_words (part_at ws s)) (part_at ws s))

-- ---- rule 2, of the header: empty, or the root is a used slot and points are 1 to 500

unfoldable pub is_empty : Words → Bool
is_empty ws = is_minus_one (word ws 0) && (eqb (points_of ws) 0 && every (is_free ws) slots)

unfoldable pub rule2 : Words → Bool
rule2 ws = is_empty ws || (ltb (root_of ws) SLOTS && (not (is_free ws (root_of ws)) && between 1 MOST (points_of ws)))

-- ---- rule 3: a used slot has level 0 or more; a root leaf has 1 to 8 entries, a root above 2 to 8, any other node 3 to 8

abbrev pub least_fill : Words → ℕ → ℕ
least_fill ws s = cond (is_root ws s) (cond (is_leaf ws s) 1 2) LEAST

unfoldable pub rule3 : Words → ℕ → Bool
rule3 ws s = is_free ws s || (is_natural (word (part_at ws s) 0) && between (least_fill ws s) FAN (nat_of (word (part_at ws s) 1)))

-- ---- rule 4, of a leaf: point numbers are 1 to 9,999, each at most once in the table; low equals high on both axes; places are on the grid

abbrev pub leaf_entries : Words → ℕ → List Entry
leaf_entries ws s = cond (is_leaf ws s) (entries_at ws s) []

abbrev pub numbers_at : Words → ℕ → List ℕ
numbers_at ws s = map (λ e. e.reference) (leaf_entries ws s)

-- each number of the list stands at no earlier place: neither among those before nor in the list before it
abbrev pub each_new : List ℕ → List ℕ → Bool
each_new before [] = true
each_new before (n ∷ ns) = not (has n before) && each_new (before ++ n ∷ []) ns

unfoldable pub rule4 : Words → ℕ → Bool
rule4 ws s = every is_point (leaf_entries ws s) && each_new (join (numbers_at ws) (up_from 0 s)) (numbers_at ws s)

-- ---- rule 5: a child slot is 0 to 255, used, with level exactly one less

abbrev pub is_above : Words → ℕ → Bool
is_above ws s = not (is_free ws s || is_leaf ws s)

abbrev pub entries_above : Words → ℕ → List Entry
entries_above ws s = cond (is_above ws s) (entries_at ws s) []

abbrev pub is_child : Words → ℕ → Entry → Bool
is_child ws s e = ltb e.reference SLOTS && (not (is_free ws e.reference) && eqb (suc (level_at ws e.reference)) (level_at ws s))

unfoldable pub rule5 : Words → ℕ → Bool
rule5 ws s = every (is_child ws s) (entries_above ws s)

-- ---- rule 6: an entry's box is the smallest that covers all boxes in the child

abbrev pub same_span : Span → Span → Bool
same_span s t = eqb s.low t.low && eqb s.high t.high

abbrev pub same_rect : Rect → Rect → Bool
same_rect r s = same_span r.x s.x && same_span r.y s.y

unfoldable pub rule6 : Words → ℕ → Bool
rule6 ws s = every (λ e. same_rect e.rect (cover_of (entries_at ws e.reference))) (entries_above ws s)

-- ---- rule 7: each used slot but the root is referred to once, the root never; word 1 equals the number of leaf entries

abbrev pub refs_at : Words → ℕ → List ℕ
refs_at ws s = map (λ e. e.reference) (entries_above ws s)

abbrev pub times_referred : Words → ℕ → ℕ
times_referred ws s = count (eqb s) (join (refs_at ws) slots)

unfoldable pub rule7 : Words → ℕ → Bool
rule7 ws s = is_free ws s || eqb (times_referred ws s) (cond (is_root ws s) 0 1)

unfoldable pub rule7_header : Words → Bool
rule7_header ws = eqb (points_of ws) (length (stations ws))

-- ---- all of them

unfoldable pub well_formed : Words → Bool
well_formed ws =
    every (rule1 ws) slots
    && (rule2 ws
    && (every (rule3 ws) slots
    && (every (rule4 ws) slots
    && (every (rule5 ws) slots
    && (every (rule6 ws) slots
    && (rule7_header ws && every (rule7 ws) slots))))))

-- a table that passes the check
abbrev pub Passes : Words → Type 0
Passes ws = (length ws ≡ LENGTH) × (well_formed ws ≡ true)

-- a lent one: each of its words fits 32 bits
pub record Passing (ws : Words) : Type 0 where
  pub long : length ws ≡ LENGTH
  pub words : All IsWord ws
  pub rules : well_formed ws ≡ true
