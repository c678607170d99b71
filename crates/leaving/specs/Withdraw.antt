-- 01, "Withdrawal": a granted withdrawal, word by word.
use Rattle.std.specs.Prelude.{ℕ, zero, suc, ◌+◌, ◌-◌, ◌≤◌, ◌<◌, ◌^◌, ◌≡◌, Bool, true, cond, not, ◌&&◌, List, ◌++◌, map, eqb, leb, ltb, pos, negsuc, length, set}
use Rattle.words.specs.Word.{IsWord}
use Rattle.grid.specs.Place.{RectOnGrid}
use Rattle.order.specs.Lists.{first_place, has, some, All, NoDup}
use Rattle.table.specs.declared.node.Entry.{Entry}
use Rattle.figures.specs.Figures.{FAN, LEAST, SLOTS, LENGTH}
use Rattle.table.specs.Words.{Words, root_of, points_of}
use Rattle.table.specs.declared.node.Node.{Node}
use Rattle.table.specs.Page.{Page, page, held, EntryFits, PageFits, without}
use Rattle.table.specs.Slots.{level_at, entries_at, put_page, freed, entry_for, with_root, with_points}
use Rattle.table.specs.Stations.{stations}
use Rattle.rules.specs.Rules.{well_formed}
use Rattle.change.specs.Choose.{entry_in}
use Rattle.change.specs.Share.{first_share, other_share}
use Rattle.change.specs.Planted.{Planted}

-- the number stands below slot s, of level l
abbrev pub holds : ℕ → Words → ℕ → ℕ → Bool
holds zero ws s n = some (λ e. eqb e.reference n) (entries_at ws s)
holds (suc l) ws s n = some (λ e. holds l ws e.reference n) (entries_at ws s)

-- the box of entry i is made tight
abbrev pub tight_at : Words → List Entry → ℕ → List Entry
tight_at ws es i = set es i (entry_for ws (entry_in es i).reference)

-- up to 8 go to the lower-placed node; the other slot becomes free and its parent entry is removed
abbrev pub merged : Words → ℕ → ℕ → List Entry → ℕ → List Entry → Words
merged ws s l es a joint =
    let c = (entry_in es a).reference in
    let d = (entry_in es (a + 1)).reference in
    let now = freed (put_page ws c (page l joint)) d in
    put_page now s (page (suc l) (without (a + 1) (tight_at now es a)))

-- the first share to one slot, the rest to another
abbrev pub shared_out : Words → ℕ → ℕ → ℕ → List Entry → Words
shared_out ws c d l joint = put_page (put_page ws c (page l (first_share joint))) d (page l (other_share joint))

-- nine or ten are shared, the first share to the lower-placed node, the rest to the other
abbrev pub shared : Words → ℕ → ℕ → List Entry → ℕ → List Entry → Words
shared ws s l es a joint =
    let now = shared_out ws (entry_in es a).reference (entry_in es (a + 1)).reference l joint in
    put_page now s (page (suc l) (tight_at now (tight_at now es a) (a + 1)))

-- the children at places a and a + 1 join: the lower-placed node's entries, then the other's
abbrev pub joint_at : Words → List Entry → ℕ → List Entry
joint_at ws es a = entries_at ws (entry_in es a).reference ++ entries_at ws (entry_in es (a + 1)).reference

unfoldable pub joined : Words → ℕ → ℕ → List Entry → ℕ → Words
joined ws s l es a =
    let joint = joint_at ws es a in
    cond (leb (length joint) FAN) (merged ws s l es a joint) (shared ws s l es a joint)

-- a child at place i joins the next sibling by place, or the previous one if it is last
abbrev pub lower_place : List Entry → ℕ → ℕ
lower_place es i = cond (ltb (i + 1) (length es)) i (i - 1)

-- after a withdrawal below entry i of the node in slot s, whose children are of level l
unfoldable pub mended : Words → ℕ → ℕ → List Entry → ℕ → Words
mended ws s l es i =
    cond (ltb (length (entries_at ws (entry_in es i).reference)) LEAST)
    (joined ws s l es (lower_place es i))
    (put_page ws s (page (suc l) (tight_at ws es i)))

-- out of the node in slot s, of level l
abbrev pub removed : ℕ → Words → ℕ → ℕ → Words
removed zero ws s n =
    let es = entries_at ws s in
    put_page ws s (page zero (without (first_place (λ e. eqb e.reference n) es) es))
removed (suc l) ws s n =
    let es = entries_at ws s in
    let i = first_place (λ e. holds l ws e.reference n) es in
    mended (removed l ws (entry_in es i).reference n) s l es i

-- the last point leaves the empty table
abbrev pub emptied : Words → ℕ → Words
emptied ws s = with_root (freed ws s) (negsuc 0)

-- a root above the leaves with one child gives way to it
abbrev pub given_way : Words → ℕ → Words
given_way ws s = with_root (freed ws s) (pos (entry_in (entries_at ws s) 0).reference)

unfoldable pub lowered : Words → ℕ → Words
lowered ws s =
    cond (eqb (length (entries_at ws s)) 0) (emptied ws s)
    (cond (not (eqb (level_at ws s) 0) && eqb (length (entries_at ws s)) 1) (given_way ws s) ws)

unfoldable pub withdrawn : Words → ℕ → Words
withdrawn ws n =
    let s = root_of ws in
    with_points (lowered (removed (level_at ws s) ws s n) s) (points_of ws - 1)

-- ---- what the functions require

-- a number below a slot
pub record Removable (l : ℕ) (ws : Words) (s n : ℕ) : Type 0 where
  pub planted : Planted l ws s
  pub found : holds l ws s n ≡ true

-- a child of level l that can be read and written back, its boxes on the grid
pub record Child (ws : Words) (l : ℕ) (e : Entry) : Type 0 where
  pub inside : e.reference < SLOTS
  pub level : level_at ws e.reference ≡ l
  pub fits : All EntryFits (entries_at ws e.reference)
  pub grid : All (λ x. RectOnGrid x.rect) (entries_at ws e.reference)

-- a page above the leaves, with two entries at least, that is to stand in slot s; it has a place i
pub record Mendable (ws : Words) (s : ℕ) (p : Page) (i : ℕ) : Type 0 where
  pub long : length ws ≡ LENGTH
  pub inside : s < SLOTS
  pub above : 0 < p.level
  pub fits : PageFits p
  pub place : i < length p.entries
  pub two : 2 ≤ length p.entries
  pub children : All (Child ws (p.level - 1)) p.entries
  pub apart : NoDup (map (λ e. e.reference) p.entries)

-- the children at places a and a + 1 have ten entries at most
pub record Joinable (ws : Words) (s : ℕ) (p : Page) (a : ℕ) : Type 0 where
  pub mendable : Mendable ws s p a
  pub next : a + 1 < length p.entries
  pub most : length (joint_at ws p.entries a) ≤ 10

-- entries that a slot can hold, on the grid; and two slots
pub record MayShare (c d : ℕ) (n : Node) : Type 0 where
  pub first : c < SLOTS
  pub other : d < SLOTS
  pub level : n.level < 2 ^ 31
  pub fits : All EntryFits (held n)
  pub grid : All (λ e. RectOnGrid e.rect) (held n)

-- the root after a removal: if it is to give way, then to a slot
pub record Lowerable (ws : Words) (s : ℕ) : Type 0 where
  pub inside : s < SLOTS
  pub child : 0 < level_at ws s → length (entries_at ws s) ≡ 1 → (entry_in (entries_at ws s) 0).reference < SLOTS

-- what 01 asks before a withdrawal is granted: a well-formed table, and a point that is enrolled
pub record MayWithdraw (ws : Words) (n : ℕ) : Type 0 where
  pub long : length ws ≡ LENGTH
  pub words : All IsWord ws
  pub good : well_formed ws ≡ true
  pub enrolled : has n (map (λ p. p.number) (stations ws)) ≡ true
