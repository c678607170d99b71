-- What the words of a stored tree say: from the top's slot its page is read back, and its children are stored trees of the level below. `Good` is what every subtree of a sound tree has, and children inherit it. By recursion on the level. Assumes nothing.
use Prim.Native.Nat.{ℕ, zero, suc, ◌≤◌, ◌<◌, ◌^◌}
use native.Mathlib.Omega.{arith}
use native.Mathlib.Nat.{le_of_suc-le-suc}
use mathlib.Core.Path.{◌≡◌, refl, sym, ap, ◌∙◌}
use mathlib.Core.Bool.{true, false, ◌&&◌}
use mathlib.Core.List.Memᴰ
use mathlib.Core.List.{List, [], ◌∷◌}
use lib.Dec.{eqb}
use lib.ListN.{length, get_or, length-map}
use borrow.Author.Tests.{eqb-true}
use Rattle.axis.specs.declared.span.Span.{Span}
use Rattle.words.specs.Word.{nat_of}
use Rattle.grid.specs.declared.rect.Rect.{Rect}
use Rattle.axis.specs.Axis.{OnGrid}
use Rattle.grid.specs.Place.{Upright, rect_grown, spot_of}
use Rattle.axis.proofs.Axis.{span_ext}
use Rattle.grid.proofs.Rects.{rect_ext, grown_grid}
use Rattle.order.specs.Lists.{Mem, All, NoDup}
use Rattle.order.proofs.Lists.{map_at, all_mem, mem_all, all_then, all_both, all_map, and_left, and_right}
use Rattle.table.specs.declared.node.Entry.{Entry}
use Rattle.figures.specs.Figures.{FAN, LEAST, SLOTS, HIGHEST}
use Rattle.table.specs.Words.{Words, root_of, points_of, part_at, between}
use Rattle.table.specs.Page.{Page, page, page_of, page_words, EntryFits, PageFits, blank_entry, cover_of}
use Rattle.table.specs.Slots.{is_free, page_at, level_at, entries_at, entry_for}
use Rattle.table.specs.Stations.{span_is_spot, is_point}
use Rattle.table.specs.Tree.{Tree, bough, top_of, entry_of_tree, entries_of_tree, slots_of, leaves_of, Filled, least_of, Stored, Sound, Holds}
use Rattle.table.proofs.Cover.{cover_closed}
use Rattle.table.proofs.Slots.{page_back, page_part_used}
use Rattle.rules.proofs.Tests.{between_true}
use Rattle.rules.proofs.Joined.{mem_join, all_parts, nodup_parts}
use Rattle.rules.proofs.Size.{sound_bounds}

-- ---- rectangles

pub grown_upright : {r s : Rect} → Upright r → Upright s → Upright (rect_grown r s)
grown_upright u v = record { grid = grown_grid u.grid v.grid; x = omega arith; y = omega arith }

pub cover_upright : (es : List Entry) → 1 ≤ length es → All (λ e. Upright e.rect) es → Upright (cover_of es)
cover_upright es h a = cover_closed Upright (λ r s u v. grown_upright u v) es h a

-- ---- points

-- one axis of a point: low equals high, on the grid
pub record Spot (s : Span) : Type 0 where
  pub same : s.low ≡ s.high
  pub grid : OnGrid s.low

-- a leaf's entry: the number is 1 to 9,999, the box is one place on the grid
pub record Point (e : Entry) : Type 0 where
  pub least : 1 ≤ e.reference
  pub most : e.reference ≤ HIGHEST
  pub x : Spot e.rect.x
  pub y : Spot e.rect.y

spot : (s : Span) → span_is_spot s ≡ true → Spot s
spot s e =
    let a = eqb s.low s.high in
    let b = between 2146483648 2148483648 s.low in
    let g = between_true 2146483648 2148483648 s.low (and_right a b e) in
    record { same = eqb-true s.low s.high (and_left a b e); grid = record { low = g.0; high = g.1 } }

pub point : (e : Entry) → is_point e ≡ true → Point e
point e h =
    let a = between 1 HIGHEST e.reference in
    let b = span_is_spot e.rect.x in
    let c = span_is_spot e.rect.y in
    let n = between_true 1 HIGHEST e.reference (and_left a (b && c) h) in
    let s = and_right a (b && c) h in
    record { least = n.0; most = n.1; x = spot e.rect.x (and_left b c s); y = spot e.rect.y (and_right b c s) }

pub point_upright : {e : Entry} → Point e → Upright e.rect
point_upright p =
    record {
      grid = record {
        x = record { low = p.x.grid; high = record { low = omega arith; high = omega arith } };
        y = record { low = p.y.grid; high = record { low = omega arith; high = omega arith } };
      };
      x = omega arith;
      y = omega arith;
    }

-- the box of a point is that of its place
pub point_spot : {e : Entry} → Point e → e.rect ≡ spot_of (record { x = e.rect.x.low; y = e.rect.y.low })
point_spot p = rect_ext (span_ext refl (sym p.x.same)) (span_ext refl (sym p.y.same))

-- ---- a subtree of a sound tree

pub record Good (lo l : ℕ) (t : Tree l) : Type 0 where
  pub low : l ≤ 5
  pub fill : Filled lo l t
  pub apart : NoDup (slots_of l t)
  pub inside : All (λ s. s < SLOTS) (slots_of l t)
  pub points : All (λ e. is_point e ≡ true) (leaves_of l t)

pub good_root : {l : ℕ} {t : Tree l} → Sound l t → Good (least_of l) l t
good_root {l} {t} h =
    record { low = (sound_bounds l t h).0; fill = h.fill; apart = h.apart; inside = h.inside; points = h.points }

pub good_children : {lo l : ℕ} {t : Tree (suc l)} → Good lo (suc l) t → All (Good LEAST l) t.items
good_children {lo} {l} {t} g =
    let cs = t.items in
    let a = all_parts (λ s. s < SLOTS) (slots_of l) cs g.inside.1 in
    let b = all_parts (λ e. is_point e ≡ true) (leaves_of l) cs g.points in
    let d = nodup_parts (slots_of l) cs g.apart.1 in
    all_mem (Good LEAST l) cs
    (λ c m.
    record {
      low = omega (arith, g.low);
      fill = mem_all (Filled LEAST l) cs g.fill.1 m;
      apart = mem_all (λ x. NoDup (slots_of l x)) cs d m;
      inside = mem_all (λ x. All (λ s. s < SLOTS) (slots_of l x)) cs a m;
      points = mem_all (λ x. All (λ e. is_point e ≡ true) (leaves_of l x)) cs b m;
    })

pub good_child : {lo l : ℕ} {t : Tree (suc l)} {c : Tree l} → Good lo (suc l) t → Mem c t.items → Good LEAST l c
good_child {l = l} {t = t} g m = mem_all (Good LEAST l) t.items (good_children g) m

pub least_some : (l : ℕ) → 1 ≤ least_of l
least_some zero = omega arith
least_some (suc l) = omega arith

-- ---- the entries of the top

pub top_mem : (l : ℕ) (t : Tree l) → Mem (top_of l t) (slots_of l t)
top_mem zero t = Memᴰ.head refl
top_mem (suc l) t = Memᴰ.head refl

pub child_mem : (l : ℕ) {s : ℕ} (t : Tree (suc l)) {c : Tree l} → Mem c t.items → Mem s (slots_of l c) → Mem s (slots_of (suc l) t)
child_mem l t m n = Memᴰ.tail (mem_join (slots_of l) t.items m n)

pub top_inside : {lo l : ℕ} {t : Tree l} → Good lo l t → top_of l t < SLOTS
top_inside {l = l} {t = t} g = mem_all (λ s. s < SLOTS) (slots_of l t) g.inside (top_mem l t)

pub entry_reference : (l : ℕ) (t : Tree l) → (entry_of_tree l t).reference ≡ top_of l t
entry_reference zero t = refl
entry_reference (suc l) t = refl

pub entry_rect : (l : ℕ) (t : Tree l) → (entry_of_tree l t).rect ≡ cover_of (entries_of_tree l t)
entry_rect zero t = refl
entry_rect (suc l) t = refl

pub entry_tree : (l : ℕ) (t : Tree l) → entry_of_tree l t ≡ record { reference = top_of l t; rect = cover_of (entries_of_tree l t) }
entry_tree zero t = refl
entry_tree (suc l) t = refl

-- so many of them as the top has items
pub entries_fill : {lo l : ℕ} {t : Tree l} → Good lo l t → (lo ≤ length (entries_of_tree l t)) × (length (entries_of_tree l t) ≤ FAN)
entries_fill {l = zero} g = g.fill
entries_fill {l = suc l} {t = t} g = omega (arith, g.fill.0, length-map t.items (entry_of_tree l))

entry_from : {lo l : ℕ} {t : Tree l} → 1 ≤ lo → Good lo l t → All (λ e. Upright e.rect) (entries_of_tree l t) → Upright (entry_of_tree l t).rect
entry_from {l = l} {t = t} h g a = rw (entry_rect l t) (cover_upright (entries_of_tree l t) (omega (arith, entries_fill g)) a)

pub entries_upright : {lo l : ℕ} {t : Tree l} → Good lo l t → All (λ e. Upright e.rect) (entries_of_tree l t)
entries_upright {l = zero} {t = t} g =
    all_then (λ e. is_point e ≡ true) (λ e. Upright e.rect) (λ e h. point_upright (point e h)) t.items g.points
entries_upright {l = suc l} {t = t} g =
    all_map (λ e. Upright e.rect) (entry_of_tree l) t.items
    (all_then (Good LEAST l) (λ c. Upright (entry_of_tree l c).rect)
    (λ c h. entry_from (omega arith) h (entries_upright h)) t.items (good_children g))

-- the entry that a node above has for it
pub entry_upright : {lo l : ℕ} {t : Tree l} → 1 ≤ lo → Good lo l t → Upright (entry_of_tree l t).rect
entry_upright h g = entry_from h g (entries_upright g)

small_references : {lo l : ℕ} {t : Tree l} → Good lo l t → All (λ e. e.reference < 2 ^ 31) (entries_of_tree l t)
small_references {l = zero} {t = t} g =
    all_then (λ e. is_point e ≡ true) (λ e. e.reference < 2 ^ 31) (λ e h. omega (arith, (point e h).most)) t.items g.points
small_references {l = suc l} {t = t} g =
    all_map (λ e. e.reference < 2 ^ 31) (entry_of_tree l) t.items
    (all_then (Good LEAST l) (λ c. (entry_of_tree l c).reference < 2 ^ 31)
    (λ c h. omega (arith, entry_reference l c, top_inside h)) t.items (good_children g))

pub entries_fit : {lo l : ℕ} {t : Tree l} → Good lo l t → All EntryFits (entries_of_tree l t)
entries_fit {l = l} {t = t} g =
    let es = entries_of_tree l t in
    let P : Entry → Type 0 = λ e. Upright e.rect in
    let Q : Entry → Type 0 = λ e. e.reference < 2 ^ 31 in
    all_then (λ e. P e × Q e) EntryFits
    (λ e h. record { reference = h.1; x_low = omega arith; y_low = omega arith; x_high = omega arith; y_high = omega arith })
    es (all_both P Q es (entries_upright g) (small_references g))

pub page_fits : {lo l : ℕ} {t : Tree l} → Good lo l t → PageFits (page l (entries_of_tree l t))
page_fits g = record { level = omega (arith, g.low); few = (entries_fill g).1; entries = entries_fit g }

-- ---- children by their entries and by their place

-- an entry above the leaves is that of a child
pub entry_child : (l : ℕ) (t : Tree (suc l)) {e : Entry} → Mem e (entries_of_tree (suc l) t) → (c : Tree l) × Mem c t.items × (entry_of_tree l c ≡ e)
entry_child l t m = Memᴰ.of_map (entry_of_tree l) t.items m

-- what stands where no tree does
abbrev pub no_tree : (l : ℕ) → Tree l
no_tree zero = bough 0 []
no_tree (suc l) = bough 0 []

-- the child at a place
abbrev pub child_at : (l : ℕ) → Tree (suc l) → ℕ → Tree l
child_at l t i = get_or t.items i (no_tree l)

pub at_mem : {A : Type 0} (xs : List A) (i : ℕ) (d : A) → i < length xs → Mem (get_or xs i d) xs
at_mem [] i d h = absurd (omega arith)
at_mem (x ∷ xs) zero d h = Memᴰ.head refl
at_mem (x ∷ xs) (suc i) d h = Memᴰ.tail (at_mem xs i d (le_of_suc-le-suc h))

pub child_in : (l : ℕ) (t : Tree (suc l)) (i : ℕ) → i < length t.items → Mem (child_at l t i) t.items
child_in l t i h = at_mem t.items i (no_tree l) h

pub child_entry : (l : ℕ) (t : Tree (suc l)) (i : ℕ) → i < length t.items → get_or (entries_of_tree (suc l) t) i blank_entry ≡ entry_of_tree l (child_at l t i)
child_entry l t i h = map_at (entry_of_tree l) t.items (no_tree l) blank_entry i h

-- ---- what the words say

module _ (ws : Words) where
  pub stored_part : (l : ℕ) (t : Tree l) → Stored l ws t → part_at ws (top_of l t) ≡ page_words (page l (entries_of_tree l t))
  stored_part zero t st = st
  stored_part (suc l) t st = st.0

  pub stored_child : (l : ℕ) (t : Tree (suc l)) {c : Tree l} → Stored (suc l) ws t → Mem c t.items → Stored l ws c
  stored_child l t st m = mem_all (Stored l ws) t.items st.1 m

  pub stored_used : (l : ℕ) (t : Tree l) → Stored l ws t → is_free ws (top_of l t) ≡ false
  stored_used l t st = page_part_used ws (top_of l t) (page l (entries_of_tree l t)) (stored_part l t st)

  module _ {lo l : ℕ} {t : Tree l} (g : Good lo l t) (st : Stored l ws t) where
    pub stored_page : page_at ws (top_of l t) ≡ page l (entries_of_tree l t)
    unfolding page_at
    stored_page = ap page_of (stored_part l t st) ∙ page_back (page l (entries_of_tree l t)) (page_fits g)

    pub stored_level : level_at ws (top_of l t) ≡ l
    stored_level = ap (λ (p : Page). p.level) stored_page

    pub stored_entries : entries_at ws (top_of l t) ≡ entries_of_tree l t
    stored_entries = ap (λ (p : Page). p.entries) stored_page

    pub stored_entry : entry_for ws (top_of l t) ≡ entry_of_tree l t
    unfolding entry_for
    stored_entry = rw (stored_entries, entry_tree l t)

-- what is stored stays stored while its slots keep their words
pub stored_frame : (ws ws' : Words) (l : ℕ) (t : Tree l) → ((s : ℕ) → Mem s (slots_of l t) → part_at ws' s ≡ part_at ws s) → Stored l ws t → Stored l ws' t
stored_frame ws ws' zero t same st = same t.slot (Memᴰ.head refl) ∙ st
stored_frame ws ws' (suc l) t same st = (
  same t.slot (Memᴰ.head refl) ∙ st.0,
  all_mem (Stored l ws') t.items
      (λ c m. stored_frame ws ws' l c (λ s n. same s (child_mem l t m n)) (mem_all (Stored l ws) t.items st.1 m)),
)

-- ---- the header

pub held_root : {ws : Words} {l : ℕ} {t : Tree l} → Holds ws l t → root_of ws ≡ top_of l t
held_root h = ap nat_of h.root

pub held_points : {ws : Words} {l : ℕ} {t : Tree l} → Holds ws l t → points_of ws ≡ length (leaves_of l t)
held_points h = ap nat_of h.points
