-- The turns of a node's entries, nearest first: of the points of a leaf, of the children of a node above. Assumes nothing.
use Prim.Native.Nat.{ℕ, zero, suc, ◌+◌, ◌-◌, ◌≤◌, ◌<◌}
use native.Mathlib.Omega.{arith}
use mathlib.Core.Path.{◌≡◌, refl, subst, ◌∙◌}
use mathlib.Core.Bool.{true}
use mathlib.Core.List.{List, map}
use lib.ListN.{length, take, get_or}
use lib.Seq.{take_all}
use Rattle.grid.specs.declared.place.Place.{Place}
use Rattle.grid.specs.Place.{Upright, least_square}
use Rattle.order.specs.Lists.{All}
use Rattle.order.specs.Order.{row_of}
use Rattle.order.proofs.Lists.{all_at, all_then}
use Rattle.table.specs.declared.node.Entry.{Entry}
use Rattle.table.specs.Words.{Words}
use Rattle.figures.specs.Figures.{SLOTS}
use Rattle.table.specs.Page.{blank_entry}
use Rattle.table.specs.Slots.{entries_at}
use Rattle.table.specs.Stations.{is_point}
use Rattle.filter.specs.declared.seen.Seen.{Seen}
use Rattle.filter.specs.Walk.{Found, each, nearest_first, with_opened, visited, entered, walk}
use Rattle.filter.specs.Rows.{Rows, found_in, Kept, Noted, Ready, Went}
use Rattle.filter.specs.Passable.{Passable}
use Rattle.filter.proofs.Taken.{taken_below, taken_at, taken_length}
use Rattle.filter.proofs.Turns.{Keeps, Turning, turn_kept, turn_ready, turn_done, visit_grows, visit_keeps, entered_grows, entered_keeps, sorted_all}

-- ---- the turns of a node's entries

-- what they rest on: Q is known of each entry
pub record Turns (Q : Entry → Type 0) (q : Place) (k : ℕ) (f : Entry → Found → Found) (es : List Entry) (start : Found) (first : Rows) : Type 0 where
  pub all : All Q es
  pub turning : Turning q f (nearest_first q k es) start first

-- turn i, of the entry e
pub record Turn (Q : Entry → Type 0) (q : Place) (k : ℕ) (f : Entry → Found → Found) (es : List Entry) (start : Found) (first : Rows) (i : ℕ) (e : Entry) (r : Rows) (s : Seen) : Type 0 where
  pub good : Q e
  pub kept : Kept q r s.candidates
  pub ready : Ready q (f e) r s
  pub done : (r' : Rows) (s' : Seen) → Noted q (f e (found_in q r s)) r r' s' → Noted q (each f (take (i + 1) (nearest_first q k es)) start) first r' s'

module _ {Q : Entry → Type 0} {q : Place} {k : ℕ} {f : Entry → Found → Found} {es : List Entry} {start : Found} {first : Rows} (t : Turns Q q k f es start first) where
  -- at the entry that the row says
  pub turn : {row : List ℕ} (i : ℕ) {e : Entry} {r : Rows} {s : Seen} → row ≡ row_of (map (λ e. least_square e.rect q) es) → i < length es
      → e ≡ get_or es (get_or row i 0) blank_entry → Noted q (each f (take i (nearest_first q k es)) start) first r s → Turn Q q k f es start first i e r s
  turn {row} i {e} same h read noted =
      let there : i < length (nearest_first q k es) = omega (arith, taken_length es q k) in
      let taken = read ∙ taken_at es q k row same i h in
      record {
        good = rw read (all_at Q es (get_or row i 0) blank_entry (taken_below es q k row same i h) t.all);
        kept = turn_kept t.turning i noted;
        ready = turn_ready t.turning i noted there e taken;
        done = λ r' s' m. turn_done t.turning i noted there e taken m;
      }

-- ---- the points of a leaf

abbrev pub IsPoint : Entry → Type 0
IsPoint e = is_point e ≡ true

pub leaf_turns : (q : Place) (k : ℕ) (es : List Entry) (first : Rows) (s : Seen) → All IsPoint es
    → Ready q (each (visited q k) (nearest_first q k es)) first s → Turns IsPoint q k (visited q k) es (found_in q first s) first
leaf_turns q k es first s points r = record {
  all = points;
  turning = record {
    grid = r.grid;
    grows = visit_grows q k;
    keeps = sorted_all q k (Keeps (visited q k)) es (all_then IsPoint (Keeps (visited q k)) (visit_keeps q k) es points);
    points = r.kept.points;
    room = r.room;
    opened = r.opened;
  };
}

-- turn i of them
pub leaf_turn : {q : Place} {k : ℕ} {es : List Entry} {first : Rows} {s : Seen} → All IsPoint es
    → Ready q (each (visited q k) (nearest_first q k es)) first s → {row : List ℕ} (i : ℕ) {e : Entry} {r : Rows} {t : Seen}
    → row ≡ row_of (map (λ e. least_square e.rect q) es) → i < length es → e ≡ get_or es (get_or row i 0) blank_entry
    → Noted q (each (visited q k) (take i (nearest_first q k es)) (found_in q first s)) first r t
    → Turn IsPoint q k (visited q k) es (found_in q first s) first i e r t
leaf_turn {q} {k} {es} {first} {s} points ready i = turn (leaf_turns q k es first s points ready) i

-- after the last
pub leaf_end : (q : Place) (k : ℕ) (es : List Entry) {first : Rows} (s : Seen) {r : Rows} {t : Seen} (i : ℕ) → length es ≤ i
    → Noted q (each (visited q k) (take i (nearest_first q k es)) (found_in q first s)) first r t
    → Went q (each (visited q k) (nearest_first q k es)) first s r t
leaf_end q k es s i h noted = rw (take_all i (nearest_first q k es) (omega (arith, taken_length es q k))) at noted

-- ---- a node in its slot

pub by_pred : (P : ℕ → ℕ → Type 0) → ((l : ℕ) → P (suc l) l) → (l : ℕ) → 0 < l → P l (l - 1)
by_pred P h zero pos = absurd (omega arith)
by_pred P h (suc l) pos = subst (λ (j : ℕ). P (suc l) j) (omega arith) (h l)

pub passable_slot : (l : ℕ) (ws : Words) (s : ℕ) → Passable l ws s → s < SLOTS
passable_slot zero ws s h = h.0
passable_slot (suc l) ws s h = h.0

module _ (q : Place) (k : ℕ) (ws : Words) (s : ℕ) where
  pub walk_zero : (l : ℕ) → l ≡ 0 → (now : Found) → walk q k l ws s now ≡ each (visited q k) (nearest_first q k (entries_at ws s)) (with_opened q k now)
  walk_zero zero e now = refl
  walk_zero (suc l) e now = absurd (omega arith)

  pub walk_above : (l : ℕ) → 0 < l → (now : Found)
      → walk q k l ws s now ≡ each (entered q k (walk q k (l - 1) ws)) (nearest_first q k (entries_at ws s)) (with_opened q k now)
  walk_above =
      by_pred (λ l j. (now : Found) → walk q k l ws s now ≡ each (entered q k (walk q k j ws)) (nearest_first q k (entries_at ws s)) (with_opened q k now))
      (λ l now. refl)

module _ (ws : Words) (s : ℕ) where
  pub passable_zero : (l : ℕ) → l ≡ 0 → Passable l ws s → All (λ e. is_point e ≡ true) (entries_at ws s)
  passable_zero zero e h = h.1
  passable_zero (suc l) e h = absurd (omega arith)

  pub passable_above : (l : ℕ) → 0 < l → Passable l ws s → All (λ e. Upright e.rect × Passable (l - 1) ws e.reference) (entries_at ws s)
  passable_above = by_pred (λ l j. Passable l ws s → All (λ e. Upright e.rect × Passable j ws e.reference) (entries_at ws s)) (λ l h. h.1)

-- a child's entry: its box is on the grid, and from its slot the walk can go on
abbrev pub IsChild : Words → ℕ → Entry → Type 0
IsChild ws l e = Upright e.rect × Passable l ws e.reference

-- the walk from the slot s of level l is ready
module _ (q : Place) (k : ℕ) (ws : Words) (s l : ℕ) (first : Rows) (seen : Seen) (ready : Ready q (walk q k l ws s) first seen) where
  pub above_turns : 0 < l → Passable l ws s
      → Turns (IsChild ws (l - 1)) q k (entered q k (walk q k (l - 1) ws)) (entries_at ws s) (with_opened q k (found_in q first seen)) first
  above_turns up pass =
      let f = entered q k (walk q k (l - 1) ws) in
      let es = entries_at ws s in
      let children = passable_above ws s l up pass in
      record {
        all = children;
        turning = record {
          grid = ready.grid;
          grows = entered_grows q k (l - 1) ws;
          keeps = sorted_all q k (Keeps f) es (all_then (IsChild ws (l - 1)) (Keeps f) (entered_keeps q k (l - 1) ws) es children);
          points = ready.kept.points;
          room = rw (← walk_above q k ws s l up (found_in q first seen)) ready.room;
          opened = rw (← walk_above q k ws s l up (found_in q first seen)) ready.opened;
        };
      }

-- turn i of the children
pub above_turn : {q : Place} {k : ℕ} (ws : Words) (s : ℕ) {l : ℕ} {first : Rows} {seen : Seen} → Ready q (walk q k l ws s) first seen → 0 < l → Passable l ws s
    → {row : List ℕ} (i : ℕ) {e : Entry} {r : Rows} {t : Seen}
    → row ≡ row_of (map (λ e. least_square e.rect q) (entries_at ws s)) → i < length (entries_at ws s) → e ≡ get_or (entries_at ws s) (get_or row i 0) blank_entry
    → Noted q (each (entered q k (walk q k (l - 1) ws)) (take i (nearest_first q k (entries_at ws s))) (with_opened q k (found_in q first seen))) first r t
    → Turn (IsChild ws (l - 1)) q k (entered q k (walk q k (l - 1) ws)) (entries_at ws s) (with_opened q k (found_in q first seen)) first i e r t
above_turn {q} {k} ws s {l} {first} {seen} ready up pass i = turn (above_turns q k ws s l first seen ready up pass) i

-- after the last
pub above_end : (q : Place) (k : ℕ) (ws : Words) (s l : ℕ) {first : Rows} (seen : Seen) → 0 < l → {r : Rows} {t : Seen} (i : ℕ) → length (entries_at ws s) ≤ i
    → Noted q (each (entered q k (walk q k (l - 1) ws)) (take i (nearest_first q k (entries_at ws s))) (with_opened q k (found_in q first seen))) first r t
    → Went q (walk q k l ws s) first seen r t
above_end q k ws s l {first} seen up i h noted =
    rw (walk_above q k ws s l up (found_in q first seen))
    (rw (take_all i (nearest_first q k (entries_at ws s)) (omega (arith, taken_length (entries_at ws s) q k))) at noted)
