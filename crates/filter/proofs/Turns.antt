-- One entry after the other: after each turn the rows hold the candidates that the walk has found so far. Found lists only grow, and hold points. Assumes nothing.
use Prim.Native.Nat.{ℕ, zero, suc, ◌+◌, ◌≤◌, ◌<◌, ◌^◌}
use native.Mathlib.Omega.{arith}
use native.Mathlib.Numerals.{add-one}
use mathlib.Core.Path.{◌≡◌, refl, sym, ap, ◌∙◌}
use mathlib.Core.Bool.{true, cond}
use mathlib.Core.List.{List, [], ◌∷◌, ◌++◌}
use lib.ListN.{length, take, drop, get_or, length-append, take-append-drop}
use lib.Seq.{take-suc}
use Rattle.grid.specs.declared.place.Place.{Place}
use Rattle.grid.specs.Place.{PlaceOnGrid, Upright, least_square}
use Rattle.order.specs.Lists.{All}
use Rattle.order.proofs.Lists.{by_bool, all_perm, all_append, all_take, all_then}
use Rattle.order.proofs.Order.{sort_perm}
use Rattle.table.specs.declared.node.Entry.{Entry}
use Rattle.table.specs.Words.{Words}
use Rattle.table.specs.Page.{blank_entry}
use Rattle.table.specs.Slots.{entries_at}
use Rattle.table.specs.Stations.{is_point}
use Rattle.rules.proofs.Reading.{Point, point}
use Rattle.filter.specs.declared.seen.Seen.{Seen}
use Rattle.filter.specs.Walk.{Found, each, nearest_first, point_hidden, box_hidden, with_candidate, with_opened, visited, entered, walk}
use Rattle.filter.specs.Rows.{Rows, listed, laid_in, found_in, Room, Kept, Noted, Ready}
use Rattle.filter.specs.Passable.{Passable}
use Rattle.filter.proofs.RowLaws.{rows_again, rows_room, rows_kept, listed_back}

-- ---- what is found only grows

pub record Grows (a b : Found) : Type 0 where
  pub candidates : length a.candidates ≤ length b.candidates
  pub opened : a.opened ≤ b.opened

grows_same : (a : Found) → Grows a a
grows_same a = record { candidates = omega arith; opened = omega arith }

grows_then : {a b c : Found} → Grows a b → Grows b c → Grows a c
grows_then f g = record { candidates = omega (arith, f.candidates, g.candidates); opened = omega (arith, f.opened, g.opened) }

pub each_grows : (f : Entry → Found → Found) → ((e : Entry) (n : Found) → Grows n (f e n)) → (es : List Entry) (now : Found) → Grows now (each f es now)
each_grows f g [] now = grows_same now
each_grows f g (e ∷ es) now = grows_then (g e now) (each_grows f g es (f e now))

module _ (q : Place) (k : ℕ) where
  pub visit_grows : (e : Entry) (now : Found) → Grows now (visited q k e now)
  visit_grows e now =
      by_bool (λ b. Grows now (cond b now (with_candidate q k e now))) (point_hidden q k now.candidates e) (λ h. grows_same now)
      (λ h. record { candidates = omega (arith, length-append now.candidates (e ∷ [])); opened = omega arith })

  enter_grows : (opening : ℕ → Found → Found) → ((s : ℕ) (n : Found) → Grows n (opening s n)) → (e : Entry) (now : Found) → Grows now (entered q k opening e now)
  enter_grows opening g e now =
      by_bool (λ b. Grows now (cond b now (opening e.reference now))) (box_hidden q k now.candidates e) (λ h. grows_same now)
      (λ h. g e.reference now)

  open_grows : {now b : Found} → Grows (with_opened q k now) b → Grows now b
  open_grows g = record { candidates = g.candidates; opened = omega (arith, g.opened) }

  -- the node itself is opened
  pub walk_opens : (l : ℕ) (ws : Words) (s : ℕ) (now : Found) → Grows (with_opened q k now) (walk q k l ws s now)
  walk_opens zero ws s now = each_grows (visited q k) visit_grows (nearest_first q k (entries_at ws s)) (with_opened q k now)
  walk_opens (suc l) ws s now =
      each_grows (entered q k (walk q k l ws)) (enter_grows (walk q k l ws) (λ s n. open_grows {now = n} (walk_opens l ws s n)))
      (nearest_first q k (entries_at ws s)) (with_opened q k now)

  pub walk_grows : (l : ℕ) (ws : Words) (s : ℕ) (now : Found) → Grows now (walk q k l ws s now)
  walk_grows l ws s now = open_grows {now = now} (walk_opens l ws s now)

  pub entered_grows : (l : ℕ) (ws : Words) (e : Entry) (now : Found) → Grows now (entered q k (walk q k l ws) e now)
  entered_grows l ws = enter_grows (walk q k l ws) (walk_grows l ws)

-- ---- and holds points

abbrev pub Points : Found → Type 0
Points n = All (λ e. is_point e ≡ true) n.candidates

abbrev pub Keeps : (Entry → Found → Found) → Entry → Type 0
Keeps f e = (n : Found) → Points n → Points (f e n)

pub each_points : (f : Entry → Found → Found) (es : List Entry) → All (Keeps f) es → (now : Found) → Points now → Points (each f es now)
each_points f [] h now p = p
each_points f (e ∷ es) h now p = each_points f es h.1 (f e now) (h.0 now p)

module _ (q : Place) (k : ℕ) where
  pub visit_keeps : (e : Entry) → is_point e ≡ true → Keeps (visited q k) e
  visit_keeps e h n p =
      by_bool (λ b. Points (cond b n (with_candidate q k e n))) (point_hidden q k n.candidates e) (λ t. p)
      (λ t. all_append (λ e. is_point e ≡ true) n.candidates (e ∷ []) p (h, tt))

  enter_keeps : (opening : ℕ → Found → Found) (e : Entry) → ((n : Found) → Points n → Points (opening e.reference n)) → Keeps (entered q k opening) e
  enter_keeps opening e h n p =
      by_bool (λ b. Points (cond b n (opening e.reference n))) (box_hidden q k n.candidates e) (λ t. p) (λ t. h n p)

  -- in the order in which they are taken
  pub sorted_all : (Q : Entry → Type 0) (es : List Entry) → All Q es → All Q (nearest_first q k es)
  unfolding nearest_first
  sorted_all Q es a = all_perm Q (sort_perm (λ e. least_square e.rect q) es) a

  pub walk_points : (l : ℕ) (ws : Words) (s : ℕ) → Passable l ws s → (now : Found) → Points now → Points (walk q k l ws s now)
  walk_points zero ws s h now p =
      each_points (visited q k) (nearest_first q k (entries_at ws s))
      (sorted_all (Keeps (visited q k)) (entries_at ws s)
      (all_then (λ e. is_point e ≡ true) (Keeps (visited q k)) visit_keeps (entries_at ws s) h.1))
      (with_opened q k now) p
  walk_points (suc l) ws s h now p =
      each_points (entered q k (walk q k l ws)) (nearest_first q k (entries_at ws s))
      (sorted_all (Keeps (entered q k (walk q k l ws))) (entries_at ws s)
      (all_then (λ e. Upright e.rect × Passable l ws e.reference) (Keeps (entered q k (walk q k l ws)))
      (λ e g. enter_keeps (walk q k l ws) e (walk_points l ws e.reference g.1)) (entries_at ws s) h.1))
      (with_opened q k now) p

  pub entered_keeps : (l : ℕ) (ws : Words) (e : Entry) → Upright e.rect × Passable l ws e.reference → Keeps (entered q k (walk q k l ws)) e
  entered_keeps l ws e g = enter_keeps (walk q k l ws) e (walk_points l ws e.reference g.1)

-- ---- turn by turn

each_append : (f : Entry → Found → Found) (xs ys : List Entry) (now : Found) → each f (xs ++ ys) now ≡ each f ys (each f xs now)
each_append f [] ys now = refl
each_append f (x ∷ xs) ys now = each_append f xs ys (f x now)

pub room_less : {m n : ℕ} {r : Rows} → m ≤ n → Room n r → Room m r
room_less h room = record {
  numbers = omega (arith, room.numbers);
  xs = omega (arith, room.xs);
  ys = omega (arith, room.ys);
  bars = omega (arith, room.bars);
}

-- what is noted is what the rows say
module _ {q : Place} {a : Found} {before after : Rows} {s : Seen} (n : Noted q a before after s) (g : PlaceOnGrid q) (ps : Points a) where
  found_ext : {x y : Found} → x.candidates ≡ y.candidates → x.opened ≡ y.opened → x ≡ y
  found_ext c o = λ i. record { candidates = c i; opened = o i }

  pub noted_found : found_in q after s ≡ a
  noted_found =
      found_ext
      (ap (λ (r : Rows). listed q r s.candidates) n.rows
      ∙ ap (listed q (laid_in q a.candidates before)) n.candidates
      ∙ listed_back q a.candidates before g (all_then (λ e. is_point e ≡ true) Point point a.candidates ps))
      n.opened

  pub noted_kept : Room (length a.candidates) before → Kept q after s.candidates
  noted_kept room = rw (n.rows, n.candidates) (rows_kept q a.candidates before g ps room)

pub noted_room : {q : Place} {a : Found} {before after : Rows} {s : Seen} → Noted q a before after s → (m : ℕ) → length a.candidates ≤ m → Room m before → Room m after
noted_room {q} {a} {before} n m h room = rw n.rows (rows_room q a.candidates before m h room)

-- two times noted is noted
pub noted_then : {q : Place} {a b : Found} {before after later : Rows} {s t : Seen} → Noted q a before after s → Grows a b → Noted q b after later t → Noted q b before later t
noted_then {q} {a} {b} {before} n g m = record {
  rows = m.rows ∙ ap (laid_in q b.candidates) n.rows ∙ rows_again q a.candidates b.candidates before g.candidates;
  candidates = m.candidates;
  opened = m.opened;
}

-- the turns of f over es, from start on, have room in the rows
pub record Turning (q : Place) (f : Entry → Found → Found) (es : List Entry) (start : Found) (first : Rows) : Type 0 where
  pub grid : PlaceOnGrid q
  pub grows : (e : Entry) (n : Found) → Grows n (f e n)
  pub keeps : All (Keeps f) es
  pub points : Points start
  pub room : Room (length (each f es start).candidates) first
  pub opened : (each f es start).opened < 2 ^ 64

module _ {f : Entry → Found → Found} {es : List Entry} {start : Found} {first : Rows} {q : Place} (t : Turning q f es start first) where
  turn_points : (i : ℕ) → Points (each f (take i es) start)
  turn_points i = each_points f (take i es) (all_take (Keeps f) i es t.keeps) start t.points

  turn_whole : (i : ℕ) → each f es start ≡ each f (drop i es) (each f (take i es) start)
  turn_whole i = ap (λ l. each f l start) (sym (take-append-drop i es)) ∙ each_append f (take i es) (drop i es) start

  turn_grows : (i : ℕ) → Grows (each f (take i es) start) (each f es start)
  turn_grows i = rw (turn_whole i) (each_grows f t.grows (drop i es) (each f (take i es) start))

  turn_next : (i : ℕ) → i < length es → each f (take (i + 1) es) start ≡ f (get_or es i blank_entry) (each f (take i es) start)
  turn_next i h =
      ap (λ l. each f l start) (ap (λ (j : ℕ). take j es) (add-one i) ∙ take-suc es i blank_entry h)
      ∙ each_append f (take i es) (get_or es i blank_entry ∷ []) start

  -- before turn i
  module _ (i : ℕ) {r : Rows} {s : Seen} (n : Noted q (each f (take i es) start) first r s) where
    turn_found : found_in q r s ≡ each f (take i es) start
    turn_found = noted_found n t.grid (turn_points i)

    pub turn_kept : Kept q r s.candidates
    turn_kept = noted_kept n t.grid (turn_points i) (room_less (turn_grows i).candidates t.room)

    module _ (h : i < length es) (e : Entry) (taken : e ≡ get_or es i blank_entry) where
      turn_one : f e (found_in q r s) ≡ each f (take (i + 1) es) start
      turn_one = rw (taken, turn_found) (sym (turn_next i h))

      -- what the turn finds is no more than what all find
      turn_fits : Grows (f e (found_in q r s)) (each f es start)
      turn_fits = rw turn_one (turn_grows (i + 1))

      pub turn_ready : Ready q (f e) r s
      turn_ready = record {
        grid = t.grid;
        kept = turn_kept;
        room = room_less turn_fits.candidates (noted_room n _ (turn_grows i).candidates t.room);
        opened = omega (arith, turn_fits.opened, t.opened);
      }

      -- after it
      pub turn_done : {r' : Rows} {s' : Seen} → Noted q (f e (found_in q r s)) r r' s' → Noted q (each f (take (i + 1) es) start) first r' s'
      turn_done m = rw (← turn_one) (noted_then n (rw (← turn_found) (t.grows e (found_in q r s))) m)
