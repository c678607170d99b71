-- What a visit of a point does to the rows: the tests of the code are those of the walk, and the rows that it leaves are those of the candidates. Assumes nothing.
use Prim.Native.Nat.{ℕ, ◌+◌, ◌≤◌, ◌<◌}
use native.Mathlib.Omega.{arith}
use mathlib.Core.Path.{◌≡◌, refl, sym, ap, ◌∙◌}
use mathlib.Core.Bool.{cond}
use mathlib.Core.List.{[], ◌∷◌, ◌++◌}
use lib.Dec.{leb}
use borrow.Author.Tests.{le-leb, lt-leb}
use lib.ListN.{length, set, length-append}
use Rattle.grid.specs.declared.place.Place.{Place}
use Rattle.leads.specs.Leads.{from_q, place_in, bar_of}
use Rattle.grid.specs.AsNear.{as_near_to, corners_as_near}
use Rattle.order.specs.Lists.{count}
use Rattle.order.specs.Order.{up_from}
use Rattle.table.specs.declared.node.Entry.{Entry}
use Rattle.filter.specs.declared.rows.Rows.{Rows as Lent}
use Rattle.filter.specs.declared.seen.Seen.{Seen}
use Rattle.filter.specs.Walk.{Found, spot_in, point_hidden, box_hidden, with_candidate, visited, entered}
use Rattle.filter.specs.Rows.{Rows, rows, listed, laid_in, found_in, Room, Kept, Noted, Ready, SameLent}
use Rattle.filter.proofs.RowLaws.{row_add, rows_ext, listed_length, listed_count}

-- nothing new
pub noted_same : {q : Place} {r : Rows} {s : Seen} → Kept q r s.candidates → Noted q (found_in q r s) r r s
noted_same {q} {r} {s} k = record { rows = sym k.same; candidates = sym (listed_length q r s.candidates); opened = refl }

pub still_lent : {r s t : Lent} → SameLent r s → SameLent s t → SameLent r t
still_lent a b = record { numbers = b.numbers ∙ a.numbers; xs = b.xs ∙ a.xs; ys = b.ys ∙ a.ys; bars = b.bars ∙ a.bars }

-- one more
rows_add : (q : Place) (r : Rows) (m : ℕ) (e : Entry) → Kept q r m → Room (m + 1) r
    → rows (set r.numbers m e.reference) (set r.xs m (from_q e.rect.x.low q.x)) (set r.ys m (from_q e.rect.y.low q.y)) (set r.bars m (bar_of q (spot_in e)))
    ≡ laid_in q (listed q r m ++ e ∷ []) r
unfolding laid_in
rows_add q r m e k room =
    let cs = listed q r m in
    let n = listed_length q r m in
    rows_ext
    (row_add (λ (c : Entry). c.reference) cs m e r.numbers n (ap (λ (t : Rows). t.numbers) k.same) (omega (arith, room.numbers)))
    (row_add (λ (c : Entry). from_q c.rect.x.low q.x) cs m e r.xs n (ap (λ (t : Rows). t.xs) k.same) (omega (arith, room.xs)))
    (row_add (λ (c : Entry). from_q c.rect.y.low q.y) cs m e r.ys n (ap (λ (t : Rows). t.ys) k.same) (omega (arith, room.ys)))
    (row_add (λ (c : Entry). bar_of q (spot_in c)) cs m e r.bars n (ap (λ (t : Rows). t.bars) k.same) (omega (arith, room.bars)))

-- ---- a visit

module _ (e : Entry) (q : Place) (k : ℕ) (r : Rows) (s : Seen) (n : ℕ)
    (counted : n ≡ count (λ i. as_near_to (spot_in e) (place_in q r.xs r.ys i) q) (up_from 0 s.candidates)) where
  -- the test of the code is that of the walk
  visit_test : point_hidden q k (listed q r s.candidates) e ≡ leb k n
  unfolding point_hidden
  visit_test = ap (leb k) (listed_count q r s.candidates (λ p. as_near_to (spot_in e) p q) ∙ sym counted)

  visit_cond : visited q k e (found_in q r s) ≡ cond (leb k n) (found_in q r s) (with_candidate q k e (found_in q r s))
  visit_cond = rw visit_test

  pub visit_hidden : Kept q r s.candidates → k ≤ n → Noted q (visited q k e (found_in q r s)) r r s
  visit_hidden kept h = rw (visit_cond, le-leb k n h) (noted_same kept)

  -- there is room for one more
  pub visit_room : n < k → Room (length (visited q k e (found_in q r s)).candidates) r → Room (s.candidates + 1) r
  visit_room h room =
      let l : length (visited q k e (found_in q r s)).candidates ≡ s.candidates + 1 =
      rw (visit_cond, lt-leb k n h) (omega (arith, length-append (listed q r s.candidates) (e ∷ []), listed_length q r s.candidates)) in
      rw l at room

  pub visit_new : (after : Rows) → Kept q r s.candidates → Room (s.candidates + 1) r → n < k
      → after.numbers ≡ set r.numbers s.candidates e.reference → after.xs ≡ set r.xs s.candidates (from_q e.rect.x.low q.x)
      → after.ys ≡ set r.ys s.candidates (from_q e.rect.y.low q.y) → after.bars ≡ set r.bars s.candidates (bar_of q (spot_in e))
      → Noted q (visited q k e (found_in q r s)) r after (record { candidates = s.candidates + 1; opened = s.opened })
  visit_new after kept room h en ex ey es =
      rw (visit_cond, lt-leb k n h)
      (record {
        rows = rows_ext en ex ey es ∙ rows_add q r s.candidates e kept room;
        candidates = omega (arith, length-append (listed q r s.candidates) (e ∷ []), listed_length q r s.candidates);
        opened = refl;
      })

-- ---- a child's turn

module _ (e : Entry) (q : Place) (k : ℕ) (r : Rows) (s : Seen) (n : ℕ)
    (counted : n ≡ count (λ i. corners_as_near e.rect (place_in q r.xs r.ys i) q) (up_from 0 s.candidates))
    (opening : ℕ → Found → Found) where
  enter_test : box_hidden q k (listed q r s.candidates) e ≡ leb k n
  unfolding box_hidden
  enter_test = ap (leb k) (listed_count q r s.candidates (λ p. corners_as_near e.rect p q) ∙ sym counted)

  pub enter_hidden : k ≤ n → entered q k opening e (found_in q r s) ≡ found_in q r s
  enter_hidden h = rw (enter_test, le-leb k n h)

  pub enter_open : n < k → entered q k opening e (found_in q r s) ≡ opening e.reference (found_in q r s)
  enter_open h = rw (enter_test, lt-leb k n h)

  pub enter_ready : n < k → Ready q (entered q k opening e) r s → Ready q (opening e.reference) r s
  enter_ready h y = record {
    grid = y.grid;
    kept = y.kept;
    room = rw (enter_open h) at y.room;
    opened = rw (enter_open h) at y.opened;
  }
