-- Laws of the four rows of the candidate list: what is laid in them is read back, and the candidates kept there stand as the tests want them. Assumes nothing.
use Prim.Native.Nat.{ℕ, suc, ◌+◌, ◌-◌, ◌≤◌, ◌<◌}
use native.Mathlib.Omega.{arith}
use native.Mathlib.Numerals.{add-one}
use mathlib.Core.Path.{◌≡◌, refl, sym, ap, ◌∙◌, subst}
use mathlib.Core.Bool.{true, Bool}
use mathlib.Core.List.{List, [], ◌∷◌, ◌++◌, map, map-append, append_assoc}
use lib.ListN.{length, get_or, take, drop, set, length-append, length-drop, length-map, get_or-append}
use lib.Seq.{drop-append-add, drop-drop, drop-cons, set_at, take-suc, length-take-le}
use Rattle.grid.specs.declared.place.Place.{Place}
use Rattle.grid.specs.Place.{spot_of, PlaceOnGrid}
use Rattle.grid.proofs.Rects.{place_ext}
use Rattle.order.specs.Lists.{All, count}
use Rattle.filter.specs.Query.{laid_over}
use Rattle.filter.specs.Walk.{spot_in}
use Rattle.filter.specs.Rows.{Rows, entry_in, listed, laid_in, Room, Kept}
use Rattle.order.proofs.Lists.{map_at, all_at, all_then, count_map}
use Rattle.order.proofs.Order.{pick_all, up_all, up_at, up_length}
use Rattle.table.specs.declared.node.Entry.{Entry}
use Rattle.table.specs.Page.{blank_entry}
use Rattle.table.specs.Stations.{is_point}
use Rattle.table.proofs.Nodes.{entry_ext}
use Rattle.rules.proofs.Reading.{Point, point, point_spot}
use Rattle.order.specs.Order.{up_from}
use Rattle.axis.specs.Axis.{OnGrid}
use Rattle.leads.specs.Leads.{from_q, back_to, place_in, bar_of, Standing}

pub map_same : {A : Type 0} (xs : List A) → map (λ x. x) xs ≡ xs
map_same [] = refl
map_same (x ∷ xs) = ap (λ l. x ∷ l) (map_same xs)

-- ---- one row

module _ {A : Type 0} where
  pub laid_length : (new old : List A) → length new ≤ length old → length (laid_over new old) ≡ length old
  laid_length new old h = omega (arith, length-append new (drop (length new) old), length-drop (length new) old)

  -- what is laid over again covers what was laid before
  pub laid_again : (a b old : List A) → length a ≤ length b → laid_over b (laid_over a old) ≡ laid_over b old
  laid_again a b old h =
      let e : length b ≡ length a + (length b - length a) = omega arith in
      ap (λ l. b ++ l)
      (ap (λ (n : ℕ). drop n (a ++ drop (length a) old)) e
      ∙ drop-append-add a (drop (length a) old) (length b - length a)
      ∙ drop-drop (length b - length a) (length a) old
      ∙ ap (λ (n : ℕ). drop n old) (sym e))

  -- one more behind what is laid
  pub laid_set : (new old : List A) (v : A) → length new < length old → set (laid_over new old) (length new) v ≡ laid_over (new ++ v ∷ []) old
  laid_set new old v h =
      let n = length new in
      let e : length (new ++ v ∷ []) ≡ suc n = omega (arith, length-append new (v ∷ [])) in
      ap (λ l. set (new ++ l) n v) (drop-cons old n v h)
      ∙ set_at new (get_or old n v) (drop (suc n) old) v n refl
      ∙ sym (append_assoc new (v ∷ []) (drop (length (new ++ v ∷ [])) old) ∙ ap (λ (i : ℕ). new ++ v ∷ drop i old) e)

  -- the words of the first i of some things lie over the front of a row, and that of the next goes behind them
  pub laid_next : {E : Type 0} (w : E → A) (cs : List E) (d : E) (old : List A) (i : ℕ) → i < length cs → i < length old → {row : List A}
      → row ≡ laid_over (map w (take i cs)) old → set row i (w (get_or cs i d)) ≡ laid_over (map w (take (i + 1) cs)) old
  laid_next w cs d old i h room e =
      let new = map w (take i cs) in
      let v = w (get_or cs i d) in
      let long : length new ≡ i = length-map (take i cs) w ∙ length-take-le i cs (omega arith) in
      let more : map w (take (i + 1) cs) ≡ new ++ v ∷ [] = rw (add-one i, take-suc cs i d h) (map-append w (take i cs) (get_or cs i d ∷ [])) in
      ap (λ (l : List A). set l i v) e
      ∙ ap (λ (j : ℕ). set (laid_over new old) j v) (sym long)
      ∙ laid_set new old v (omega arith)
      ∙ ap (λ (l : List A). laid_over l old) (sym more)

  -- the row of some candidates, with the word of one more
  pub row_add : {E : Type 0} (w : E → A) (cs : List E) (m : ℕ) (e : E) (old : List A) → length cs ≡ m → laid_over (map w cs) old ≡ old → m < length old
      → set old m (w e) ≡ laid_over (map w (cs ++ e ∷ [])) old
  row_add w cs m e old n same h =
      let k : length (map w cs) ≡ m = length-map cs w ∙ n in
      ap (λ l. set l m (w e)) (sym same)
      ∙ ap (λ (i : ℕ). set (laid_over (map w cs) old) i (w e)) (sym k)
      ∙ laid_set (map w cs) old (w e) (omega arith)
      ∙ ap (λ l. laid_over l old) (sym (map-append w cs (e ∷ [])))

  pub row_again : {E : Type 0} (w : E → A) (cs ds : List E) (old : List A) → length cs ≤ length ds
      → laid_over (map w ds) (laid_over (map w cs) old) ≡ laid_over (map w ds) old
  row_again w cs ds old h = laid_again (map w cs) (map w ds) old (omega (arith, length-map cs w, length-map ds w))

  pub row_length : {E : Type 0} (w : E → A) (cs : List E) (old : List A) → length cs ≤ length old → length (laid_over (map w cs) old) ≡ length old
  row_length w cs old h = laid_length (map w cs) old (omega (arith, length-map cs w))

  -- what stands at a place of them
  pub row_at : {E : Type 0} (w : E → A) (cs : List E) (old : List A) (d : E) (z : A) (i : ℕ) → i < length cs
      → get_or (laid_over (map w cs) old) i z ≡ w (get_or cs i d)
  row_at w cs old d z i h =
      get_or-append (map w cs) (drop (length (map w cs)) old) z i (omega (arith, length-map cs w)) ∙ map_at w cs d z i h

-- ---- the four rows

pub map_both : {A B : Type 0} (f g : A → B) (xs : List A) → All (λ x. f x ≡ g x) xs → map f xs ≡ map g xs
map_both f g [] h = refl
map_both f g (x ∷ xs) h =
    let e = h.0 in
    let d = map_both f g xs h.1 in
    cc

pub rows_ext : {r s : Rows} → r.numbers ≡ s.numbers → r.xs ≡ s.xs → r.ys ≡ s.ys → r.bars ≡ s.bars → r ≡ s
rows_ext n x y b = λ i. record { numbers = n i; xs = x i; ys = y i; bars = b i }

pub rows_again : (q : Place) (cs ds : List Entry) (r : Rows) → length cs ≤ length ds → laid_in q ds (laid_in q cs r) ≡ laid_in q ds r
unfolding laid_in
rows_again q cs ds r h =
    rows_ext (row_again _ cs ds r.numbers h) (row_again _ cs ds r.xs h) (row_again _ cs ds r.ys h) (row_again _ cs ds r.bars h)

pub rows_room : (q : Place) (cs : List Entry) (r : Rows) (n : ℕ) → length cs ≤ n → Room n r → Room n (laid_in q cs r)
unfolding laid_in
rows_room q cs r n h room = record {
  numbers = omega (arith, room.numbers, row_length (λ (e : Entry). e.reference) cs r.numbers (omega (arith, room.numbers)));
  xs = omega (arith, room.xs, row_length (λ (e : Entry). from_q e.rect.x.low q.x) cs r.xs (omega (arith, room.xs)));
  ys = omega (arith, room.ys, row_length (λ (e : Entry). from_q e.rect.y.low q.y) cs r.ys (omega (arith, room.ys)));
  bars = omega (arith, room.bars, row_length (λ (e : Entry). bar_of q (spot_in e)) cs r.bars (omega (arith, room.bars)));
}

-- ---- what is read where candidates were laid are the candidates

back_from : {a q : ℕ} → OnGrid a → OnGrid q → back_to (from_q a q) q ≡ a
back_from g h = omega (arith, g, h)

pub entry_back : (q : Place) (cs : List Entry) (r : Rows) → PlaceOnGrid q → All Point cs → (i : ℕ) → i < length cs
    → entry_in q (laid_in q cs r) i ≡ get_or cs i blank_entry
unfolding laid_in
entry_back q cs r g ps i h =
    let e = get_or cs i blank_entry in
    let p : Point e = all_at Point cs i blank_entry h ps in
    entry_ext (row_at (λ (e : Entry). e.reference) cs r.numbers blank_entry 0 i h)
    (ap spot_of
    (place_ext
    (ap (λ (a : ℕ). back_to a q.x) (row_at (λ (e : Entry). from_q e.rect.x.low q.x) cs r.xs blank_entry 0 i h) ∙ back_from p.x.grid g.x)
    (ap (λ (a : ℕ). back_to a q.y) (row_at (λ (e : Entry). from_q e.rect.y.low q.y) cs r.ys blank_entry 0 i h) ∙ back_from p.y.grid g.y))
    ∙ sym (point_spot p))

pub listed_back : (q : Place) (cs : List Entry) (r : Rows) → PlaceOnGrid q → All Point cs → listed q (laid_in q cs r) (length cs) ≡ cs
unfolding listed
listed_back q cs r g ps =
    map_both (entry_in q (laid_in q cs r)) (λ i. get_or cs i blank_entry) (up_from 0 (length cs))
    (up_all (λ i. entry_in q (laid_in q cs r) i ≡ get_or cs i blank_entry) 0 (length cs) (λ i l u. entry_back q cs r g ps i (omega arith)))
    ∙ pick_all cs blank_entry

-- so they are kept
pub rows_kept : (q : Place) (cs : List Entry) (r : Rows) → PlaceOnGrid q → All (λ e. is_point e ≡ true) cs → Room (length cs) r
    → Kept q (laid_in q cs r) (length cs)
rows_kept q cs r g ps room =
    let b : listed q (laid_in q cs r) (length cs) ≡ cs = listed_back q cs r g (all_then (λ e. is_point e ≡ true) Point point cs ps) in
    record {
      room = rows_room q cs r (length cs) (omega arith) room;
      points = rw b ps;
      same = rw b (rows_again q cs cs r (omega arith));
    }

-- ---- candidates that are kept

pub listed_length : (q : Place) (r : Rows) (m : ℕ) → length (listed q r m) ≡ m
unfolding listed
listed_length q r m = length-map (up_from 0 m) (entry_in q r) ∙ up_length 0 m

pub listed_at : (q : Place) (r : Rows) (m i : ℕ) → i < m → get_or (listed q r m) i blank_entry ≡ entry_in q r i
unfolding listed
listed_at q r m i h = map_at (entry_in q r) (up_from 0 m) 0 blank_entry i (omega (arith, up_length 0 m)) ∙ ap (entry_in q r) (up_at 0 m i h ∙ omega arith)

-- a test of places, counted over them
pub listed_count : (q : Place) (r : Rows) (m : ℕ) (P : Place → Bool)
    → count (λ c. P (spot_in c)) (listed q r m) ≡ count (λ i. P (place_in q r.xs r.ys i)) (up_from 0 m)
unfolding listed
listed_count q r m P = count_map (λ c. P (spot_in c)) (entry_in q r) (up_from 0 m)

-- each is a point
pub kept_point : {q : Place} {r : Rows} {m : ℕ} → Kept q r m → (i : ℕ) → i < m → is_point (entry_in q r i) ≡ true
kept_point {q} {r} {m} k i h =
    subst (λ (e : Entry). is_point e ≡ true) (listed_at q r m i h)
    (all_at (λ (e : Entry). is_point e ≡ true) (listed q r m) i blank_entry (omega (arith, listed_length q r m)) k.points)

-- and its bar is in its row
kept_bar : {q : Place} {r : Rows} {m : ℕ} → Kept q r m → (i : ℕ) → i < m → get_or r.bars i 0 ≡ bar_of q (spot_in (entry_in q r i))
unfolding laid_in
kept_bar {q} {r} {m} k i h =
    let w : Entry → ℕ = λ e. bar_of q (spot_in e) in
    ap (λ (s : Rows). get_or s.bars i 0) (sym k.same)
    ∙ row_at w (listed q r m) r.bars blank_entry 0 i (omega (arith, listed_length q r m))
    ∙ ap w (listed_at q r m i h)

-- so they stand in the rows as the tests want them
pub kept_standing : {q : Place} {r : Rows} {m : ℕ} → PlaceOnGrid q → Kept q r m → Standing q r.xs r.ys r.bars m
kept_standing {q} {r} {m} g k = record {
  room_x = k.room.xs;
  room_y = k.room.ys;
  room_bar = k.room.bars;
  grid = λ i h. let p : Point (entry_in q r i) = point (entry_in q r i) (kept_point k i h) in record { x = p.x.grid; y = p.y.grid };
  bar = kept_bar k;
}

-- also where the tests read them
pub kept_read : {q : Place} {r : Rows} {m : ℕ} {xs ys bars : List ℕ} → xs ≡ r.xs → ys ≡ r.ys → bars ≡ r.bars → PlaceOnGrid q → Kept q r m → Standing q xs ys bars m
kept_read ex ey eb g k = rw (ex, ey, eb) (kept_standing g k)
