-- The names of the best marks, and that they are those of the card. Assumes nothing.
use Prim.Native.Nat.{ℕ, zero, suc, ◌+◌, ◌≤◌, ◌<◌, min}
use native.Mathlib.Omega.{arith}
use native.Mathlib.Decide.{dec_le}
use mathlib.Core.Path.{◌≡◌, refl, sym, ap, subst, ◌∙◌}
use mathlib.Core.Logic.{⊎_elim}
use mathlib.Core.Bool.{Bool, true, false, cond, not, ◌&&◌}
use mathlib.Core.List.Memᴰ
use mathlib.Core.List.{List, [], ◌∷◌, ◌++◌, map, map-map}
use lib.Dec.{eqb, ltb}
use lib.ListN.{length, take, get_or, set, replicate, length-map, length-replicate}
use lib.Seq.{length-take-le}
use borrow.Author.Tests.{eqb-true, le-leb, lt-leb, lt-ltb, le-ltb}
use Rattle.std.specs.Prelude.{Some}
use Rattle.grid.specs.declared.place.Place.{Place}
use Rattle.grid.specs.Place.{PlaceOnGrid, dist²}
use Rattle.grid.specs.Site.{distance², place_of}
use Rattle.grid.proofs.Rects.{dist_most}
use Rattle.grid.proofs.Sites.{dist_sites}
use Rattle.order.specs.Lists.{count, filter, join, Mem, All, Rises}
use Rattle.order.specs.Order.{sort_by, least, ptrans, NONE}
use Rattle.order.proofs.Perm.{psym, perm_map}
use Rattle.order.proofs.Lists.{by_bool, map_take, count_most, count_append, perm_count, filter_mem, mem_all, all_mem, all_map, all_perm, all_then, all_take, all_replicate, count_map, count_same, count_filter}
use Rattle.order.proofs.Order.{sort_perm}
use Rattle.order.proofs.Pairwise.{pairwise_take, pairwise_then, pairwise_map, InLine, sort_rises}
use Rattle.order.proofs.Least.{up_to, low, low_none, low_all, take_low, rises_only, least_rises, least_low, least_same, least_is}
use Rattle.table.specs.declared.node.Entry.{Entry}
use Rattle.table.specs.Words.{Words, root_of}
use Rattle.table.specs.Slots.{slots, level_at}
use Rattle.table.specs.Stations.{Station, station_of_entry, stations}
use Rattle.rules.specs.Rules.{leaf_entries, is_empty, Passing}
use Rattle.rules.proofs.FromRules.{part_fits}
use Rattle.rules.proofs.Enrolled.{stations_leaves}
use Rattle.rules.proofs.Reading.{Point}
use Rattle.filter.specs.Meaning.{is_other}
use Rattle.filter.specs.Walk.{spot_in}
use Rattle.filter.specs.Query.{laid_over}
use Rattle.filter.proofs.Rising.{filter_map}
use Rattle.filter.proofs.RowLaws.{laid_next}
use Rattle.filter.proofs.Answers.{point_site, stations_empty}
use Rattle.vetting.specs.Test.{below}
use Rattle.vetting.proofs.Below.{root_count}
use Rattle.vetting.proofs.Testing.{all_points}
use Rattle.card.specs.Card.{in_card_order, card_of, names_of, names_of_first, names_for}
use Rattle.card.proofs.Lines.{order_perm, in_line}
use Rattle.naming.specs.Holders.{BASE, mark_of, number_in, mark_from, is_another, marks_of}
use Rattle.naming.specs.Named.{where_in, where_of, Named}

-- one name more
pub names_next : (best old : List ℕ) (i : ℕ) → i < length best → i < length old → {list : List ℕ} → list ≡ laid_over (map number_in (take i best)) old
    → set list i (number_in (get_or best i 0)) ≡ laid_over (map number_in (take (i + 1) best)) old
names_next best old i h room e = laid_next number_in best 0 old i h room e

-- ---- the card by marks

map_agree : {A B : Type 0} (f g : A → B) (xs : List A) → All (λ x. f x ≡ g x) xs → map f xs ≡ map g xs
map_agree f g [] a = refl
map_agree f g (x ∷ xs) a = let ih = map_agree f g xs a.1 in let e = a.0 in cc

-- where its numbers are below BASE, a card is told by the marks of the others: who comes before another has the lesser mark
module _ (all : List Station) (p : Station) where
  abbrev mark_as : Station → ℕ
  mark_as c = mark_of (distance² c.site p.site) c.number

  abbrev others : List Station
  others = filter (is_other p) all

  abbrev marks : List ℕ
  marks = map mark_as others

  module _ (small : All (λ c. c.number < BASE) all) where
    order_small : All (λ c. c.number < BASE) (in_card_order all p)
    order_small =
        all_perm (λ c. c.number < BASE) (order_perm all p)
        (all_mem (λ c. c.number < BASE) others (λ c m. mem_all (λ c. c.number < BASE) all small (filter_mem (is_other p) all m).0))

    order_rises : Rises (map mark_as (in_card_order all p))
    order_rises =
        let away : Station → ℕ = λ c. distance² c.site p.site in
        let number : Station → ℕ = λ c. c.number in
        pairwise_map ◌≤◌ mark_as (in_card_order all p)
        (pairwise_then (λ c. c.number < BASE) (InLine away number) (λ c d. mark_as c ≤ mark_as d)
        (λ c d low i. ⊎_elim (λ l. omega arith) (λ e. omega arith) i) (in_card_order all p) order_small (in_line all p))

    order_marks : map mark_as (in_card_order all p) ≡ sort_by (λ n. n) marks
    order_marks =
        rises_only (map mark_as (in_card_order all p)) (sort_by (λ n. n) marks) order_rises (sort_rises (λ n. n) marks)
        (λ v. perm_count (ptrans (perm_map mark_as (order_perm all p)) (psym (sort_perm (λ n. n) marks))) (up_to v))

    number_back : (c : Station) → c.number < BASE → c.number ≡ number_in (mark_as c)
    number_back c low = omega arith

    names_marks : (k : ℕ) → names_of all p k ≡ map number_in (least k marks)
    unfolding names_of card_of least
    names_marks k =
        let front = take k (in_card_order all p) in
        map_agree (λ c. c.number) (λ c. number_in (mark_as c)) front
        (all_then (λ c. c.number < BASE) (λ c. c.number ≡ number_in (mark_as c)) number_back front (all_take (λ c. c.number < BASE) k (in_card_order all p) order_small))
        ∙ sym (map-map number_in mark_as front)
        ∙ ap (map number_in) (map_take mark_as k (in_card_order all p) ∙ ap (take k) order_marks)

-- ---- the best, and how many of them are holders

module _ (best : List ℕ) {n : ℕ} (many : n ≡ count (λ m. ltb m NONE) best) where
  pub holders_few : n ≤ length best
  holders_few = omega (arith, many, count_most (λ m. ltb m NONE) best)

  pub holders_length : length (take n best) ≡ n
  holders_length = length-take-le n best holders_few

-- below NONE is at most one less
count_below : (v : ℕ) (ns : List ℕ) → count (λ n. ltb n (suc v)) ns ≡ low v ns
count_below v ns = count_same (λ n. ltb n (suc v)) (up_to v) ns (all_mem (λ n. ltb n (suc v) ≡ up_to v n) ns (λ n m.
    elim (dec_le n v) [
      | yes h ↦ lt-ltb n (suc v) (omega arith) ∙ sym (le-leb n v h)
      | no h ↦ le-ltb n (suc v) (omega arith) ∙ sym (lt-leb n v (omega arith))
    ]))

-- a row with no holder yet
pub blank_rises : (k : ℕ) → Rises (replicate k NONE)
blank_rises zero = tt
blank_rises (suc k) = (all_replicate (λ m. NONE ≤ m) k NONE (omega arith), blank_rises k)

-- the front of such a row
pub take_blank : (k n : ℕ) → k ≤ n → take k (replicate n NONE) ≡ replicate k NONE
take_blank zero n h = refl
take_blank (suc k) zero h = absurd (omega arith)
take_blank (suc k) (suc n) h = ap (λ l. NONE ∷ l) (take_blank k n (omega arith))

pub blank_long : (k n : ℕ) → k ≤ n → length (take k (replicate n NONE)) ≡ k
blank_long k n h = ap length (take_blank k n h) ∙ length-replicate k NONE

-- NONE stands where no holder is, so the holders come first
module _ (k : ℕ) (ms : List ℕ) (known : All (λ m. m < NONE) ms) where
  abbrev padded : List ℕ
  padded = least k (ms ++ replicate k NONE)

  holders_first : take (count (λ m. ltb m NONE) padded) padded ≡ least k ms
  holders_first =
      let n = count (λ m. ltb m NONE) padded in
      let here : n ≡ low 18446744073709551614 padded = count_below 18446744073709551614 padded in
      let blanks = replicate k NONE in
      let all-blank : All (λ m. 18446744073709551614 < m) blanks = all_replicate (λ m. 18446744073709551614 < m) k NONE (omega arith) in
      let known-low : low 18446744073709551614 ms ≡ length ms = low_all 18446744073709551614 ms (all_then (λ m. m < NONE) (λ m. m ≤ 18446744073709551614) (λ m l. omega arith) ms known) in
      let many : n ≡ min k (length ms) =
      omega (arith, here, least_low k 18446744073709551614 (ms ++ blanks), count_append (up_to 18446744073709551614) ms blanks, low_none 18446744073709551614 blanks all-blank, known-low) in
      least_is k (take n padded) ms (pairwise_take ◌≤◌ n padded (least_rises k (ms ++ blanks)))
      (λ v.
      elim (dec_le NONE v) [
        | yes h ↦
            omega (
              arith,
              many,
              take_low n v padded (least_rises k (ms ++ blanks)),
              least_low k v (ms ++ blanks),
              count_append (up_to v) ms blanks,
              low_all v ms (all_then (λ m. m < NONE) (λ m. m ≤ v) (λ m l. omega arith) ms known),
              low_all v blanks (all_replicate (λ m. m ≤ v) k NONE h),
              length-replicate k NONE,
            )
        | no h ↦
            omega (
              arith,
              many,
              take_low n v padded (least_rises k (ms ++ blanks)),
              least_low k v (ms ++ blanks),
              count_append (up_to v) ms blanks,
              low_none v blanks (all_replicate (λ m. v < m) k NONE (omega arith)),
              count_most (up_to v) ms,
            )
      ])

-- ---- the station that stands at p

-- the first of those with the number
pub record Found (number : ℕ) (p : Place) (es : List Entry) : Type 0 where
  pub station : Entry
  pub rest : List Entry
  pub first : filter (λ e. eqb e.reference number) es ≡ station ∷ rest
  pub place : spot_in station ≡ p

pub found_at : (number : ℕ) (p : Place) (es : List Entry) → where_in number es ≡ Some p → Found number p es
found_at number p [] e = let z : ◌≡◌ {A = ℕ} 0 1 = cc in absurd (omega arith)
found_at number p (x ∷ xs) e =
    let ih : where_in number xs ≡ Some p → Found number p xs = found_at number p xs in
    let P : Entry → Bool = λ e. eqb e.reference number in
    by_bool (λ b. P x ≡ b → cond b (Some (spot_in x)) (where_in number xs) ≡ Some p → Found number p (x ∷ xs)) (P x)
    (λ t u f. record { station = x; rest = filter P xs; first = rw u; place = cc })
    (λ t u f. let r = ih f in record { station = r.station; rest = r.rest; first = rw u r.first; place = r.place })
    refl e

-- how many of the marks of some pass a test
count_marked : {A B : Type 0} (R : B → Bool) (f : A → B) (Q : A → Bool) (xs : List A) → count R (map f (filter Q xs)) ≡ count (λ x. Q x && R (f x)) xs
count_marked R f Q xs = count_map R f (filter Q xs) ∙ count_filter (λ x. R (f x)) Q xs

-- on a table that passes the check, the station with the number stands at p
module _ (ws : Words) (pass : Passing ws) (number : ℕ) (p : Place) (there : where_of ws number ≡ Some p) where
  abbrev leaves : List Entry
  leaves = join (leaf_entries ws) slots

  stands : where_in number leaves ≡ Some p
  unfolding where_of
  stands = there

  found : Found number p leaves
  found = found_at number p leaves stands

  abbrev it : Entry
  it = found.station

  is_it : Mem it leaves × (eqb it.reference number ≡ true)
  is_it = filter_mem (λ e. eqb e.reference number) leaves (subst (Mem it) (sym found.first) (Memᴰ.head refl))

  points : All Point leaves
  points = all_points ws pass.long pass.words pass.rules

  same : stations ws ≡ map station_of_entry leaves
  same = stations_leaves ws (λ s h. part_fits ws pass.words s)

  pub not_empty : is_empty ws ≡ false
  not_empty =
      by_bool (λ b. is_empty ws ≡ b → b ≡ false) (is_empty ws)
      (λ t e. absurd (Memᴰ.not-nil (subst (Mem (station_of_entry it)) (sym same ∙ stations_empty ws e) (Memᴰ.map station_of_entry is_it.0)))) (λ t e. refl) refl

  pub stands_grid : PlaceOnGrid p
  stands_grid =
      let mine = mem_all Point leaves points is_it.0 in
      subst PlaceOnGrid found.place (record { x = mine.x.grid; y = mine.y.grid })

  -- its card
  its_names : (k : ℕ) → names_for (stations ws) number k ≡ names_of (stations ws) (station_of_entry it) k
  unfolding names_for
  its_names k =
      let Q : Station → Bool = λ c. eqb c.number number in
      ap (names_of_first (stations ws) k) (ap (filter Q) same ∙ filter_map Q station_of_entry leaves ∙ ap (map station_of_entry) found.first)

  small : All (λ c. c.number < BASE) (stations ws)
  small =
      rw same
      (all_map (λ c. c.number < BASE) station_of_entry leaves (all_then Point (λ e. e.reference < BASE) (λ e h. omega (arith, h.most)) leaves points))

  -- the mark of a point, in steps and on the ground
  mark_same : (e : Entry) → Point e → mark_as (stations ws) (station_of_entry it) (station_of_entry e) ≡ mark_from p e
  unfolding mark_from
  mark_same e h =
      let mine = point_site it (mem_all Point leaves points is_it.0) in
      let its = point_site e h in
      ap (λ (d : ℕ). mark_of d e.reference)
      (sym (dist_sites its.0 mine.0) ∙ ap (λ (q : Place). dist² q (place_of (station_of_entry it).site)) its.1 ∙ ap (dist² (spot_in e)) (mine.1 ∙ found.place))

  test_same : (v : ℕ) (e : Entry) → Point e
      → (is_another number e && up_to v (mark_from p e)) ≡ (is_other (station_of_entry it) (station_of_entry e) && up_to v (mark_as (stations ws) (station_of_entry it) (station_of_entry e)))
  test_same v e h =
      ap (λ (n : ℕ). not (eqb e.reference n) && up_to v (mark_from p e)) (sym (eqb-true it.reference number is_it.1))
      ∙ ap (λ (m : ℕ). not (eqb e.reference it.reference) && up_to v m) (sym (mark_same e h))

  mark_known : (e : Entry) → Point e → mark_as (stations ws) (station_of_entry it) (station_of_entry e) < NONE
  unfolding mark_from
  mark_known e h =
      let mine = mem_all Point leaves points is_it.0 in
      let near : dist² (spot_in e) (spot_in it) ≤ 8000000000000 =
      dist_most {p = spot_in e} {q = spot_in it} (record { x = h.x.grid; y = h.y.grid }) (record { x = mine.x.grid; y = mine.y.grid }) in
      omega (arith, mark_same e h, ap (dist² (spot_in e)) found.place, h.most)

  known : All (λ m. m < NONE) (marks (stations ws) (station_of_entry it))
  known =
      let P = station_of_entry it in
      let low : All (λ c. mark_as (stations ws) P c < NONE) (stations ws) =
      rw same
      (all_map (λ c. mark_as (stations ws) P c < NONE) station_of_entry leaves
      (all_then Point (λ e. mark_as (stations ws) P (station_of_entry e) < NONE) (λ e h. mark_known e h) leaves points)) in
      all_map (λ m. m < NONE) (mark_as (stations ws) P) (filter (is_other P) (stations ws))
      (all_mem (λ c. mark_as (stations ws) P c < NONE) (filter (is_other P) (stations ws))
      (λ c m. mem_all (λ c. mark_as (stations ws) P c < NONE) (stations ws) low (filter_mem (is_other P) (stations ws) m).0))

  -- the marks below the root are those of all others
  module _ (level root : ℕ) (is_root : root ≡ root_of ws) (isLevel : level ≡ level_at ws root) where
    same_marks : (v : ℕ) → low v (marks_of number p (below level ws root)) ≡ low v (marks (stations ws) (station_of_entry it))
    unfolding marks_of
    same_marks v =
        let P = station_of_entry it in
        let Q : Entry → Bool = λ e. is_another number e && up_to v (mark_from p e) in
        let R : Station → Bool = λ c. is_other P c && up_to v (mark_as (stations ws) P c) in
        count_marked (up_to v) (mark_from p) (is_another number) (below level ws root)
        ∙ root_count ws pass.long pass.words pass.rules not_empty root level is_root isLevel Q
        ∙ count_same Q (λ e. R (station_of_entry e)) leaves (all_then Point (λ e. Q e ≡ R (station_of_entry e)) (λ e h. test_same v e h) leaves points)
        ∙ sym (count_map R station_of_entry leaves)
        ∙ ap (count R) (sym same)
        ∙ sym (count_marked (up_to v) (mark_as (stations ws) P) (is_other P) (stations ws))

  names_best : (k level root : ℕ) → root ≡ root_of ws → level ≡ level_at ws root → (best : List ℕ) → best ≡ least k (marks_of number p (below level ws root) ++ replicate k NONE)
      → (n : ℕ) → n ≡ count (λ m. ltb m NONE) best → map number_in (take n best) ≡ names_for (stations ws) number k
  names_best k level root is_root isLevel best e n h =
      let P = station_of_entry it in
      let ms = marks (stations ws) P in
      let blanks = replicate k NONE in
      let mine = marks_of number p (below level ws root) in
      let f : best ≡ least k (ms ++ blanks) =
      e ∙ least_same k (mine ++ blanks) (ms ++ blanks) (λ v. omega (arith, same_marks level root is_root isLevel v, count_append (up_to v) mine blanks, count_append (up_to v) ms blanks)) in
      ap (λ (m : ℕ). map number_in (take m best)) h
      ∙ ap (λ (l : List ℕ). map number_in (take (count (λ m. ltb m NONE) l) l)) f
      ∙ ap (map number_in) (holders_first k ms known)
      ∙ sym (names_marks (stations ws) P small k)
      ∙ sym (its_names k)

  -- so many names, at the front of the list if it has room for them
  module _ (k level root : ℕ) (is_root : root ≡ root_of ws) (isLevel : level ≡ level_at ws root) (best : List ℕ) (is : best ≡ least k (marks_of number p (below level ws root) ++ replicate k NONE)) (n : ℕ) (many : n ≡ count (λ m. ltb m NONE) best) (old : List ℕ) where
    names_many : n ≡ length (names_for (stations ws) number k)
    names_many =
        sym (holders_length best many)
        ∙ sym (length-map (take n best) number_in)
        ∙ ap length (names_best k level root is_root isLevel best is n many)

    pub named_laid : n ≤ length old → (new : List ℕ) → new ≡ laid_over (map number_in (take n best)) old → Named ws number k old new n
    named_laid room new e = record {
      names = names_many;
      list = rw (le-leb n (length old) room) (e ∙ ap (λ l. laid_over l old) (names_best k level root is_root isLevel best is n many));
    }

    pub named_left : length old < n → Named ws number k old old n
    named_left short = record { names = names_many; list = rw (lt-leb n (length old) short) }
