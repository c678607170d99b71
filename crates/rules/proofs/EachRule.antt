-- Each rule's test and the fact that it tests, both ways. Assumes nothing.
use Prim.Native.Nat.{ℕ, suc, ◌+◌, ◌*◌, ◌≤◌, ◌<◌}
use native.Mathlib.Omega.{arith}
use mathlib.Core.Path.{◌≡◌, refl, sym, ap, ◌∙◌}
use mathlib.Core.Bool.{Bool, true, false, cond, not, ◌&&◌}
use lib.Dec.{eqb, ltb}
use lib.ListN.{length, drop}
use borrow.Author.Tests.{eqb-true, eq-eqb, ltb-true, lt-ltb, not-true}
use Rattle.axis.specs.declared.span.Span.{Span}
use Rattle.words.specs.Word.{nat_of}
use Rattle.grid.specs.declared.rect.Rect.{Rect}
use Rattle.axis.proofs.Axis.{span_ext}
use Rattle.grid.proofs.Rects.{rect_ext}
use Rattle.order.specs.Lists.{every, join, All}
use Rattle.order.specs.Order.{up_from}
use Rattle.table.specs.declared.node.Entry.{Entry}
use Rattle.figures.specs.Figures.{FAN, MOST, SLOTS, ENTRY}
use Rattle.table.specs.Words.{Words, word, is_zero, root_of, points_of, part_at, between}
use Rattle.table.specs.Page.{Page, filled, page_words, free_words, cover_of}
use Rattle.table.specs.Slots.{slots, is_free, level_at, entries_at}
use Rattle.table.specs.Stations.{stations, is_point}
use Rattle.rules.specs.Rules.{is_natural, rule1, is_empty, rule2, least_fill, rule3, leaf_entries, numbers_at, each_new, rule4, is_child, entries_above, rule5, same_span, same_rect, rule6, is_root, times_referred, rule7, rule7_header}
use Rattle.rules.proofs.Tests.{both_true, between_true, true_between, or_other, or_second, every_all, all_every}
use Rattle.order.proofs.Lists.{all_then, and_left, and_right}
use Rattle.rules.proofs.PartWords.{free_zeros, page_zeros}
use Rattle.rules.proofs.Enrolled.{stations_length}
use Rattle.rules.proofs.Ruled.{Child}

-- ---- what a page's first words say

page_first : (p : Page) → is_natural (word (page_words p) 0) ≡ true
unfolding page_words
page_first p = refl

page_second : (p : Page) → nat_of (word (page_words p) 1) ≡ length p.entries
unfolding page_words
page_second p = refl

-- ---- rectangles

same_rect_lem : (r s : Rect) → same_rect r s ≡ true → r ≡ s
same_rect_lem r s e =
    let a = same_span r.x s.x in
    let b = same_span r.y s.y in
    rect_ext (same_span_lem r.x s.x (and_left a b e)) (same_span_lem r.y s.y (and_right a b e))
  where
    same_span_lem : (s t : Span) → same_span s t ≡ true → s ≡ t
    same_span_lem s t e =
        let a = eqb s.low t.low in
        let b = eqb s.high t.high in
        span_ext (eqb-true s.low t.low (and_left a b e)) (eqb-true s.high t.high (and_right a b e))

rect_same : (r s : Rect) → r ≡ s → same_rect r s ≡ true
rect_same r s e =
    let span : (s t : Span) → s ≡ t → same_span s t ≡ true =
    λ s t e. both_true (eq-eqb s.low t.low (ap (λ u. u.low) e)) (eq-eqb s.high t.high (ap (λ u. u.high) e)) in
    both_true (span r.x s.x (ap (λ u. u.x) e)) (span r.y s.y (ap (λ u. u.y) e))

module _ (ws : Words) (s : ℕ) where
  -- ---- rule 1

  pub free_rest : is_free ws s ≡ true → rule1 ws s ≡ true → every is_zero (drop 1 (part_at ws s)) ≡ true
  unfolding is_free rule1
  free_rest f e = rw f at e

  pub used_rest : is_free ws s ≡ false → rule1 ws s ≡ true → every is_zero (drop (2 + ENTRY * filled (part_at ws s)) (part_at ws s)) ≡ true
  unfolding is_free rule1
  used_rest f e = rw f at e

  pub free_rule1 : part_at ws s ≡ free_words → rule1 ws s ≡ true
  unfolding rule1
  free_rule1 e = rw e free_zeros

  pub page_rule1 : (p : Page) → part_at ws s ≡ page_words p → length p.entries ≤ FAN → rule1 ws s ≡ true
  unfolding rule1
  page_rule1 p e few = rw e (page_zeros p few)

  -- ---- rule 3

  pub record Rule3 : Type 0 where
    pub natural : is_natural (word (part_at ws s) 0) ≡ true
    pub least : least_fill ws s ≤ nat_of (word (part_at ws s) 1)
    pub most : nat_of (word (part_at ws s) 1) ≤ FAN

  pub rule3_fact : is_free ws s ≡ false → rule3 ws s ≡ true → Rule3
  unfolding rule3
  rule3_fact f e =
      let a = is_natural (word (part_at ws s) 0) in
      let n = nat_of (word (part_at ws s) 1) in
      let g = or_other (is_free ws s) (a && between (least_fill ws s) FAN n) e f in
      let b = between_true (least_fill ws s) FAN n (and_right a (between (least_fill ws s) FAN n) g) in
      record { natural = and_left a (between (least_fill ws s) FAN n) g; least = b.0; most = b.1 }

  pub free_rule3 : is_free ws s ≡ true → rule3 ws s ≡ true
  unfolding rule3
  free_rule3 e = rw e

  pub page_rule3 : (p : Page) → part_at ws s ≡ page_words p → least_fill ws s ≤ length p.entries → length p.entries ≤ FAN → rule3 ws s ≡ true
  unfolding rule3
  page_rule3 p e least few =
      let n = nat_of (word (part_at ws s) 1) in
      let k : n ≡ length p.entries = ap (λ v. nat_of (word v 1)) e ∙ page_second p in
      let a : is_natural (word (part_at ws s) 0) ≡ true = ap (λ v. is_natural (word v 0)) e ∙ page_first p in
      or_second (is_free ws s) (both_true a (true_between (least_fill ws s) FAN n (omega (arith, k, least)) (omega (arith, k, few))))

  -- ---- rule 4

  pub points_fact : rule4 ws s ≡ true → All (λ e. is_point e ≡ true) (leaf_entries ws s)
  unfolding rule4
  points_fact e =
      every_all is_point (leaf_entries ws s)
      (and_left (every is_point (leaf_entries ws s)) (each_new (join (numbers_at ws) (up_from 0 s)) (numbers_at ws s)) e)

  pub new_fact : rule4 ws s ≡ true → each_new (join (numbers_at ws) (up_from 0 s)) (numbers_at ws s) ≡ true
  unfolding rule4
  new_fact e = and_right (every is_point (leaf_entries ws s)) (each_new (join (numbers_at ws) (up_from 0 s)) (numbers_at ws s)) e

  pub fact_rule4 : All (λ e. is_point e ≡ true) (leaf_entries ws s) → each_new (join (numbers_at ws) (up_from 0 s)) (numbers_at ws s) ≡ true → rule4 ws s ≡ true
  unfolding rule4
  fact_rule4 a n = both_true (all_every is_point (leaf_entries ws s) a) n

  -- ---- rule 5

  child_fact : {e : Entry} → is_child ws s e ≡ true → Child ws s e
  child_fact {e} h =
      let r = e.reference in
      let a = ltb r SLOTS in
      let b = not (is_free ws r) in
      let c = eqb (suc (level_at ws r)) (level_at ws s) in
      let g = and_right a (b && c) h in
      record {
        inside = ltb-true r SLOTS (and_left a (b && c) h);
        used = not-true (is_free ws r) (and_left b c g);
        below = eqb-true (suc (level_at ws r)) (level_at ws s) (and_right b c g);
      }

  fact_child : {e : Entry} → Child ws s e → is_child ws s e ≡ true
  fact_child {e} c =
      both_true (lt-ltb e.reference SLOTS c.inside)
      (both_true (ap not c.used) (eq-eqb (suc (level_at ws e.reference)) (level_at ws s) c.below))

  pub rule5_fact : rule5 ws s ≡ true → All (Child ws s) (entries_above ws s)
  unfolding rule5
  rule5_fact e =
      all_then (λ i. is_child ws s i ≡ true) (Child ws s) (λ i h. child_fact h) (entries_above ws s) (every_all (is_child ws s) (entries_above ws s) e)

  pub fact_rule5 : All (Child ws s) (entries_above ws s) → rule5 ws s ≡ true
  unfolding rule5
  fact_rule5 a =
      all_every (is_child ws s) (entries_above ws s)
      (all_then (Child ws s) (λ i. is_child ws s i ≡ true) (λ i h. fact_child h) (entries_above ws s) a)

  -- ---- rule 6

  pub rule6_fact : rule6 ws s ≡ true → All (λ e. e.rect ≡ cover_of (entries_at ws e.reference)) (entries_above ws s)
  unfolding rule6
  rule6_fact e =
      let P : Entry → Bool = λ i. same_rect i.rect (cover_of (entries_at ws i.reference)) in
      all_then (λ i. P i ≡ true) (λ i. i.rect ≡ cover_of (entries_at ws i.reference))
      (λ i h. same_rect_lem i.rect (cover_of (entries_at ws i.reference)) h) (entries_above ws s) (every_all P (entries_above ws s) e)

  pub fact_rule6 : All (λ e. e.rect ≡ cover_of (entries_at ws e.reference)) (entries_above ws s) → rule6 ws s ≡ true
  unfolding rule6
  fact_rule6 a =
      let P : Entry → Bool = λ i. same_rect i.rect (cover_of (entries_at ws i.reference)) in
      all_every P (entries_above ws s)
      (all_then (λ i. i.rect ≡ cover_of (entries_at ws i.reference)) (λ i. P i ≡ true)
      (λ i h. rect_same i.rect (cover_of (entries_at ws i.reference)) h) (entries_above ws s) a)

  -- ---- rule 7

  pub rule7_fact : rule7 ws s ≡ true → is_free ws s ≡ false → times_referred ws s ≡ cond (is_root ws s) 0 1
  unfolding rule7
  rule7_fact e f = eqb-true (times_referred ws s) (cond (is_root ws s) 0 1) (or_other (is_free ws s) (eqb (times_referred ws s) (cond (is_root ws s) 0 1)) e f)

  pub free_rule7 : is_free ws s ≡ true → rule7 ws s ≡ true
  unfolding rule7
  free_rule7 e = rw e

  pub fact_rule7 : times_referred ws s ≡ cond (is_root ws s) 0 1 → rule7 ws s ≡ true
  unfolding rule7
  fact_rule7 e = or_second (is_free ws s) (eq-eqb (times_referred ws s) (cond (is_root ws s) 0 1) e)

-- ---- rule 2

module _ (ws : Words) where
  pub record Rule2 : Type 0 where
    pub inside : root_of ws < SLOTS
    pub used : is_free ws (root_of ws) ≡ false
    pub some : 1 ≤ points_of ws
    pub few : points_of ws ≤ MOST

  pub rule2_fact : rule2 ws ≡ true → is_empty ws ≡ false → Rule2
  unfolding rule2
  rule2_fact e f =
      let a = ltb (root_of ws) SLOTS in
      let b = not (is_free ws (root_of ws)) in
      let c = between 1 MOST (points_of ws) in
      let g = or_other (is_empty ws) (a && (b && c)) e f in
      let k = and_right a (b && c) g in
      let n = between_true 1 MOST (points_of ws) (and_right b c k) in
      record {
        inside = ltb-true (root_of ws) SLOTS (and_left a (b && c) g);
        used = not-true (is_free ws (root_of ws)) (and_left b c k);
        some = n.0;
        few = n.1;
      }

  pub fact_rule2 : Rule2 → rule2 ws ≡ true
  unfolding rule2
  fact_rule2 h =
      or_second (is_empty ws)
      (both_true (lt-ltb (root_of ws) SLOTS h.inside)
      (both_true (ap not h.used) (true_between 1 MOST (points_of ws) h.some h.few)))

  pub empty_rule2 : is_empty ws ≡ true → rule2 ws ≡ true
  unfolding rule2
  empty_rule2 e = rw e

  -- ---- rule 7, of the header

  pub header_fact : rule7_header ws ≡ true → points_of ws ≡ length (join (leaf_entries ws) slots)
  unfolding rule7_header
  header_fact e = eqb-true (points_of ws) (length (stations ws)) e ∙ stations_length ws

  pub fact_header : points_of ws ≡ length (join (leaf_entries ws) slots) → rule7_header ws ≡ true
  unfolding rule7_header
  fact_header e = eq-eqb (points_of ws) (length (stations ws)) (e ∙ sym (stations_length ws))
