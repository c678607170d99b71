-- The code at the root: the nodes that it makes show the pages of the definition, and what it requires follows from the tree that the table holds. Assumes nothing.
use Prim.Native.Nat.{ℕ, suc, ◌+◌, ◌≤◌, ◌<◌}
use native.Mathlib.Omega.{arith}
use native.Mathlib.Numerals.{add-one}
use mathlib.Core.Path.{◌≡◌, refl, sym, ap, subst, ◌∙◌}
use mathlib.Core.Bool.{true, false, ◌&&◌}
use mathlib.Core.List.{[], ◌∷◌, ◌++◌, map}
use lib.Dec.{eqb}
use lib.IntN.{pos}
use borrow.Author.Tests.{eqb-true}
use Rattle.std.specs.Prelude.{Option}
use Rattle.order.specs.Lists.{every, All}
use Rattle.table.specs.declared.node.Entry.{Entry}
use Rattle.table.specs.declared.node.Node.{Node}
use Rattle.figures.specs.Figures.{LEAST, MOST, SLOTS}
use Rattle.table.specs.Words.{Words, word, is_minus_one, root_of, points_of}
use Rattle.table.specs.Page.{page, held, shown, Shows, EntryFits}
use Rattle.table.specs.Slots.{slots, is_free, level_at, put_page, lowest_free, entry_for, with_root, with_points}
use Rattle.rules.specs.Rules.{is_empty}
use Rattle.table.specs.Tree.{Tree, top_of, entry_of_tree, slots_of, leaves_of, least_of}
use Rattle.table.proofs.Nodes.{shown_page, shows_on}
use Rattle.rules.proofs.Tests.{by_test}
use Rattle.order.proofs.Lists.{all_then, all_map, and_left, and_right}
use Rattle.rules.proofs.Size.{some_leaf}
use Rattle.rules.proofs.Reading.{Good, good_root, least_some, held_root, held_points, top_inside, stored_level, stored_entry}
use Rattle.rules.proofs.WellFormed.{Held, well_formed_tree}
use Rattle.joining.specs.Enrol.{inserted, rooted, first_enrolled, next_enrolled, enrolled}
use Rattle.joining.specs.Within.{new_of, grew, free_count, MayInsert, MayRaise, MayGrow, MayEnrol}
use Rattle.joining.proofs.EnrolFree.{some_free}
use Rattle.joining.proofs.EnrolNode.{Made}
use Rattle.joining.proofs.EnrolTree.{good_here, good_new, insert_made}
use Rattle.joining.proofs.Enrolled.{held_room, least_most}
use Rattle.joining.proofs.Inserting.{tree_sits}

-- ---- the nodes that are made

pub one_shows : {a n : Node} {l : ℕ} {e : Entry} → Shows a (page l []) → Shows n (page a.level (held a ++ e ∷ [])) → Shows n (page l (e ∷ []))
one_shows {n = n} {e = e} s t = shows_on s n (λ es. es ++ e ∷ []) t

pub two_shows : {a b n : Node} {l : ℕ} {d e : Entry} → Shows a (page (l + 1) []) → Shows b (page a.level (held a ++ d ∷ []))
    → Shows n (page b.level (held b ++ e ∷ [])) → Shows n (page (suc l) (d ∷ e ∷ []))
two_shows {n = n} {l = l} {d = d} {e = e} s t u =
    subst (λ k. Shows n (page k (d ∷ e ∷ []))) (add-one l) (shows_on (one_shows s t) n (λ es. es ++ e ∷ []) u)

-- a root above the old node and the new one
pub above_words : (ws us vs : Words) (s l to : ℕ) {old e : Entry} {n : Node} → Shows n (page (suc l) (old ∷ e ∷ [])) → old ≡ entry_for ws s → to ≡ lowest_free ws
    → us ≡ put_page ws to (shown n) → vs ≡ with_root us (pos to) → vs ≡ rooted s l ws (e ∷ [])
above_words ws us vs s l to {e = e} h eo et eu ev =
    let p = shown_page h in
    ev
    ∙ ap (λ x. with_root x (pos to)) (eu ∙ ap (put_page ws to) (p ∙ ap (λ o. page (suc l) (o ∷ e ∷ [])) eo))
    ∙ ap (λ f. with_root (put_page ws f (page (suc l) (entry_for ws s ∷ e ∷ []))) (pos f)) et

-- ---- the tree that the table holds

module _ {ws : Words} {e : Entry} (may : MayGrow ws e) where
  abbrev l : ℕ
  l = may.level

  abbrev t : Tree l
  t = may.tree

  good : Good (least_of l) l t
  good = good_root may.sound

  root_insert : MayInsert l ws (top_of l t) e
  root_insert = record {
    planted = record {
      tree = t;
      top = refl;
      long = may.holds.long;
      low = good.low;
      fill = good.fill;
      apart = good.apart;
      inside = good.inside;
      points = good.points;
      stored = may.holds.stored;
    };
    room = omega (arith, held_room may.holds may.sound, good.low);
    point = may.point;
  }

  made : Made (least_of l) l (suc l) ws (top_of l t) (slots_of l t) (e ∷ leaves_of l t) (inserted l ws (top_of l t) e)
  made = insert_made e may.point (least_of l) l (least_some l) (least_most l) ws t may.holds.long good may.holds.stored root_insert.room

  pub grow_root : {s : ℕ} → s ≡ root_of ws → s < SLOTS
  grow_root h = omega (arith, h, held_root may.holds, top_inside good)

  -- the root's slot and level, as they are read
  module _ {s k : ℕ} (root : s ≡ root_of ws) (level : k ≡ level_at ws s) where
    root_is : s ≡ top_of l t
    root_is = root ∙ held_root may.holds

    level_is : k ≡ l
    level_is = level ∙ ap (level_at ws) root_is ∙ stored_level ws good may.holds.stored

    pub grow_insert : MayInsert k ws s e
    grow_insert = rw (level_is, root_is) root_insert

    -- and what came back
    module _ (us : Words) (new : Option Entry) (below : grew us new ≡ inserted k ws s e) where
      below_is : grew us new ≡ inserted l ws (top_of l t) e
      below_is = below ∙ ap (λ i. inserted i ws s e) level_is ∙ ap (λ o. inserted l ws o e) root_is

      pub grow_raise : MayRaise us s k
      grow_raise =
          let here = good_here good may.holds.stored may.point made in
          let words : us ≡ (inserted l ws (top_of l t) e).words = ap (λ g. g.words) below_is in
          let entry : entry_for us s ≡ entry_of_tree l made.here =
          ap (λ vs. entry_for vs s) words
          ∙ ap (entry_for (inserted l ws (top_of l t) e).words) (root_is ∙ sym made.top)
          ∙ stored_entry (inserted l ws (top_of l t) e).words here made.stored in
          let left = made.left in
          let room : 0 < free_count (inserted l ws (top_of l t) e).words = omega (arith, made.few, held_room may.holds may.sound, good.low) in
          record {
            low = grow_root root;
            level = omega (arith, level_is, good.low);
            old = rw entry (tree_sits made.here (least_some l) here).fits;
            room = rw words (some_free (inserted l ws (top_of l t) e).words room);
          }

      pub grow_new : All EntryFits (new_of new)
      grow_new =
          let same : new_of new ≡ map (entry_of_tree l) made.new = ap (λ g. g.new) below_is ∙ made.handed in
          rw same
          (all_map EntryFits (entry_of_tree l) made.new
          (all_then (Good LEAST l) (λ c. EntryFits (entry_of_tree l c)) (λ c g. (tree_sits c (omega arith) g).fits) made.new
          (good_new good may.holds.stored may.point made)))

      pub grow_done : (vs : Words) → vs ≡ rooted s k us (new_of new) → vs ≡ next_enrolled ws e
      grow_done vs h =
          h
          ∙ ap (λ vs'. rooted s k vs' (new_of new)) (ap (λ g. g.words) below)
          ∙ ap (λ es. rooted s k (inserted k ws s e).words es) (ap (λ g. g.new) below)
          ∙ ap (λ i. rooted s i (inserted i ws s e).words (inserted i ws s e).new) level
          ∙ ap (λ o. rooted o (level_at ws o) (inserted (level_at ws o) ws o e).words (inserted (level_at ws o) ws o e).new) root

-- ---- from well formed

module _ {ws : Words} {e : Entry} (may : MayEnrol ws e) where
  empty_none : is_empty ws ≡ true → points_of ws ≡ 0
  unfolding is_empty
  empty_none h =
      let a = is_minus_one (word ws 0) in
      let b = eqb (points_of ws) 0 in
      let d = every (is_free ws) slots in
      eqb-true (points_of ws) 0 (and_left b d (and_right a (b && d) h))

  holding : is_empty ws ≡ false → Held ws
  holding = well_formed_tree ws may.long may.words may.good

  -- a table that holds a tree has a point
  held_some : Held ws → 1 ≤ points_of ws
  held_some h = omega (arith, held_points h.holds, some_leaf (least_of h.level) h.level (least_some h.level) h.tree h.sound.fill)

  is_empty_lem : points_of ws ≡ 0 → is_empty ws ≡ true
  is_empty_lem z = by_test (is_empty ws) (λ y. y) (λ n. absurd (omega (arith, held_some (holding n))))

  not_empty : (points_of ws ≡ 0 → ⊥) → is_empty ws ≡ false
  not_empty d = by_test (is_empty ws) (λ y. absurd (d (empty_none y))) (λ n. n)

  pub enrol_grow : (points_of ws ≡ 0 → ⊥) → MayGrow ws e
  enrol_grow d =
      let h = holding (not_empty d) in
      record { level = h.level; tree = h.tree; holds = h.holds; sound = h.sound; point = may.point }

  pub enrol_few : (points_of ws ≡ 0 → ⊥) → points_of ws ≤ MOST
  enrol_few d =
      let h = holding (not_empty d) in
      omega (arith, held_points h.holds, h.sound.few)

  -- ---- the words afterwards

  pub enrol_first : points_of ws ≡ 0 → (us vs : Words) → us ≡ first_enrolled ws e → vs ≡ with_points us 1 → vs ≡ enrolled ws e
  unfolding enrolled
  enrol_first z us vs a b = rw (is_empty_lem z, z) (b ∙ ap (λ x. with_points x 1) a)

  pub enrol_next : (points_of ws ≡ 0 → ⊥) → (us vs : Words) → us ≡ next_enrolled ws e → vs ≡ with_points us (points_of ws + 1) → vs ≡ enrolled ws e
  unfolding enrolled
  enrol_next d us vs a b = rw (not_empty d) (b ∙ ap (λ x. with_points x (points_of ws + 1)) a)
