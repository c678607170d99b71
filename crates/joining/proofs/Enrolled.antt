-- A granted enrolment: the table afterwards holds a sound tree with the new point and all the old ones. The insertion and the root say what is stored; the header is two words. Assumes nothing.
use Prim.Native.Nat.{ℕ, zero, suc, ◌+◌, ◌≤◌, ◌<◌}
use native.Mathlib.Omega.{arith}
use native.Mathlib.Decide.{dec_lt}
use mathlib.Core.Path.{◌≡◌, sym, ap, subst, ◌∙◌}
use mathlib.Core.Bool.{true}
use mathlib.Core.List.Memᴰ
use mathlib.Core.List.{List, [], ◌∷◌, map}
use lib.IntN.{pos}
use lib.ListN.{length, length-set}
use lib.Seq.{get_or-set_same, get_or-set_other}
use Rattle.order.specs.Lists.{Mem}
use Rattle.order.specs.Order.{Perm}
use Rattle.order.proofs.Perm.{prefl, psym, perm_length, perm_map}
use Rattle.order.proofs.Lists.{length_filter, all_mem, perm_nodup}
use Rattle.table.specs.declared.node.Entry.{Entry}
use Rattle.figures.specs.Figures.{FAN, MOST, SLOTS, LENGTH}
use Rattle.table.specs.Words.{Words, points_of, part_at}
use Rattle.table.specs.Page.{page}
use Rattle.table.specs.Empty.{empty_table}
use Rattle.table.specs.Slots.{slots, is_free, put_page, entry_for, with_root, with_points}
use Rattle.table.specs.Stations.{is_point}
use Rattle.table.specs.Tree.{Tree, bough, top_of, slots_of, leaves_of, least_of, Sound, Holds}
use Rattle.table.proofs.Slots.{put_here, put_other, put_long, header_part}
use Rattle.rules.proofs.Counted.{number_counted, number_missing, count_nodup}
use Rattle.rules.proofs.Size.{sound_bounds}
use Rattle.rules.proofs.Reading.{good_root, least_some, held_root, held_points, stored_level, stored_entry}
use Rattle.rules.proofs.Held.{eight_free, not_empty}
use Rattle.rules.proofs.EmptyTable.{Blank, blank_is_empty}
pub use Rattle.rules.proofs.EmptyTable.{empty_blank as empty-bare}
use Rattle.joining.specs.Within.{free_count}
use Rattle.joining.specs.Enrol.{inserted, rooted, next_enrolled, first_enrolled, enrolled}
use Rattle.change.proofs.Frame.{times, off_grid}
use Rattle.change.proofs.Counts.{good_counts, sited_points, counts_perm, point_counts}
use Rattle.joining.proofs.EnrolNode.{Made}
use Rattle.joining.proofs.EnrolTree.{taken_off, good_here, insert_made}
use Rattle.joining.proofs.EnrolRoot.{Root, root_made, stored_header}

-- ---- a table that holds a tree

-- there is room for a new node on each of six levels, and for a new root
pub held_room : {ws : Words} {l : ℕ} {t : Tree l} → Holds ws l t → Sound l t → 8 ≤ free_count ws
unfolding free_count
held_room {ws} h g = subst (λ n. 8 ≤ n) (length_filter (is_free ws) slots) (eight_free h g)

pub least_most : (l : ℕ) → least_of l ≤ 4
least_most zero = omega arith
least_most (suc l) = omega arith

-- ---- the theorem

-- what an enrolment of e leaves of a table that held the points ps: some sound tree, with e besides
pub record Enrolment (ps : List Entry) (e : Entry) (us : Words) : Type 0 where
  pub level : ℕ
  pub tree : Tree level
  pub holds : Holds us level tree
  pub sound : Sound level tree
  pub points : Perm (leaves_of level tree) (e ∷ ps)

module _ (ws : Words) (l : ℕ) (t : Tree l) (e : Entry) (holds : Holds ws l t) (sound : Sound l t) (point : is_point e ≡ true)
    (new : Mem e.reference (map (λ i. i.reference) (leaves_of l t)) → ⊥) (few : length (leaves_of l t) < MOST) where
  -- what was stored, with the number of points written
  held : (us : Words) → Root ws (slots_of l t) (e ∷ leaves_of l t) us → Enrolment (leaves_of l t) e (with_points us (points_of ws + 1))
  held us r =
      let ps : Perm (leaves_of r.level r.tree) (e ∷ leaves_of l t) = counts_perm (leaves_of r.level r.tree) (e ∷ leaves_of l t) r.leaves in
      let n : length (leaves_of r.level r.tree) ≡ points_of ws + 1 = omega (arith, perm_length ps, held_points holds) in
      let apart : (o : ℕ) → times o r.taken + times o (slots_of l t) ≤ 1 =
      taken_off ws (good_root sound) holds.stored r.taken r.free r.once in
      let v = pos (points_of ws + 1) in
      record {
        level = r.level;
        tree = r.tree;
        holds = record {
          long = length-set us 1 v ∙ r.long;
          root = get_or-set_other us 1 0 v (pos 0) (λ z. omega arith) ∙ r.root;
          points = get_or-set_same us 1 v (pos 0) (omega (arith, r.long)) ∙ ap pos (sym n);
          stored = stored_header r.level us 1 v r.tree (omega arith) r.stored;
          others = λ o low m.
              let z : times o (slots_of r.level r.tree) ≡ 0 = number_missing o (slots_of r.level r.tree) m in
              let y : times o r.taken + times o (slots_of l t) ≡ 0 = omega (arith, r.slots o) in
              header_part us 1 v (omega arith) o ∙ r.kept o (omega arith)
              ∙ holds.others o low (λ k. omega (arith, number_counted k));
        };
        sound = record {
          fill = r.filled;
          apart = count_nodup (slots_of r.level r.tree) (λ o m. omega (arith, r.slots o, apart o));
          inside = all_mem (λ o. o < SLOTS) (slots_of r.level r.tree) (λ o m.
              elim (dec_lt 0 (times o r.taken)) [
                | yes p ↦ (r.free o p).0
                | no p ↦ (good_counts (good_root sound)).inside o (omega (arith, r.slots o, number_counted m))
              ]);
          points = sited_points (leaves_of r.level r.tree) (omega (arith, r.leaves off_grid, (good_counts (good_root sound)).sited, point_counts e point));
          once = perm_nodup (psym (perm_map (λ i. i.reference) ps)) (new, sound.once);
          few = omega (arith, perm_length ps);
        };
        points = ps;
      }

  -- the way down, from the root
  made : Made (least_of l) l (suc l) ws (top_of l t) (slots_of l t) (e ∷ leaves_of l t) (inserted l ws (top_of l t) e)
  made = insert_made e point (least_of l) l (least_some l) (least_most l) ws t holds.long (good_root sound) holds.stored
      (omega (arith, held_room holds sound, (sound_bounds l t sound).0))

  next : next_enrolled ws e ≡ rooted (top_of l t) l (inserted l ws (top_of l t) e).words (inserted l ws (top_of l t) e).new
  next = rw (held_root holds, stored_level ws (good_root sound) holds.stored)

  pub enrolled_holds : Enrolment (leaves_of l t) e (enrolled ws e)
  unfolding enrolled
  enrolled_holds =
      let g = inserted l ws (top_of l t) e in
      let root : Root ws (slots_of l t) (e ∷ leaves_of l t) (rooted (top_of l t) l g.words g.new) =
      root_made l (suc l) ws (top_of l t) (slots_of l t) (e ∷ leaves_of l t) g made holds.long holds.root
      (omega (arith, made.left, made.few, held_room holds sound, (sound_bounds l t sound).0))
      (ap (entry_for g.words) (sym made.top) ∙ stored_entry g.words (good_here (good_root sound) holds.stored point made) made.stored) in
      rw (not_empty holds sound, next) (held (rooted (top_of l t) l g.words g.new) root)

-- ---- on the empty table

module _ (ws : Words) (e : Entry) (blank : Blank ws) (point : is_point e ≡ true) where
  first_words : enrolled ws e ≡ with_points (first_enrolled ws e) 1
  unfolding enrolled
  first_words = rw (blank_is_empty blank, blank.second)

  pub first_sound : Sound 0 (bough 0 (e ∷ []))
  first_sound = record {
    fill = (omega arith, omega arith);
    apart = (Memᴰ.not-nil, tt);
    inside = (omega arith, tt);
    points = (point, tt);
    once = (Memᴰ.not-nil, tt);
    few = omega arith;
  }

  pub first_holds : Holds (enrolled ws e) 0 (bough 0 (e ∷ []))
  first_holds =
      let p = page 0 (e ∷ []) in
      let us = put_page ws 0 p in
      let vs = with_root us (pos 0) in
      let few : length (e ∷ []) ≤ FAN = omega arith in
      let long : length vs ≡ LENGTH = length-set us 0 (pos 0) ∙ put_long ws 0 p blank.long (omega arith) few ∙ blank.long in
      let part : (o : ℕ) → part_at (with_points vs 1) o ≡ part_at us o = λ o.
      header_part vs 1 (pos 1) (omega arith) o ∙ header_part us 0 (pos 0) (omega arith) o in
      rw first_words
      (record {
        long = length-set vs 1 (pos 1) ∙ long;
        root = get_or-set_other vs 1 0 (pos 1) (pos 0) (λ z. omega arith)
            ∙ get_or-set_same us 0 (pos 0) (pos 0) (omega (arith, length-set us 0 (pos 0), long));
        points = get_or-set_same vs 1 (pos 1) (pos 0) (omega arith);
        stored = part 0 ∙ put_here ws 0 p blank.long (omega arith) few;
        others = λ s low m.
            part s ∙ put_other ws 0 p blank.long (omega arith) few s (λ z. m (Memᴰ.head z)) ∙ blank.frees s low;
      })

pub empty_enrolled : (e : Entry) → is_point e ≡ true → Enrolment [] e (enrolled empty_table e)
empty_enrolled e point = record {
  level = 0;
  tree = bough 0 (e ∷ []);
  holds = first_holds empty_table e empty-bare point;
  sound = first_sound empty_table e empty-bare point;
  points = prefl (e ∷ []);
}
