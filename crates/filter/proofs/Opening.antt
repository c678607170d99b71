-- A well-formed table can be walked from its root: its tree's slots are slots and its boxes lie on the grid, and what the walk finds is no more than what the table holds. Assumes nothing.
use Prim.Native.Nat.{ℕ, zero, suc, ◌<◌}
use native.Mathlib.Omega.{arith}
use mathlib.Core.Path.{◌≡◌, refl, sym, ap, ◌∙◌}
use mathlib.Core.Bool.{true, false}
use lib.ListN.{length}
use borrow.Author.Tests.{eqb-true}
use Rattle.words.specs.Word.{IsWord}
use Rattle.grid.specs.declared.place.Place.{Place}
use Rattle.grid.specs.Place.{Upright}
use Rattle.grid.specs.declared.site.Site.{Site}
use Rattle.grid.specs.Site.{place_of}
use Rattle.grid.proofs.Sites.{SiteOnGrid, place_grid}
use Rattle.order.specs.Lists.{All}
use Rattle.order.proofs.Lists.{all_mem, all_map, and_left, and_right}
use Rattle.table.specs.declared.node.Entry.{Entry}
use Rattle.figures.specs.Figures.{LENGTH, LEAST}
use Rattle.table.specs.Words.{Words, root_of, points_of, is_minus_one, word}
use Rattle.table.specs.Slots.{level_at}
use Rattle.rules.specs.Rules.{is_empty, well_formed}
use Rattle.table.specs.Tree.{Tree, top_of, entry_of_tree, least_of, Stored}
use Rattle.rules.proofs.Tests.{by_test}
use Rattle.rules.proofs.Size.{some_leaf, sound_bounds}
use Rattle.rules.proofs.Reading.{
  Good,
  good_root,
  good_child,
  least_some,
  top_inside,
  entry_reference,
  entry_upright,
  stored_child,
  stored_level,
  stored_entries,
  held_root,
  held_points,
}
use Rattle.rules.proofs.WellFormed.{Held, well_formed_tree}
use Rattle.filter.specs.declared.seen.Seen.{Seen}
use Rattle.filter.specs.Walk.{walk}
use Rattle.filter.specs.Query.{nothing, found}
use Rattle.filter.specs.Rows.{Rows, listed, laid_in, found_in, Room, Kept, Noted, Ready}
use Rattle.filter.specs.Passable.{Passable}
use Rattle.filter.proofs.Answers.{found_walk, candidates_few, opened_few, found_empty}
use Rattle.filter.proofs.Turns.{room_less}

pub passable_tree : {lo : ℕ} (l : ℕ) (t : Tree l) (ws : Words) → Good lo l t → Stored l ws t → Passable l ws (top_of l t)
passable_tree zero t ws g st = (top_inside g, rw (stored_entries ws {t = t} g st) g.points)
passable_tree (suc l) t ws g st =
    let P : Entry → Type 0 = λ e. Upright e.rect × Passable l ws e.reference in
    let child : (c : Tree l) → Good LEAST l c → Stored l ws c → P (entry_of_tree l c) = λ c h s.
    (entry_upright (omega arith) h, rw (entry_reference l c) (passable_tree l c ws h s)) in (
      top_inside g,
      rw (stored_entries ws {t = t} g st)
          (all_map P (entry_of_tree l) t.items
          (all_mem (λ c. P (entry_of_tree l c)) t.items (λ c m. child c (good_child g m) (stored_child ws l t st m)))),
    )

-- ---- before anything is found

abbrev pub none : Seen
none = record { candidates = 0; opened = 0 }

pub found_none : (q : Place) (r : Rows) → found_in q r none ≡ nothing
unfolding listed
found_none q r = refl

pub kept_none : (q : Place) (r : Rows) → Kept q r 0
unfolding listed laid_in
kept_none q r = record {
  room = record { numbers = omega arith; xs = omega arith; ys = omega arith; bars = omega arith };
  points = tt;
  same = refl;
}

noted_none : (q : Place) (r : Rows) → Noted q nothing r r none
unfolding laid_in
noted_none q r = record { rows = refl; candidates = refl; opened = refl }

-- ---- the root

module _ (ws : Words) (long : length ws ≡ LENGTH) (fits : All IsWord ws) (w : well_formed ws ≡ true) where
  -- no points: the empty table
  pub no_points : points_of ws ≡ 0 → is_empty ws ≡ true
  no_points z =
      by_test (is_empty ws) (λ e. e)
      (λ e.
      let t = well_formed_tree ws long fits w e in
      absurd (omega (arith, held_points t.holds, some_leaf (least_of t.level) t.level (least_some t.level) t.tree t.sound.fill)))

  pub some_points : 0 < points_of ws → is_empty ws ≡ false
  unfolding is_empty
  some_points p =
      by_test (is_empty ws) (λ e. absurd (omega (arith, eqb-true (points_of ws) 0 (and_left _ _ (and_right (is_minus_one (word ws 0)) _ e))))) (λ e. e)

  module _ (e : is_empty ws ≡ false) where
    pub held : Held ws
    held = well_formed_tree ws long fits w e

    held_level : level_at ws (root_of ws) ≡ held.level
    held_level = ap (level_at ws) (held_root held.holds) ∙ stored_level ws {t = held.tree} (good_root held.sound) held.holds.stored

    -- from the root, and the level there
    module _ (root level : ℕ) (is_root : root ≡ root_of ws) (isLevel : level ≡ level_at ws root) where
      pub at_level : level ≡ held.level
      at_level = isLevel ∙ ap (level_at ws) is_root ∙ held_level

      pub at_root : root ≡ top_of held.level held.tree
      at_root = is_root ∙ held_root held.holds

      pub root_passable : Passable level ws root
      root_passable = rw (at_level, at_root) (passable_tree held.level held.tree ws (good_root held.sound) held.holds.stored)

      module _ (q : Site) (g : SiteOnGrid q) (k : ℕ) (p : Place) (isPlace : p ≡ place_of q) (r : Rows) where
        -- the walk from the root is the whole
        root_walk : walk p k level ws root (found_in p r none) ≡ found ws q k
        root_walk =
            rw (isPlace, at_level, at_root, found_none (place_of q) r)
            (sym (found_walk ws held.level held.tree held.holds held.sound q g k))

        pub root_ready : Room (points_of ws) r → Ready p (walk p k level ws root) r none
        root_ready room = record {
          grid = rw isPlace (place_grid g);
          kept = kept_none p r;
          room =
              rw root_walk
              (room_less
              (omega (arith, candidates_few ws held.level held.tree held.holds held.sound q g k, held_points held.holds))
              room);
          opened =
              rw root_walk
              (omega (
                arith,
                opened_few ws held.level held.tree held.holds held.sound q g k,
                (sound_bounds held.level held.tree held.sound).1,
              ));
        }

        pub root_noted : {after : Rows} {s : Seen} → Noted p (walk p k level ws root (found_in p r none)) r after s → Noted (place_of q) (found ws q k) r after s
        root_noted n = rw (← isPlace, ← root_walk) n

  pub empty_noted : (q : Site) (k : ℕ) (r : Rows) → is_empty ws ≡ true → Noted (place_of q) (found ws q k) r r none
  empty_noted q k r e = rw (found_empty ws e q k) (noted_none (place_of q) r)
