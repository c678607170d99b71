-- What a granted withdrawal gives to the code: a well-formed table with the point enrolled holds a sound tree with the number in it; the cases of the root. Assumes nothing.
use Prim.Native.Nat.{ℕ, ◌-◌, ◌≤◌, ◌<◌}
use native.Mathlib.Omega.{arith}
use mathlib.Core.Path.{◌≡◌, sym, ap, subst, ◌∙◌}
use mathlib.Core.Logic.{⊎_elim}
use mathlib.Core.Bool.{cond, not, ◌&&◌, false≢true}
use mathlib.Core.List.Memᴰ
use mathlib.Core.List.{map}
use lib.Dec.{eqb}
use lib.ListN.{length}
use borrow.Author.Tests.{eq-eqb, ne_eqb}
use Rattle.order.specs.Lists.{has, Mem}
use Rattle.order.proofs.Perm.{perm_map, perm_mem}
use Rattle.order.proofs.Lists.{has_mem}
use Rattle.table.specs.declared.node.Entry.{Entry}
use Rattle.figures.specs.Figures.{MOST, SLOTS}
use Rattle.table.specs.Words.{Words, root_of, points_of}
use Rattle.table.specs.Slots.{level_at, entries_at, with_points}
use Rattle.table.specs.Stations.{stations, station_of_entry}
use Rattle.table.specs.Tree.{top_of, leaves_of, least_of}
use Rattle.rules.proofs.Held.{held_stations}
use Rattle.rules.proofs.Reading.{good_root, least_some, stored_level, held_root, held_points}
use Rattle.rules.proofs.Size.{some_leaf}
use Rattle.rules.proofs.WellFormed.{Held, well_formed_means, empty_stations}
use Rattle.change.specs.Planted.{Planted}
use Rattle.leaving.specs.Withdraw.{holds, removed, emptied, given_way, lowered, withdrawn, Removable, Lowerable, MayWithdraw}
use Rattle.change.proofs.Planting.{planted_inside}
use Rattle.leaving.proofs.Withdrawn.{found, root_lowerable}

-- ---- the tree, and the entry with the number

module _ (ws : Words) (n : ℕ) (may : MayWithdraw ws n) where
  pub may_held : Held ws
  may_held =
      ⊎_elim
      (λ e. absurd (false≢true (sym (ap (λ ss. has n (map (λ p. p.number) ss)) (ap stations e ∙ empty_stations)) ∙ may.enrolled)))
      (λ h. h) (well_formed_means ws may.long may.words may.good)

  may_leaf : (e : Entry) × Mem e (leaves_of may_held.level may_held.tree) × (e.reference ≡ n)
  may_leaf =
      let es = leaves_of may_held.level may_held.tree in
      let p = perm_map (λ x. x.number) (held_stations may_held.holds may_held.sound) in
      let m = Memᴰ.of_map (λ x. x.number) (map station_of_entry es) (perm_mem p (has_mem n (map (λ x. x.number) (stations ws)) may.enrolled)) in
      let k = Memᴰ.of_map station_of_entry es m.1 in
      (k.0, k.1, ap (λ x. x.number) k.2 ∙ m.2)

  may_level : level_at ws (root_of ws) ≡ may_held.level
  may_level =
      ap (level_at ws) (held_root may_held.holds) ∙ stored_level ws (good_root may_held.sound) may_held.holds.stored

  may_planted : Planted may_held.level ws (root_of ws)
  may_planted =
      let g = good_root may_held.sound in
      record {
        tree = may_held.tree;
        top = sym (held_root may_held.holds);
        long = may.long;
        low = g.low;
        fill = g.fill;
        apart = g.apart;
        inside = g.inside;
        points = g.points;
        stored = may_held.holds.stored;
      }

  pub may_inside : root_of ws < SLOTS
  may_inside = planted_inside may_planted

  pub may_removable : Removable (level_at ws (root_of ws)) ws (root_of ws) n
  may_removable =
      let e = may_leaf in
      let f = found ws may_held.level may_held.tree may_held.holds may_held.sound e.0 n e.1 e.2 in
      subst (λ k. Removable k ws (root_of ws) n) (sym may_level)
      (record { planted = may_planted; found = ap (λ o. holds may_held.level ws o n) (held_root may_held.holds) ∙ f })

  pub may_lowerable : (after : Words) → after ≡ removed (level_at ws (root_of ws)) ws (root_of ws) n → Lowerable after (root_of ws)
  may_lowerable after q =
      let e = may_leaf in
      let r = root_lowerable ws may_held.level may_held.tree may_held.holds may_held.sound e.0 n e.1 e.2 in
      let k : after ≡ removed may_held.level ws (top_of may_held.level may_held.tree) n =
      q ∙ ap (λ j. removed j ws (root_of ws) n) may_level ∙ ap (λ o. removed may_held.level ws o n) (held_root may_held.holds) in
      subst (Lowerable after) (sym (held_root may_held.holds)) (subst (λ w. Lowerable w (top_of may_held.level may_held.tree)) (sym k) r)

  pub may_points : (1 ≤ points_of ws) × (points_of ws ≤ MOST)
  may_points =
      let g = may_held.sound in
      omega (arith, held_points may_held.holds, g.few, some_leaf (least_of may_held.level) may_held.level (least_some may_held.level) may_held.tree g.fill)

-- ---- the root

module _ (ws : Words) (s : ℕ) where
  abbrev k : ℕ
  k = length (entries_at ws s)

  pub lower_none : k ≡ 0 → emptied ws s ≡ lowered ws s
  unfolding lowered
  lower_none e =
      sym (ap (λ b. cond b (emptied ws s) (cond (not (eqb (level_at ws s) 0) && eqb k 1) (given_way ws s) ws)) (eq-eqb k 0 e))

  pub lower_leaf : (k ≡ 0 → ⊥) → level_at ws s ≡ 0 → ws ≡ lowered ws s
  unfolding lowered
  lower_leaf e f =
      sym
      (ap (λ b. cond b (emptied ws s) (cond (not (eqb (level_at ws s) 0) && eqb k 1) (given_way ws s) ws)) (ne_eqb k 0 e)
      ∙ ap (λ b. cond (not b && eqb k 1) (given_way ws s) ws) (eq-eqb (level_at ws s) 0 f))

  lower_above : (k ≡ 0 → ⊥) → (level_at ws s ≡ 0 → ⊥) → lowered ws s ≡ cond (eqb k 1) (given_way ws s) ws
  unfolding lowered
  lower_above e f =
      ap (λ b. cond b (emptied ws s) (cond (not (eqb (level_at ws s) 0) && eqb k 1) (given_way ws s) ws)) (ne_eqb k 0 e)
      ∙ ap (λ b. cond (not b && eqb k 1) (given_way ws s) ws) (ne_eqb (level_at ws s) 0 f)

  pub lower_many : (k ≡ 0 → ⊥) → (level_at ws s ≡ 0 → ⊥) → (k ≡ 1 → ⊥) → ws ≡ lowered ws s
  lower_many e f g = sym (lower_above e f ∙ ap (λ b. cond b (given_way ws s) ws) (ne_eqb k 1 g))

  pub lower_one : (level_at ws s ≡ 0 → ⊥) → k ≡ 1 → given_way ws s ≡ lowered ws s
  lower_one f g = sym (lower_above (λ z. omega (arith, g)) f ∙ ap (λ b. cond b (given_way ws s) ws) (eq-eqb k 1 g))

-- ---- step by step

module _ (ws : Words) (n root level : ℕ) (after : Words) (er : root ≡ root_of ws) (el : level ≡ level_at ws root) (ea : after ≡ removed level ws root n) where
  pub removed_is : after ≡ removed (level_at ws (root_of ws)) ws (root_of ws) n
  removed_is = ea ∙ ap (λ l. removed l ws root n) el ∙ ap (λ o. removed (level_at ws o) ws o n) er

pub withdrawn_is_done : (ws : Words) (n root level points : ℕ) (after end : Words) → root ≡ root_of ws → level ≡ level_at ws root → points ≡ points_of ws
    → after ≡ removed level ws root n → end ≡ lowered after root → (last : Words) → last ≡ with_points end (points - 1) → last ≡ withdrawn ws n
unfolding withdrawn
withdrawn_is_done ws n root level points after end er el ep ea ee last e =
    let s = root_of ws in
    e ∙ ap (λ p. with_points end (p - 1)) ep ∙ ap (λ w. with_points w (points_of ws - 1)) (ee ∙ ap (lowered after) er)
    ∙ ap (λ w. with_points (lowered w s) (points_of ws - 1)) (removed_is ws n root level after er el ea)
