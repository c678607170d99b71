-- What a table has that passes the check: its number of points, no number twice, at most 248 nodes on 6 levels. It is the empty table, or it holds a sound tree. Assumes nothing.
use Prim.Native.Nat.{ℕ, ◌≤◌, ◌<◌}
use native.Mathlib.Omega.{arith}
use mathlib.Core.Path.{◌≡◌, refl, sym, ap, subst, ◌∙◌}
use mathlib.Core.Logic.{⊎_elim}
use mathlib.Core.Bool.{true, false, not, false≢true}
use mathlib.Core.List.{List, map, map-map}
use lib.ListN.{length}
use Rattle.words.specs.Word.{nat_of}
use Rattle.order.specs.Lists.{count, NoDup}
use Rattle.order.specs.Order.{Perm, up_from}
use Rattle.order.proofs.Perm.{psym, perm_map, perm_length}
use Rattle.order.proofs.Lists.{length_filter, perm_nodup}
use Rattle.order.proofs.Order.{up_all}
use Rattle.table.specs.declared.node.Entry.{Entry}
use Rattle.figures.specs.Figures.{MOST, SLOTS}
use Rattle.table.specs.Words.{Words, points_of}
use Rattle.table.specs.Slots.{slots, is_free, level_at}
use Rattle.table.specs.Stations.{Station, station_of_entry, stations}
use Rattle.table.specs.Empty.{empty_table}
use Rattle.table.specs.Tree.{leaves_of, slots_of}
use Rattle.table.proofs.Slots.{free_part_free}
use Rattle.rules.proofs.Size.{sound_bounds}
use Rattle.rules.proofs.Reading.{held_points, stored_level}
use Rattle.rules.proofs.Complete.{slots_perm}
use Rattle.rules.proofs.EmptyTable.{empty_blank}
use Rattle.rules.proofs.Held.{held_complete, held_fits, held_stations, held_stations_length, subtree_here}
use Rattle.rules.proofs.WellFormed.{Held, well_formed_means, tree_well_formed, empty_length, empty_fits, empty_well_formed, empty_stations}
use Rattle.filter.proofs.Meaning.{count_none}
use Rattle.rules.specs.Rules.{Passing}

-- ---- the two cases

pub empty_passing : Passing empty_table
empty_passing = record { long = empty_length; words = empty_fits; rules = empty_well_formed }

pub held_passing : {ws : Words} → Held ws → Passing ws
held_passing h = record { long = h.holds.long; words = held_fits h.holds h.sound; rules = tree_well_formed h }

pub by_table : (P : Words → Type 0) → P empty_table → ((ws : Words) → Held ws → P ws) → (ws : Words) → Passing ws → P ws
by_table P empty tree ws p =
    ⊎_elim (λ e. subst P (sym e) empty) (tree ws) (well_formed_means ws p.long p.words p.rules)

pub empty_free : (s : ℕ) → s < SLOTS → is_free empty_table s ≡ true
empty_free s low = free_part_free empty_table s (empty_blank.frees s low)

pub empty_points : points_of empty_table ≡ 0
empty_points = ap nat_of empty_blank.second

-- ---- its points

pub passing_points : {ws : Words} → Passing ws → points_of ws ≡ length (stations ws)
passing_points {ws} =
    by_table (λ us. points_of us ≡ length (stations us)) (empty_points ∙ sym (ap length empty_stations))
    (λ us h. held_stations_length h.holds h.sound) ws

pub passing_few : {ws : Words} → Passing ws → points_of ws ≤ MOST
passing_few {ws} =
    by_table (λ us. points_of us ≤ MOST) (omega (arith, empty_points))
    (λ us h. omega (arith, held_points h.holds, h.sound.few)) ws

abbrev pub numbers : List Station → List ℕ
numbers ps = map (λ p. p.number) ps

abbrev pub leaf_numbers : List Entry → List ℕ
leaf_numbers es = map (λ e. e.reference) es

-- the numbers that the leaves have
pub held_numbers : {ws : Words} (h : Held ws) → Perm (numbers (stations ws)) (leaf_numbers (leaves_of h.level h.tree))
held_numbers {ws} h =
    subst (Perm (numbers (stations ws))) (map-map (λ (p : Station). p.number) station_of_entry (leaves_of h.level h.tree))
    (perm_map (λ p. p.number) (held_stations h.holds h.sound))

pub passing_once : {ws : Words} → Passing ws → NoDup (numbers (stations ws))
passing_once {ws} =
    by_table (λ us. NoDup (numbers (stations us))) (subst (λ ps. NoDup (numbers ps)) (sym empty_stations) tt)
    (λ us h. perm_nodup (psym (held_numbers h)) h.sound.once) ws

-- ---- its nodes

-- over the slots below n: their list is long once it is written out
nodes_below : {ws : Words} → Passing ws → (n : ℕ) → n ≡ SLOTS → count (λ s. not (is_free ws s)) (up_from 0 n) ≤ 248
nodes_below {ws} p n size =
    by_table (λ us. count (λ s. not (is_free us s)) (up_from 0 n) ≤ 248)
    (omega (
      arith,
      count_none (λ s. not (is_free empty_table s)) (up_from 0 n)
          (up_all (λ s. not (is_free empty_table s) ≡ false) 0 n (λ s a b. ap not (empty_free s (omega arith)))),
    ))
    (λ us h.
    let e : length (slots_of h.level h.tree) ≡ count (λ s. not (is_free us s)) (up_from 0 n) =
    subst (λ k. length (slots_of h.level h.tree) ≡ count (λ s. not (is_free us s)) (up_from 0 k)) (sym size)
    (perm_length (slots_perm (held_complete h.holds h.sound)) ∙ length_filter (λ s. not (is_free us s)) slots) in
    omega (arith, (sound_bounds h.level h.tree h.sound).1)) ws p

pub passing_nodes : {ws : Words} → Passing ws → count (λ s. not (is_free ws s)) slots ≤ 248
passing_nodes p = nodes_below p SLOTS refl

pub passing_levels : {ws : Words} → Passing ws → (s : ℕ) → s < SLOTS → is_free ws s ≡ false → level_at ws s ≤ 5
passing_levels {ws} =
    by_table (λ us. (s : ℕ) → s < SLOTS → is_free us s ≡ false → level_at us s ≤ 5)
    (λ s low used. absurd (false≢true (sym used ∙ empty_free s low)))
    (λ us h s low used.
    let r = subtree_here h.holds h.sound s low used in
    let e : level_at us s ≡ r.level = ap (level_at us) (sym r.top) ∙ stored_level us r.good r.stored in
    omega (arith, r.good.low)) ws
