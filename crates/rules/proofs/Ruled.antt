-- What the rules say of a table that is not empty, as facts about its slots. `Decoded` makes the tree of them. Assumes nothing.
use Prim.Native.Nat.{ℕ, suc, ◌≤◌, ◌<◌, ◌^◌}
use native.Mathlib.Omega.{arith}
use mathlib.Core.Path.{◌≡◌, sym, subst}
use mathlib.Core.Bool.{true, false, cond}
use mathlib.Core.List.{List}
use lib.IntN.{pos}
use lib.ListN.{length}
use Rattle.order.specs.Lists.{join, Mem, All, NoDup}
use Rattle.order.proofs.Lists.{mem_all}
use Rattle.table.specs.declared.node.Entry.{Entry}
use Rattle.figures.specs.Figures.{FAN, MOST, SLOTS, LENGTH}
use Rattle.table.specs.Words.{Words, word, root_of, points_of, part_at}
use Rattle.table.specs.Page.{page_words, free_words, cover_of}
use Rattle.table.specs.Slots.{slots, is_free, page_at, level_at, entries_at}
use Rattle.rules.specs.Rules.{is_root, least_fill, leaf_entries, numbers_at, entries_above, times_referred}
use Rattle.table.specs.Stations.{is_point}
use Rattle.rules.proofs.OneSlot.{Here, above_above}

-- rule 5, of an entry of slot s
pub record Child (ws : Words) (s : ℕ) (e : Entry) : Type 0 where
  pub inside : e.reference < SLOTS
  pub used : is_free ws e.reference ≡ false
  pub below : suc (level_at ws e.reference) ≡ level_at ws s

pub record Ruled (ws : Words) : Type 0 where
  pub long : length ws ≡ LENGTH
  -- rule 2
  pub first : word ws 0 ≡ pos (root_of ws)
  pub second : word ws 1 ≡ pos (points_of ws)
  pub inside : root_of ws < SLOTS
  pub used : is_free ws (root_of ws) ≡ false
  pub few : points_of ws ≤ MOST
  -- rules 1 and 3
  pub low : (s : ℕ) → s < SLOTS → is_free ws s ≡ false → level_at ws s < 2 ^ 31
  pub least : (s : ℕ) → s < SLOTS → is_free ws s ≡ false → least_fill ws s ≤ length (entries_at ws s)
  pub most : (s : ℕ) → s < SLOTS → is_free ws s ≡ false → length (entries_at ws s) ≤ FAN
  pub pages : (s : ℕ) → s < SLOTS → is_free ws s ≡ false → part_at ws s ≡ page_words (page_at ws s)
  pub frees : (s : ℕ) → s < SLOTS → is_free ws s ≡ true → part_at ws s ≡ free_words
  -- rule 4
  pub points : (s : ℕ) → s < SLOTS → All (λ e. is_point e ≡ true) (leaf_entries ws s)
  pub once : NoDup (join (numbers_at ws) slots)
  -- rules 5 and 6
  pub children : (s : ℕ) → s < SLOTS → All (Child ws s) (entries_above ws s)
  pub covers : (s : ℕ) → s < SLOTS → All (λ e. e.rect ≡ cover_of (entries_at ws e.reference)) (entries_above ws s)
  -- rule 7
  pub referred : (s : ℕ) → s < SLOTS → is_free ws s ≡ false → times_referred ws s ≡ cond (is_root ws s) 0 1
  pub counted : points_of ws ≡ length (join (leaf_entries ws) slots)

module _ {ws : Words} (h : Ruled ws) where
  -- the child of an entry
  pub below : {l s : ℕ} {e : Entry} → Here ws (suc l) s → Mem e (entries_at ws s) → Here ws l e.reference
  below {l} {s} {e} at m =
      let es = entries_above ws s in
      let n : Mem e es = subst (λ (l : List Entry). Mem e l) (sym (above_above ws s at)) m in
      let c = mem_all (Child ws s) es (h.children s at.inside) n in
      record { inside = c.inside; used = c.used; level = omega (arith, c.below, at.level) }

  pub covered : {l s : ℕ} {e : Entry} → Here ws (suc l) s → Mem e (entries_at ws s) → e.rect ≡ cover_of (entries_at ws e.reference)
  covered {l} {s} {e} at m =
      let es = entries_above ws s in
      let n : Mem e es = subst (λ (l : List Entry). Mem e l) (sym (above_above ws s at)) m in
      mem_all (λ i. i.rect ≡ cover_of (entries_at ws i.reference)) es (h.covers s at.inside) n
