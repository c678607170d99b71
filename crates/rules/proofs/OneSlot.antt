-- One slot by its kind: a free slot has no entries that count, a leaf's entries are points, those of a node above refer to slots. By the cases of the tests. Assumes nothing.
use Prim.Native.Nat.{ℕ, zero, suc, ◌≤◌, ◌<◌}
use native.Mathlib.Omega.{arith}
use mathlib.Core.Path.{◌≡◌, refl, ap}
use mathlib.Core.Bool.{Bool, true, false, cond, ◌||◌, false≢true}
use mathlib.Core.List.Memᴰ
use mathlib.Core.List.{List, []}
use lib.IntN.{ℤ, pos, negsuc}
use borrow.Author.Tests.{eqb-true, eqb-false, eq-eqb, ne_eqb, not-true}
use Rattle.words.specs.Word.{nat_of}
use Rattle.order.specs.Lists.{Mem}
use Rattle.order.proofs.Lists.{by_bool}
use Rattle.table.specs.declared.node.Entry.{Entry}
use Rattle.figures.specs.Figures.{LEAST, SLOTS}
use Rattle.table.specs.Words.{Words, word, is_minus_one, root_of, part_at}
use Rattle.table.specs.Page.{page_of}
use Rattle.table.specs.Slots.{is_free, page_at, level_at, entries_at}
use Rattle.table.specs.Stations.{is_leaf}
use Rattle.rules.specs.Rules.{is_root, least_fill, leaf_entries, is_above, entries_above}
use Rattle.table.specs.Tree.{least_of}
use Rattle.rules.proofs.Tests.{or_false}

-- a used slot of a level
pub record Here (ws : Words) (l s : ℕ) : Type 0 where
  pub inside : s < SLOTS
  pub used : is_free ws s ≡ false
  pub level : level_at ws s ≡ l

pub minus_one : (z : ℤ) → is_minus_one z ≡ true → z ≡ negsuc 0
minus_one (pos n) e = absurd (false≢true e)
minus_one (negsuc n) e = ap negsuc (eqb-true n 0 e)

-- what stands in a list that is there under a test
pub cond_mem : {A : Type 0} {a : A} (b : Bool) (xs : List A) → Mem a (cond b xs []) → (b ≡ true) × Mem a xs
cond_mem true xs m = (refl, m)
cond_mem false xs m = absurd (Memᴰ.not-nil m)

module _ (ws : Words) (s : ℕ) where
  pub free_word : is_free ws s ≡ true → word (part_at ws s) 0 ≡ negsuc 0
  unfolding is_free
  free_word e = minus_one (word (part_at ws s) 0) e

  free_level : is_free ws s ≡ true → level_at ws s ≡ 4294967295
  unfolding page_at page_of
  free_level e = ap nat_of (free_word e)

  pub free_leaf : is_free ws s ≡ true → leaf_entries ws s ≡ []
  free_leaf e =
      let n : is_leaf ws s ≡ false = ne_eqb (level_at ws s) 0 (λ z. omega (arith, free_level e)) in
      rw n

  pub free_above : is_free ws s ≡ true → entries_above ws s ≡ []
  free_above e = rw e

  -- ---- a slot of a level

  pub leaf_leaf : Here ws zero s → leaf_entries ws s ≡ entries_at ws s
  leaf_leaf h =
      let y : is_leaf ws s ≡ true = eq-eqb (level_at ws s) 0 h.level in
      rw y

  pub leaf_above : Here ws zero s → entries_above ws s ≡ []
  leaf_above h =
      let y : is_leaf ws s ≡ true = eq-eqb (level_at ws s) 0 h.level in
      rw (h.used, y)

  module _ {l : ℕ} (h : Here ws (suc l) s) where
    not_leaf : is_leaf ws s ≡ false
    not_leaf = ne_eqb (level_at ws s) 0 (λ z. omega (arith, h.level))

    pub above_leaf : leaf_entries ws s ≡ []
    above_leaf = rw not_leaf

    pub above_above : entries_above ws s ≡ entries_at ws s
    above_above = rw (h.used, not_leaf)

  -- ---- back

  -- an entry that refers to a slot stands in a used slot above the leaves
  pub above_in : {e : Entry} → s < SLOTS → Mem e (entries_above ws s) → (l : ℕ) × Here ws (suc l) s
  above_in lt m =
      let c = cond_mem (is_above ws s) (entries_at ws s) m in
      let o = or_false (is_free ws s) (is_leaf ws s) (not-true (is_free ws s || is_leaf ws s) c.0) in
      go (level_at ws s) refl (eqb-false (level_at ws s) 0 o.1) o.0
    where
      go : (k : ℕ) → level_at ws s ≡ k → (level_at ws s ≡ 0 → ⊥) → is_free ws s ≡ false → (l : ℕ) × Here ws (suc l) s
      go zero e n u = absurd (n e)
      go (suc l) e n u = (l, record { inside = lt; used = u; level = e })

-- ---- rule 3's least number of entries

module _ (ws : Words) (s : ℕ) where
  -- it is at most three
  pub least_most : least_fill ws s ≤ LEAST
  least_most =
      by_bool (λ b. cond b (cond (is_leaf ws s) 1 2) LEAST ≤ LEAST) (is_root ws s)
      (λ r. by_bool (λ b. cond b 1 2 ≤ LEAST) (is_leaf ws s) (λ e. omega arith) (λ e. omega arith))
      (λ r. omega arith)

  pub least_other : is_root ws s ≡ false → least_fill ws s ≡ LEAST
  least_other e = rw e

  pub least_root : (l : ℕ) → root_of ws ≡ s → level_at ws s ≡ l → least_fill ws s ≡ least_of l
  least_root zero e k =
      let r : is_root ws s ≡ true = eq-eqb (root_of ws) s e in
      let y : is_leaf ws s ≡ true = eq-eqb (level_at ws s) 0 k in
      rw (r, y)
  least_root (suc l) e k =
      let r : is_root ws s ≡ true = eq-eqb (root_of ws) s e in
      let y : is_leaf ws s ≡ false = ne_eqb (level_at ws s) 0 (λ z. omega arith) in
      rw (r, y)
