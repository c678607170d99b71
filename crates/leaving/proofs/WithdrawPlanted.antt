-- What the words below a slot give to the code of a withdrawal: the tree that a removal asks for, and where a number stands. Assumes nothing.
use Prim.Native.Nat.{ℕ, zero, suc, ◌-◌, ◌<◌}
use native.Mathlib.Omega.{arith}
use mathlib.Core.Path.{◌≡◌, refl, sym, ap, subst, ◌∙◌}
use mathlib.Core.Bool.{Bool}
use lib.Dec.{eqb}
use Rattle.std.specs.Prelude.{Option, position}
use Rattle.std.specs.Option.{is_some}
use Rattle.order.specs.Lists.{some, All}
use Rattle.table.specs.declared.node.Entry.{Entry}
use Rattle.table.specs.Words.{Words}
use Rattle.table.specs.declared.node.Node.{Node}
use Rattle.table.specs.Page.{held, Shows}
use Rattle.table.specs.Slots.{page_at, entries_at}
use Rattle.table.specs.Tree.{least_of}
use Rattle.change.specs.Planted.{Planted}
use Rattle.leaving.specs.Withdraw.{holds}
use Rattle.change.proofs.Flat.{good_flat}
use Rattle.change.proofs.Planting.{planted_good, planted_below}
use Rattle.leaving.proofs.WithdrawCut.{Ready}
use Rattle.leaving.proofs.WithdrawSearch.{position_some}

-- the code's `level - 1`
pub by_pred : (P : ℕ → ℕ → Type 0) → ((l : ℕ) → P (suc l) l) → (l : ℕ) → 0 < l → P l (l - 1)
by_pred P h zero k = absurd (omega arith)
by_pred P h (suc l) k =
    let e : l ≡ suc l - 1 = omega arith in
    subst (P (suc l)) e (h l)

module _ {l : ℕ} {ws : Words} {s : ℕ} (p : Planted l ws s) where
  pub planted_ready : Ready l ws p.tree
  planted_ready = record {
    low = p.low;
    long = p.long;
    fill = p.fill;
    flat = good_flat (least_of l) l p.tree (planted_good p);
    stored = p.stored;
  }

-- ---- a search

-- whether a number stands below a slot, one level down
pub holds_down : (ws : Words) (s n l : ℕ) → 0 < l → holds l ws s n ≡ some (λ e. holds (l - 1) ws e.reference n) (entries_at ws s)
holds_down ws s n = by_pred (λ l k. holds l ws s n ≡ some (λ e. holds k ws e.reference n) (entries_at ws s)) (λ l. refl)

pub planted_down : (ws : Words) (s l : ℕ) → 0 < l → Planted l ws s → All (λ e. Planted (l - 1) ws e.reference) (entries_at ws s)
planted_down ws s =
    by_pred (λ l k. Planted l ws s → All (λ e. Planted k ws e.reference) (entries_at ws s)) (λ l p. planted_below l ws s p)

-- ---- what a search in a node says

module _ (ws : Words) (s n l : ℕ) (node : Node) (shows : Shows node (page_at ws s)) where
  search_some : (P : Entry → Bool) (r : Option ℕ) → r ≡ position P (held node) → is_some r ≡ some P (entries_at ws s)
  search_some P r e = ap is_some (e ∙ ap (position P) shows.entries) ∙ position_some P (entries_at ws s)

  pub leaf_found : (r : Option ℕ) → r ≡ position (λ e. eqb e.reference n) (held node) → l ≡ 0 → is_some r ≡ holds l ws s n
  leaf_found r e z = search_some (λ x. eqb x.reference n) r e ∙ ap (λ k. holds k ws s n) (sym z)

  pub child_found : (r : Option ℕ) → r ≡ position (λ e. holds (l - 1) ws e.reference n) (held node) → 0 < l → is_some r ≡ holds l ws s n
  child_found r e h = search_some (λ x. holds (l - 1) ws x.reference n) r e ∙ sym (holds_down ws s n l h)

  -- the entries of a node above lead to trees of the level below
  pub node_below : 0 < l → Planted l ws s → All (λ e. Planted (l - 1) ws e.reference) (held node)
  node_below h p = subst (All (λ e. Planted (l - 1) ws e.reference)) (sym shows.entries) (planted_down ws s l h p)
