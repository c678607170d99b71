-- Where a station stands: the first with its number, slot by slot. Assumes nothing.
use Prim.Native.Nat.{ℕ, suc, ◌+◌, ◌-◌, ◌<◌}
use native.Mathlib.Omega.{arith}
use native.Mathlib.Numerals.{add-one}
use mathlib.Core.Path.{◌≡◌, refl, sym, ap, ◌∙◌}
use mathlib.Core.Bool.{cond}
use mathlib.Core.List.{List, [], ◌∷◌, ◌++◌}
use lib.Dec.{eqb}
use Rattle.std.specs.Prelude.{Option, Some, None}
use Rattle.grid.specs.declared.place.Place.{Place}
use Rattle.order.specs.Lists.{join}
use Rattle.order.specs.Order.{up_from}
use Rattle.order.proofs.Lists.{by_bool}
use Rattle.figures.specs.Figures.{SLOTS}
use Rattle.table.specs.declared.node.Entry.{Entry}
use Rattle.table.specs.Words.{Words}
use Rattle.rules.specs.Rules.{leaf_entries}
use Rattle.filter.specs.Walk.{spot_in}
use Rattle.naming.specs.Named.{where_in, where_of}

module _ (number : ℕ) where
  -- those before come first
  where_there : (xs ys : List Entry) (w : Option Place) → where_in number xs ≡ w → (w ≡ None → ⊥) → where_in number (xs ++ ys) ≡ w
  where_there [] ys w e n = absurd (n (sym e))
  where_there (x ∷ xs) ys w e n =
      let ih : where_in number xs ≡ w → where_in number (xs ++ ys) ≡ w = λ f. where_there xs ys w f n in
      by_bool (λ b. cond b (Some (spot_in x)) (where_in number xs) ≡ w → cond b (Some (spot_in x)) (where_in number (xs ++ ys)) ≡ w)
      (eqb x.reference number) (λ t f. f) (λ t f. ih f) e

  where_behind : (xs ys : List Entry) → where_in number xs ≡ None → where_in number (xs ++ ys) ≡ where_in number ys
  where_behind [] ys e = refl
  where_behind (x ∷ xs) ys e =
      let ih : where_in number xs ≡ None → where_in number (xs ++ ys) ≡ where_in number ys = λ f. where_behind xs ys f in
      by_bool (λ b. cond b (Some (spot_in x)) (where_in number xs) ≡ None → cond b (Some (spot_in x)) (where_in number (xs ++ ys)) ≡ where_in number ys)
      (eqb x.reference number) (λ t f. let z : ◌≡◌ {A = ℕ} 0 1 = cc in absurd (omega arith)) (λ t f. ih f) e

  module _ (f : ℕ → List Entry) (n slot : ℕ) (h : slot < n) where
    next_slot : up_from slot (n - slot) ≡ slot ∷ up_from (slot + 1) (n - (slot + 1))
    next_slot =
        let e : n - slot ≡ suc (n - (slot + 1)) = omega arith in
        rw (e, add-one slot)

    pub slot_here : (w : Option Place) → where_in number (f slot) ≡ w → (w ≡ None → ⊥) → where_in number (join f (up_from slot (n - slot))) ≡ w
    slot_here w e some = ap (λ l. where_in number (join f l)) next_slot ∙ where_there (f slot) (join f (up_from (slot + 1) (n - (slot + 1)))) w e some

    pub slot_further : where_in number (f slot) ≡ None
        → where_in number (join f (up_from (slot + 1) (n - (slot + 1)))) ≡ where_in number (join f (up_from slot (n - slot)))
    slot_further e =
        sym (ap (λ l. where_in number (join f l)) next_slot ∙ where_behind (f slot) (join f (up_from (slot + 1) (n - (slot + 1)))) e)

-- ---- by the case of the answer

pub somewhere : (w : Option Place) (p : Place) → w ≡ Some p → w ≡ None → ⊥
somewhere w p e n = let z : ◌≡◌ {A = ℕ} 0 1 = cc in absurd (omega arith)

-- from slot to slot; nothing of it is computed
abbrev pub StandsFrom : Words → ℕ → ℕ → Type 0
StandsFrom ws number slot = where_in number (join (leaf_entries ws) (up_from slot (SLOTS - slot))) ≡ where_of ws number

pub stands_start : (ws : Words) (number : ℕ) → StandsFrom ws number 0
unfolding where_of
stands_start ws number = refl
