-- Loops over the entries of a node: the tests of those that it holds, and where the children of a node above lie. Assumes nothing.
use Prim.Native.Nat.{ℕ, suc, ◌+◌, ◌≤◌, ◌<◌}
use native.Mathlib.Numerals.{add-one}
use mathlib.Core.Path.{◌≡◌, ap, ◌∙◌}
use mathlib.Core.Bool.{true}
use mathlib.Core.List.{List, [], ◌∷◌, ◌++◌, map-append}
use borrow.Author.Tests.{ltb-true, leb-true}
use lib.Dec.{leb, ltb}
use lib.ListN.{length, get_or, take, drop}
use lib.Seq.{take-suc, split_at}
use Rattle.order.specs.Lists.{every, All}
use Rattle.order.proofs.Lists.{all_mem, mem_all, and_left, and_right}
use Rattle.table.specs.declared.node.Entry.{Entry}
use Rattle.figures.specs.Figures.{SLOTS, HIGHEST}
use Rattle.table.specs.Words.{Words, between}
use Rattle.table.specs.Page.{blank_entry}
use Rattle.table.specs.Slots.{entries_at}
use Rattle.table.specs.Stations.{is_point}
use Rattle.rules.specs.Rules.{is_above, is_child, rule5}
use Rattle.rules.proofs.Tests.{every_all}
use Rattle.audit.specs.Seen.{refs_of}

-- ---- the children of a node above are slots of the table

module _ (ws : Words) (s : ℕ) (above : is_above ws s ≡ true) (rule : rule5 ws s ≡ true) where
  pub children_inside : All (λ e. e.reference < SLOTS) (entries_at ws s)
  unfolding rule5
  children_inside =
      let e : every (is_child ws s) (entries_at ws s) ≡ true = rw above at rule in
      let a = every_all (is_child ws s) (entries_at ws s) e in
      all_mem (λ e. e.reference < SLOTS) (entries_at ws s)
      (λ x m.
      let r = x.reference in
      ltb-true r SLOTS
      (and_left (ltb r SLOTS) _ (mem_all (λ x. is_child ws s x ≡ true) (entries_at ws s) a m)))

-- ---- the references of the entries passed

pub refs_more : (es : List Entry) (i : ℕ) → i < length es → refs_of (take (i + 1) es) ≡ refs_of (take i es) ++ (get_or es i blank_entry).reference ∷ []
refs_more es i h =
    ap (λ k. refs_of (take k es)) (add-one i) ∙ ap refs_of (take-suc es i blank_entry h) ∙ map-append (λ e. e.reference) (take i es) (get_or es i blank_entry ∷ [])

-- those passed, the next one, and the rest
pub refs_split : (es : List Entry) (i : ℕ) → i < length es → refs_of es ≡ refs_of (take i es) ++ (get_or es i blank_entry).reference ∷ refs_of (drop (suc i) es)
refs_split es i h =
    ap refs_of (split_at es i blank_entry h) ∙ map-append (λ e. e.reference) (take i es) (get_or es i blank_entry ∷ drop (suc i) es)

-- a point's number is one of the map's
pub number_low : (e : Entry) → is_point e ≡ true → e.reference ≤ HIGHEST
number_low e p =
    let r = e.reference in
    leb-true r HIGHEST (and_right (leb 1 r) (leb r HIGHEST) (and_left (between 1 HIGHEST r) _ p))
