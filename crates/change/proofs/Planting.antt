-- What the words below a slot give to the code: the slot's page can be read, and each of its entries leads to a tree of the level below. Assumes nothing.
use Prim.Native.Nat.{ℕ, zero, suc, ◌<◌}
use native.Mathlib.Omega.{arith}
use mathlib.Core.Path.{◌≡◌, sym, ap, subst, ◌∙◌}
use mathlib.Core.List.{map}
use Rattle.order.specs.Lists.{All}
use Rattle.order.proofs.Lists.{all_mem, all_map}
use Rattle.table.specs.declared.node.Entry.{Entry}
use Rattle.figures.specs.Figures.{LEAST, SLOTS}
use Rattle.table.specs.Words.{Words}
use Rattle.table.specs.Page.{page}
use Rattle.table.specs.Slots.{page_at, entries_at}
use Rattle.table.specs.Tree.{Tree, Filled, entry_of_tree, entries_of_tree, least_of}
use Rattle.rules.proofs.Reading.{Good, good_child, top_inside, entry_reference, stored_page, stored_child}
use Rattle.change.specs.Planted.{Planted}

pub filled_least : (l : ℕ) (t : Tree l) → Filled LEAST l t → Filled (least_of l) l t
filled_least zero t f = (omega arith, f.1)
filled_least (suc l) t f = ((omega arith, f.0.1), f.1)

module _ {l : ℕ} {ws : Words} {s : ℕ} (p : Planted l ws s) where
  pub planted_good : Good (least_of l) l p.tree
  planted_good = record { low = p.low; fill = p.fill; apart = p.apart; inside = p.inside; points = p.points }

  pub planted_inside : s < SLOTS
  planted_inside = subst (λ o. o < SLOTS) p.top (top_inside planted_good)

  pub planted_page : page_at ws s ≡ page l (entries_of_tree l p.tree)
  planted_page = ap (page_at ws) (sym p.top) ∙ stored_page ws planted_good p.stored

pub planted_below : (l : ℕ) (ws : Words) (s : ℕ) → Planted (suc l) ws s → All (λ e. Planted l ws e.reference) (entries_at ws s)
planted_below l ws s p =
    let t = p.tree in
    let Q : Entry → Type 0 = λ e. Planted l ws e.reference in
    let a : All Q (map (entry_of_tree l) t.items) =
    all_map Q (entry_of_tree l) t.items
    (all_mem (λ c. Q (entry_of_tree l c)) t.items
    (λ c m.
    let g = good_child (planted_good p) m in
    record {
      tree = c;
      top = sym (entry_reference l c);
      long = p.long;
      low = g.low;
      fill = filled_least l c g.fill;
      apart = g.apart;
      inside = g.inside;
      points = g.points;
      stored = stored_child ws l t p.stored m;
    })) in
    subst (All Q) (sym (ap (λ q. q.entries) (planted_page p))) a
