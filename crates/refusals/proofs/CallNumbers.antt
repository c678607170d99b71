-- Whether a number is enrolled: the points of a slot have the numbers of its leaf entries, and the search for a number goes through those. Assumes nothing.
use Prim.Native.Nat.{ℕ, ◌+◌, ◌*◌}
use mathlib.Core.Path.{◌≡◌, refl, sym, ap, ◌∙◌}
use mathlib.Core.Bool.{Bool, true, false, cond, ◌||◌}
use mathlib.Core.List.{List, [], ◌∷◌, map}
use lib.Dec.{eqb}
use borrow.Author.Tests.{eqb-true, eqb-false, eq-eqb, ne_eqb}
use Rattle.std.specs.Prelude.{ℤ, Option, Some}
use Rattle.std.specs.Option.{is_some}
use Rattle.words.specs.Word.{nat_of}
use Rattle.grid.specs.declared.place.Place.{Place}
use Rattle.order.specs.Lists.{has, join}
use Rattle.order.specs.Order.{up_from}
use Rattle.order.proofs.Lists.{by_bool}
use Rattle.figures.specs.Figures.{ENTRY}
use Rattle.table.specs.declared.node.Entry.{Entry}
use Rattle.table.specs.Words.{Words, word, part_at}
use Rattle.table.specs.Page.{entry_of, filled, page_of}
use Rattle.table.specs.Slots.{slots, page_at}
use Rattle.table.specs.Stations.{is_leaf, station_of, stations_at, stations}
use Rattle.rules.specs.Rules.{leaf_entries, numbers_at}
use Rattle.rules.proofs.Joined.{map_join}
use Rattle.filter.specs.Walk.{spot_in}
use Rattle.naming.specs.Named.{where_in, where_of}
use Rattle.refusals.specs.Refusals.{numbers_of, is_enrolled}

map_cond : {A B C : Type 0} (f : A → C) (g : B → C) (b : Bool) (xs : List A) (ys : List B) → map f xs ≡ map g ys
    → map f (cond b xs []) ≡ map g (cond b ys [])
map_cond f g true xs ys e = e
map_cond f g false xs ys e = refl

number_entry : (ws : Words) (is : List ℕ) → map (λ p. p.number) (map (station_of ws) is) ≡ map (λ e. e.reference) (map (entry_of ws) is)
unfolding entry_of
number_entry ws [] = refl
number_entry ws (i ∷ is) = ap (λ l. nat_of (word ws (2 + ENTRY * i)) ∷ l) (number_entry ws is)

numbers_at_lem : (ws : Words) (s : ℕ) → map (λ p. p.number) (stations_at ws s) ≡ numbers_at ws s
unfolding page_at page_of
numbers_at_lem ws s =
    let part = part_at ws s in
    let is = up_from 0 (filled part) in
    map_cond (λ p. p.number) (λ e. e.reference) (is_leaf ws s) (map (station_of part) is) (map (entry_of part) is) (number_entry part is)

-- the numbers enrolled are those of the slots
pub numbers_of_lem : (ws : Words) → numbers_of ws ≡ join (numbers_at ws) slots
unfolding stations
numbers_of_lem ws = map_join (λ p. p.number) (stations_at ws) slots ∙ ap (λ f. join f slots) (λ i s. numbers_at_lem ws s i)

-- ---- the one search for a number tells whether it is enrolled

module _ (n : ℕ) where
  where_is : (es : List Entry) → is_some (where_in n es) ≡ has n (map (λ e. e.reference) es)
  where_is [] = refl
  where_is (x ∷ xs) =
      let ih : is_some (where_in n xs) ≡ has n (map (λ e. e.reference) xs) = where_is xs in
      by_bool (λ b. eqb x.reference n ≡ b → is_some (cond b (Some (spot_in x)) (where_in n xs)) ≡ (eqb n x.reference || has n (map (λ e. e.reference) xs)))
      (eqb x.reference n)
      (λ t e. rw (eq-eqb n x.reference (sym (eqb-true x.reference n e))))
      (λ t e. rw (ne_eqb n x.reference (λ s. eqb-false x.reference n e (sym s))) ih)
      refl

  module _ (ws : Words) where
    by_leaves : numbers_of ws ≡ map (λ e. e.reference) (join (leaf_entries ws) slots)
    by_leaves = numbers_of_lem ws ∙ sym (map_join (λ e. e.reference) (leaf_entries ws) slots)

    stands_told : is_some (where_of ws n) ≡ has n (numbers_of ws)
    unfolding where_of
    stands_told = where_is (join (leaf_entries ws) slots) ∙ ap (has n) (sym by_leaves)

pub enrolled_told : (ws : Words) (n : ℤ) {m : ℕ} {r : Option Place} → m ≡ nat_of n → r ≡ where_of ws m → is_some r ≡ is_enrolled ws n
enrolled_told ws n {m} i e = ap is_some e ∙ stands_told m ws ∙ ap (λ k. has k (numbers_of ws)) i
