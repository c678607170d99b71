-- 02 §2: who joins with a number above all others is named exactly on the cards of the stations for which fewer than k others are as near as it or nearer. Assumes nothing.
use Prim.Native.Nat.{ℕ, ◌+◌, ◌≤◌, ◌<◌}
use native.Mathlib.Omega.{arith}
use mathlib.Core.Path.{◌≡◌, refl, sym, ap, ◌∙◌}
use mathlib.Core.Logic.{⊎_elim}
use mathlib.Core.Bool.{Bool, true, false, not, ◌&&◌, true≢false}
use mathlib.Core.List.Memᴰ
use mathlib.Core.List.{List, map}
use lib.Dec.{eqb}
use lib.ListN.{length, take, drop, length-take, length-append, take-append-drop}
use borrow.Author.Tests.{eq-eqb, ne_eqb, lt-ltb, ltb-true}
use Rattle.grid.specs.Site.{distance²}
use Rattle.grid.specs.AsNear.{as_near}
use Rattle.grid.proofs.AsNear.{no_further, far_below}
use Rattle.order.specs.Lists.{one, count, has, Mem}
use Rattle.order.proofs.Perm.{psym, perm_mem}
use Rattle.order.proofs.Lists.{
  by_bool,
  count_append,
  count_same,
  count_filter,
  count_less,
  count_all,
  perm_count,
  filter_mem,
  mem_all,
  all_mem,
  has_mem,
  nodup_one,
}
use Rattle.rules.proofs.EachNew.{mem_has}
use Rattle.rules.proofs.Joined.{nodup_apart}
use Rattle.table.specs.Stations.{Station}
use Rattle.filter.specs.Meaning.{is_other, as_near_other, answers_to}
use Rattle.filter.proofs.Meaning.{count_none, and_false}
use Rattle.card.specs.Card.{in_card_order, card_of, names_of}
use Rattle.card.specs.Laws.{Newcomer}
use Rattle.card.proofs.Lines.{order_perm, split, behind, named, unnamed, cut_once}

module _ (all more : List Station) (new p : Station) (h : Newcomer all more new) (enrolled : Mem p all) where
  abbrev away : Station → ℕ
  away c = distance² c.site p.site

  -- another than the newcomer, as near to p as it is, or nearer
  abbrev before : Station → Bool
  before c = not (eqb c.number new.number) && as_near (away c) (away new)

  lower : (c : Station) → Mem c all → c.number < new.number
  lower c m = mem_all (λ c. c.number < new.number) all h.above m

  -- the others before it on the card are those that the query at its place counts
  abbrev xs : List Station
  xs = in_card_order more p

  new_not : before new ≡ false
  new_not = rw (eq-eqb new.number new.number refl)

  counted : (c : Station) → Mem c all → (is_other p c && before c) ≡ as_near_other new.site p c
  unfolding as_near_other
  counted c m = rw (ne_eqb c.number new.number (λ e. omega (arith, lower c m, e)))

  same_count : count before xs ≡ count (as_near_other new.site p) all
  same_count =
      let Q : Station → Bool = λ c. is_other p c && before c in
      let none : Q new ≡ false = ap (λ b. is_other p new && b) new_not ∙ and_false (is_other p new) in
      perm_count (order_perm more p) before
      ∙ count_filter before (is_other p) more
      ∙ perm_count h.joined Q
      ∙ omega (arith, ap one none, count_same Q (as_near_other new.site p) all (all_mem (λ c. Q c ≡ as_near_other new.site p c) all counted))

  in_more : Mem new more
  in_more = perm_mem (psym h.joined) (Memᴰ.head refl)

  new_other : is_other p new ≡ true
  new_other = rw (ne_eqb new.number p.number (λ e. omega (arith, lower p enrolled, e)))

  module _ (k : ℕ) where
    abbrev front : List Station
    front = take k xs

    abbrev rest : List Station
    rest = drop k xs

    two_parts : count before xs ≡ count before front + count before rest
    two_parts = ap (count before) (sym (take-append-drop k xs)) ∙ count_append before front rest

    enrolled_more : (c : Station) → Mem c rest → Mem c more
    enrolled_more c m = (filter_mem (is_other p) more (perm_mem (split more p k) (Memᴰ.append_right front m))).0

    -- named: whoever stands behind it on the card is further away
    on_card : Mem new.number (names_of more p k) → Mem new front
    unfolding names_of card_of
    on_card m =
        let c = Memᴰ.of_map (λ c. c.number) front m in
        let there = (filter_mem (is_other p) more (perm_mem (split more p k) (Memᴰ.append_left rest c.1))).0 in
        Memᴰ.cast (nodup_one (λ c. c.number) more h.once in_more there (sym c.2)) c.1

    further : Mem new front → (e : Station) → Mem e rest → before e ≡ false
    unfolding card_of
    further f e m =
        let apart : (e.number ≡ new.number) → ⊥ = λ s. nodup_apart (map (λ c. c.number) front) (map (λ c. c.number) rest) (cut_once more p k h.once) (Memᴰ.map (λ c. c.number) f) (Memᴰ.cast (sym s) (Memᴰ.map (λ c. c.number) m)) in
        let old : Mem e all = ⊎_elim (λ s. absurd (apart (ap (λ c. c.number) s))) (λ o. o) (Memᴰ.cases_cons (perm_mem h.joined (enrolled_more e m))) in
        let far : away new < away e = ⊎_elim (λ l. l) (λ l. absurd (omega (arith, lower e old))) (behind more p k e new m f) in
        ap (λ b. not (eqb e.number new.number) && b) (far_below (away e) (away new) far) ∙ and_false (not (eqb e.number new.number))

    pub named_answers : Mem new.number (names_of more p k) → answers_to all new.site k p ≡ true
    unfolding answers_to
    named_answers m =
        let f = on_card m in
        lt-ltb (count (as_near_other new.site p) all) k
        (omega (
          arith,
          same_count,
          two_parts,
          count_less before front f new_not,
          length-take k xs,
          count_none before rest (all_mem (λ e. before e ≡ false) rest (further f)),
        ))

    -- not named: whoever is named is as near or nearer
    named_before : (Mem new.number (names_of more p k) → ⊥) → (d : Station) → Mem d front → before d ≡ true
    unfolding card_of
    named_before out d m =
        let apart : (d.number ≡ new.number) → ⊥ = λ s. out (Memᴰ.cast (sym s) (named more p k d m)) in
        let no_more : away d ≤ away new = ⊎_elim (λ l. omega arith) (λ l. omega arith) (behind more p k new d (unnamed more p k new in_more new_other out) m) in
        rw (ne_eqb d.number new.number apart) (no_further (away d) (away new) no_more)

    crowded : (Mem new.number (names_of more p k) → ⊥) → k ≤ count (as_near_other new.site p) all
    crowded out =
        let left = count_less (λ c. false) rest (unnamed more p k new in_more new_other out) refl in
        omega (
          arith,
          same_count,
          two_parts,
          left,
          count_all before front (all_mem (λ d. before d ≡ true) front (named_before out)),
          length-take k xs,
          ap length (take-append-drop k xs),
          length-append front rest,
        )

    pub answers_named : answers_to all new.site k p ≡ true → Mem new.number (names_of more p k)
    unfolding answers_to
    answers_named a =
        by_bool (λ b. has new.number (names_of more p k) ≡ b → Mem new.number (names_of more p k)) (has new.number (names_of more p k))
        (λ t e. has_mem new.number (names_of more p k) e)
        (λ t e.
        let few = ltb-true (count (as_near_other new.site p) all) k a in
        absurd (omega (arith, few, crowded (λ m. true≢false (sym (mem_has (names_of more p k) m) ∙ e)))))
        refl
