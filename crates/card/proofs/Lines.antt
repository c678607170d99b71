-- The laws of a card: all others lie in card order, the card is the front of them. Assumes nothing.
use Prim.Native.Nat.{ℕ, min}
use native.Mathlib.Nat.{eq-or-lt_of_le}
use mathlib.Core.Path.{◌≡◌, sym, ap, subst, ◌∙◌}
use mathlib.Core.Logic.{inl, inr, ⊎_elim}
use mathlib.Core.Bool.{Bool, true, cond, true≢false}
use mathlib.Core.List.Memᴰ
use mathlib.Core.List.{List, map, [], ◌∷◌, ◌++◌, map-append}
use lib.ListN.{length, take, drop, length-take, take-append-drop}
use borrow.Author.Tests.{eq-eqb, not-true}
use Rattle.grid.specs.Site.{distance²}
use Rattle.order.specs.Lists.{count, filter, Mem, NoDup, All, Pairwise}
use Rattle.order.specs.Order.{sort_by, Perm, ptrans}
use Rattle.order.proofs.Perm.{psym, perm_length, perm_mem, perm_map}
use Rattle.order.proofs.Lists.{by_bool, length_filter, filter_mem, mem_filter, mem_all, perm_nodup}
use Rattle.order.proofs.Order.{sort_perm}
use Rattle.order.proofs.Pairwise.{pairwise_cut, InLine, sort_line, sort_rises}
use Rattle.rules.proofs.Joined.{nodup_left}
use Rattle.table.specs.Stations.{Station}
use Rattle.filter.specs.Meaning.{is_other}
use Rattle.card.specs.Card.{in_card_order, card_of, names_of}
use Rattle.card.specs.Laws.{Before, AnyCard}

-- what a filter keeps of a list in which no number stands twice
nodup_filter : {A B : Type 0} (f : A → B) (P : A → Bool) (xs : List A) → NoDup (map f xs) → NoDup (map f (filter P xs))
nodup_filter f P [] d = tt
nodup_filter {A} {B} f P (x ∷ xs) d =
    let ih = nodup_filter f P xs d.1 in
    let fewer : Mem (f x) (map f (filter P xs)) → ⊥ = λ m.
    let y = Memᴰ.of_map f (filter P xs) m in
    d.0 (subst (λ b. Mem b (map f xs)) y.2 (Memᴰ.map f (filter_mem P xs y.1).0)) in
    by_bool (λ b. NoDup (map f (cond b (x ∷ filter P xs) (filter P xs)))) (P x) (λ e. (fewer, ih)) (λ e. ih)

module _ (all : List Station) (p : Station) where
  abbrev away : Station → ℕ
  away c = distance² c.site p.site

  abbrev number : Station → ℕ
  number c = c.number

  -- the same stations
  pub order_perm : Perm (in_card_order all p) (filter (is_other p) all)
  unfolding in_card_order
  order_perm = ptrans (sort_perm away (sort_by number (filter (is_other p) all))) (sort_perm number (filter (is_other p) all))

  -- by distance, and where that is equal by number
  pub in_line : Pairwise (InLine away number) (in_card_order all p)
  unfolding in_card_order
  in_line = sort_line away number (sort_by number (filter (is_other p) all)) (sort_rises number (filter (is_other p) all))

  module _ (k : ℕ) where
    card_long : length (card_of all p k) ≡ min k (count (is_other p) all)
    unfolding card_of
    card_long =
        length-take k (in_card_order all p)
        ∙ ap (λ (n : ℕ). min k n) (perm_length order_perm ∙ length_filter (is_other p) all)

    -- the front of all others, and the rest of them
    pub split : Perm (take k (in_card_order all p) ++ drop k (in_card_order all p)) (filter (is_other p) all)
    split = rw (take-append-drop k (in_card_order all p)) order_perm

    on_card : (c : Station) → Mem c (card_of all p k) → Mem c (filter (is_other p) all)
    unfolding card_of
    on_card c m = perm_mem split (Memᴰ.append_left (drop k (in_card_order all p)) m)

    pub named : (c : Station) → Mem c (card_of all p k) → Mem c.number (names_of all p k)
    unfolding names_of
    named c m = Memᴰ.map number m

    not_itself : Mem p.number (names_of all p k) → ⊥
    unfolding names_of
    not_itself m =
        let c = Memᴰ.of_map number (card_of all p k) m in
        let other = (filter_mem (is_other p) all (on_card c.0 c.1)).1 in
        let same = eq-eqb c.0.number p.number c.2 in
        true≢false (sym same ∙ not-true _ other)

    -- no number stands twice, before the cut and behind it
    pub cut_once : NoDup (map number all) → NoDup (map number (take k (in_card_order all p)) ++ map number (drop k (in_card_order all p)))
    cut_once d =
        rw (← map-append number (take k (in_card_order all p)) (drop k (in_card_order all p)))
        (perm_nodup (psym (perm_map number split)) (nodup_filter number (is_other p) all d))

    none_twice_lem : NoDup (map number all) → NoDup (names_of all p k)
    unfolding names_of card_of
    none_twice_lem d = nodup_left (map number (take k (in_card_order all p))) (map number (drop k (in_card_order all p))) (cut_once d)

    pub behind : (c d : Station) → Mem c (drop k (in_card_order all p)) → Mem d (card_of all p k) → InLine away number d c
    unfolding card_of
    behind c d mc md =
        let xs = in_card_order all p in
        let cut = mem_all (λ x. All (InLine away number x) (drop k xs)) (take k xs) (pairwise_cut (InLine away number) k xs in_line) md in
        mem_all (InLine away number d) (drop k xs) cut mc

    pub unnamed : (c : Station) → Mem c all → is_other p c ≡ true → (Mem c.number (names_of all p k) → ⊥) → Mem c (drop k (in_card_order all p))
    unfolding card_of
    unnamed c m o not_there =
        ⊎_elim (λ front. absurd (not_there (named c front))) (λ rest. rest)
        (Memᴰ.append_cases (take k (in_card_order all p)) (perm_mem (psym split) (mem_filter (is_other p) all m o)))

    others_behind : (c : Station) → Mem c all → is_other p c ≡ true → (Mem c.number (names_of all p k) → ⊥)
        → (d : Station) → Mem d (card_of all p k) → Before p d c
    others_behind c m o not_there d md =
        ⊎_elim inl
        (λ e.
        let apart : (d.number ≡ c.number) → ⊥ = λ s. not_there (subst (λ n. Mem n (names_of all p k)) s (named d md)) in
        ⊎_elim (λ s. absurd (apart s)) (λ l. inr (e.0, l)) (eq-or-lt_of_le e.1))
        (behind c d (unnamed c m o not_there) md)

pub any_card : AnyCard
any_card all p k = record {
  long = card_long all p k;
  enrolled = λ c m. (filter_mem (is_other p) all (on_card all p k c m)).0;
  not_itself = not_itself all p k;
  none_twice = none_twice_lem all p k;
  others = others_behind all p k;
}
