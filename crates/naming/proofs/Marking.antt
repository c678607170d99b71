-- The marks of the others among some points: of points joined or permuted, and of the points in a box that lies further away than the last of the best. What the best are after the first of a node's entries. Assumes nothing.
use Prim.Native.Nat.{ℕ, suc, ◌+◌, ◌-◌, ◌≤◌, ◌<◌}
use native.Mathlib.Omega.{arith}
use native.Mathlib.Numerals.{add-one}
use mathlib.Core.Path.{◌≡◌, refl, sym, ap, subst, ◌∙◌}
use mathlib.Core.List.{List, [], ◌∷◌, ◌++◌, map, map-append, append-nil}
use lib.ListN.{length, take, drop, get_or, length-append, take-append-drop}
use lib.Seq.{take-suc, take_all, drop-cons}
use borrow.Author.Tests.{eq-eqb, ne_eqb}
use Rattle.grid.specs.declared.place.Place.{Place}
use Rattle.grid.specs.Place.{Inside, dist², least_square}
use Rattle.grid.proofs.Rects.{dist_sym, least_square_least}
use Rattle.order.specs.Lists.{filter, join, All, Pairwise, Rises}
use Rattle.order.specs.Order.{Perm, least}
use Rattle.order.proofs.Perm.{perm_map}
use Rattle.order.proofs.Order.{sort_perm}
use Rattle.order.proofs.Lists.{join_append, perm_join, perm_count, all_map, all_then, all_both, all_drop, all_perm, all_mem, mem_all, filter_mem, count_append}
use Rattle.order.proofs.Pairwise.{pairwise_drop, sort_rises}
use Rattle.order.proofs.Least.{up_to, rises_last, least_rises, least_length, least_same, least_row, least_more, least_beyond}
use Rattle.table.specs.declared.node.Entry.{Entry}
use Rattle.rules.proofs.Joined.{all_join}
use Rattle.filter.specs.Walk.{spot_in, nearest_first}
use Rattle.filter.proofs.Taken.{taken_length}
use Rattle.filter.proofs.Rising.{filter_append, perm_filter}
use Rattle.naming.specs.Holders.{mark_of, square_in, mark_from, is_another, marks_of}

module _ (number : ℕ) (p : Place) where
  pub marks_none : marks_of number p [] ≡ []
  unfolding marks_of
  marks_none = refl

  pub marks_append : (xs ys : List Entry) → marks_of number p (xs ++ ys) ≡ marks_of number p xs ++ marks_of number p ys
  unfolding marks_of
  marks_append xs ys =
      ap (map (mark_from p)) (filter_append (is_another number) xs ys)
      ∙ map-append (mark_from p) (filter (is_another number) xs) (filter (is_another number) ys)

  -- the station itself has none
  pub marks_itself : (e : Entry) → e.reference ≡ number → marks_of number p (e ∷ []) ≡ []
  unfolding marks_of
  marks_itself e h = rw (eq-eqb e.reference number h)

  pub marks_other : (e : Entry) → (e.reference ≡ number → ⊥) → marks_of number p (e ∷ []) ≡ mark_of (dist² (spot_in e) p) e.reference ∷ []
  unfolding marks_of mark_from
  marks_other e h = rw (ne_eqb e.reference number h)

  -- points in another order have the same best
  pub least_perm : (k : ℕ) {xs ys : List Entry} (row : List ℕ) → Perm xs ys → least k (marks_of number p xs ++ row) ≡ least k (marks_of number p ys ++ row)
  unfolding marks_of
  least_perm k {xs} {ys} row perm =
      let same = perm_count (perm_map (mark_from p) (perm_filter (is_another number) perm)) in
      let ms = map (mark_from p) (filter (is_another number) xs) in
      let ns = map (mark_from p) (filter (is_another number) ys) in
      least_same k (ms ++ row) (ns ++ row) (λ v. omega (arith, same (up_to v), count_append (up_to v) ms row, count_append (up_to v) ns row))

  -- points further away than the last
  marks_beyond : (es : List Entry) (last : ℕ) → All (λ c. square_in last < dist² (spot_in c) p) es → All (λ m. last ≤ m) (marks_of number p es)
  unfolding marks_of mark_from
  marks_beyond es last far =
      all_map (λ m. last ≤ m) (mark_from p) (filter (is_another number) es)
      (all_mem (λ c. last ≤ mark_from p c) (filter (is_another number) es)
      (λ c m. let h = mem_all (λ c. square_in last < dist² (spot_in c) p) es far (filter_mem (is_another number) es m).0 in omega arith))

-- ---- the best after the first of a node's entries: S has the points below an entry

module _ (number : ℕ) (p : Place) (S : Entry → List Entry) (xs : List Entry) (row : List ℕ) where
  abbrev first : ℕ → List ℕ
  first i = marks_of number p (join S (take i xs))

  abbrev pub SoFar : ℕ → List ℕ → Type 0
  SoFar i best = best ≡ least (length row) (first i ++ row)

  first_next : (i : ℕ) (d : Entry) → i < length xs → first (i + 1) ≡ first i ++ marks_of number p (S (get_or xs i d))
  first_next i d h =
      ap (λ (n : ℕ). first n) (add-one i)
      ∙ ap (λ l. marks_of number p (join S l)) (take-suc xs i d h)
      ∙ ap (marks_of number p) (join_append S (take i xs) (get_or xs i d ∷ []))
      ∙ marks_append number p (join S (take i xs)) (join S (get_or xs i d ∷ []))
      ∙ ap (λ l. first i ++ marks_of number p l) (append-nil (S (get_or xs i d)))

  pub sofar_none : Rises row → SoFar 0 row
  sofar_none r = least_row (length row) row refl r ∙ ap (λ l. least (length row) (l ++ row)) (sym (marks_none number p))

  sofar_rises : (i : ℕ) (best : List ℕ) → SoFar i best → Rises best
  sofar_rises i best e = rw e (least_rises (length row) (first i ++ row))

  sofar_long : (i : ℕ) (best : List ℕ) → SoFar i best → length best ≡ length row
  sofar_long i best e = ap length e ∙ least_length (length row) (first i ++ row) ∙ omega (arith, length-append (first i) row)

  -- one entry more
  pub sofar_next : (i : ℕ) (best best' : List ℕ) (d : Entry) → i < length xs → SoFar i best
      → best' ≡ least (length best) (marks_of number p (S (get_or xs i d)) ++ best) → SoFar (i + 1) best'
  sofar_next i best best' d h e f =
      let more = marks_of number p (S (get_or xs i d)) in
      f
      ∙ ap (λ (k : ℕ). least k (more ++ best)) (sofar_long i best e)
      ∙ ap (λ l. least (length row) (more ++ l)) e
      ∙ least_more (length row) more (first i) row
      ∙ ap (λ l. least (length row) (l ++ row)) (sym (first_next i d h))

  -- a box that lies further away than the last: no point in it is nearer than the box, and the boxes behind it are no nearer
  abbrev away : Entry → ℕ
  away e = least_square e.rect p

  far_points : (es : List Entry) (last : ℕ) → All (λ e. All (λ c. Inside (spot_in c) e.rect) (S e)) es → All (λ e. square_in last < away e) es
      → All (λ c. square_in last < dist² (spot_in c) p) (join S es)
  far_points es last inside far =
      all_join (λ c. square_in last < dist² (spot_in c) p) S es
      (all_then (λ e. All (λ c. Inside (spot_in c) e.rect) (S e) × (square_in last < away e)) (λ e. All (λ c. square_in last < dist² (spot_in c) p) (S e))
      (λ e h.
      all_then (λ c. Inside (spot_in c) e.rect) (λ c. square_in last < dist² (spot_in c) p)
      (λ c i. let near : away e ≤ dist² (spot_in c) p = rw (dist_sym (spot_in c) p) (least_square_least p i) in omega (arith, h.1)) (S e) h.0)
      es (all_both (λ e. All (λ c. Inside (spot_in c) e.rect) (S e)) (λ e. square_in last < away e) es inside far))

  pub sofar_beyond : (i : ℕ) (best : List ℕ) (d : Entry) → i < length xs → SoFar i best → 0 < length row → All (λ e. All (λ c. Inside (spot_in c) e.rect) (S e)) xs
      → Pairwise (λ a b. away a ≤ away b) xs → square_in (get_or best (length best - 1) 0) < away (get_or xs i d) → best ≡ least (length row) (marks_of number p (join S xs) ++ row)
  sofar_beyond i best d h e some inside rises far =
      let last = get_or best (length best - 1) 0 in
      let below = rises_last best (length best - 1) (omega (arith, sofar_long i best e)) (sofar_rises i best e) in
      let rest = drop i xs in
      let here : rest ≡ get_or xs i d ∷ drop (suc i) xs = drop-cons xs i d h in
      let lies : Pairwise (λ a b. away a ≤ away b) (get_or xs i d ∷ drop (suc i) xs) = subst (Pairwise (λ a b. away a ≤ away b)) here (pairwise_drop (λ a b. away a ≤ away b) i xs rises) in
      let all-far : All (λ e. square_in last < away e) rest =
      rw here (far, all_then (λ b. away (get_or xs i d) ≤ away b) (λ b. square_in last < away b) (λ b l. omega arith) (drop (suc i) xs) lies.0) in
      let more = marks_of number p (join S rest) in
      e
      ∙ least_beyond (length row) more (first i) row (omega arith) last (subst (λ l. All (λ n. n ≤ last) l) e below)
      (marks_beyond number p (join S rest) last (far_points rest last (all_drop (λ e. All (λ c. Inside (spot_in c) e.rect) (S e)) i xs inside) all-far))
      ∙ ap (λ l. least (length row) (l ++ row))
      (sym (marks_append number p (join S (take i xs)) (join S rest)) ∙ ap (marks_of number p) (sym (join_append S (take i xs) rest) ∙ ap (join S) (take-append-drop i xs)))

  pub sofar_all : (i : ℕ) (best : List ℕ) → length xs ≤ i → SoFar i best → best ≡ least (length row) (marks_of number p (join S xs) ++ row)
  sofar_all i best h e = e ∙ ap (λ l. least (length row) (marks_of number p (join S l) ++ row)) (take_all i xs h)

-- all of a node's entries, nearest first
module _ (number : ℕ) (p : Place) (S : Entry → List Entry) (es : List Entry) (row : List ℕ) where
  first_perm : Perm (nearest_first p 0 es) es
  unfolding nearest_first
  first_perm = sort_perm (λ e. least_square e.rect p) es

  first_rises : Pairwise (λ a b. least_square a.rect p ≤ least_square b.rect p) (nearest_first p 0 es)
  unfolding nearest_first
  first_rises = sort_rises (λ e. least_square e.rect p) es

  -- the first that lies beyond ends it
  pub sofar_ends : (i : ℕ) (best : List ℕ) (d : Entry) → i < length es → SoFar number p S (nearest_first p 0 es) row i best → 0 < length row → All (λ e. All (λ c. Inside (spot_in c) e.rect) (S e)) es
      → square_in (get_or best (length best - 1) 0) < least_square (get_or (nearest_first p 0 es) i d).rect p → best ≡ least (length row) (marks_of number p (join S es) ++ row)
  sofar_ends i best d h e some inside far =
      sofar_beyond number p S (nearest_first p 0 es) row i best d (omega (arith, taken_length es p 0)) e some
      (all_perm (λ e. All (λ c. Inside (spot_in c) e.rect) (S e)) first_perm inside) first_rises far
      ∙ least_perm number p (length row) row (perm_join S first_perm)

  pub sofar_node : (i : ℕ) (best : List ℕ) → length es ≤ i → SoFar number p S (nearest_first p 0 es) row i best
      → best ≡ least (length row) (marks_of number p (join S es) ++ row)
  sofar_node i best h e =
      sofar_all number p S (nearest_first p 0 es) row i best (omega (arith, taken_length es p 0)) e
      ∙ least_perm number p (length row) row (perm_join S first_perm)
