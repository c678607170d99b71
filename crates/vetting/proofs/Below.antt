-- The final test down the tree: what has been found in the first of a node's entries, boxes that hold no point as near, and the points below a slot, which in a stored tree are its leaves. Assumes nothing.
use Prim.Native.Nat.{ℕ, zero, suc, ◌+◌, ◌-◌, ◌≤◌, ◌<◌, min}
use native.Mathlib.Numerals.{add-one}
use native.Mathlib.Omega.{arith}
use mathlib.Core.Path.{◌≡◌, refl, ap, ◌∙◌}
use mathlib.Core.Bool.{Bool, false, not, true}
use mathlib.Core.List.{List, [], ◌∷◌, append-nil}
use lib.Dec.{eqb}
use lib.ListN.{length, take, drop, get_or, take-append-drop}
use lib.Seq.{take-suc, take_all}
use Rattle.grid.specs.declared.place.Place.{Place}
use Rattle.grid.specs.declared.rect.Rect.{Rect}
use Rattle.grid.specs.Place.{Inside, dist², least_square}
use Rattle.grid.specs.AsNear.{as_near}
use Rattle.grid.proofs.Rects.{dist_sym, least_square_least}
use Rattle.grid.proofs.AsNear.{far_more}
use Rattle.order.specs.Lists.{count, join, All}
use Rattle.order.proofs.Lists.{count_append, join_append, all_mem, all_at, perm_count, all_then, all_map}
use Rattle.table.specs.declared.node.Entry.{Entry}
use Rattle.figures.specs.Figures.{LEAST, LENGTH}
use Rattle.table.specs.Words.{Words, root_of}
use Rattle.table.specs.Page.{blank_entry}
use Rattle.table.specs.Slots.{entries_at, level_at, slots}
use Rattle.table.specs.Tree.{Tree, top_of, entry_of_tree, leaves_of, Stored}
use Rattle.rules.proofs.Joined.{join_map, join_same}
use Rattle.rules.proofs.Reading.{Good, good_child, entry_reference, stored_child, stored_entries, good_root}
use Rattle.words.specs.Word.{IsWord}
use Rattle.rules.specs.Rules.{well_formed, is_empty, leaf_entries}
use Rattle.rules.proofs.WellFormed.{Held}
use Rattle.rules.proofs.Complete.{leaves_perm}
use Rattle.rules.proofs.Held.{held_complete}
use Rattle.filter.specs.Walk.{spot_in}
use Rattle.filter.specs.Passable.{Passable}
use Rattle.vetting.specs.Test.{other_as_near, below, Boxed}
use Rattle.filter.proofs.Meaning.{and_false, count_none}
use Rattle.filter.proofs.Steps.{leaf_inside}
use Rattle.filter.proofs.NodeTurns.{by_pred, passable_above, IsChild}
use Rattle.filter.proofs.Opening.{held, at_level, at_root}

-- ---- counted over the first of a list, `most` at most

module _ {A B : Type 0} (P : B → Bool) (S : A → List B) (xs : List A) (most : ℕ) where
  abbrev first : ℕ → ℕ
  first i = count P (join S (take i xs))

  abbrev pub SoFar : ℕ → ℕ → Type 0
  SoFar i found = found ≡ min most (first i)

  first_next : (i : ℕ) (d : A) → i < length xs → first (i + 1) ≡ first i + count P (S (get_or xs i d))
  first_next i d h =
      ap (λ (n : ℕ). first n) (add-one i)
      ∙ ap (λ l. count P (join S l)) (take-suc xs i d h)
      ∙ ap (count P) (join_append S (take i xs) (get_or xs i d ∷ []))
      ∙ count_append P (join S (take i xs)) (join S (get_or xs i d ∷ []))
      ∙ ap (λ l. first i + count P l) (append-nil (S (get_or xs i d)))

  first_most : (i : ℕ) → first i ≤ count P (join S xs)
  first_most i =
      omega (
        arith,
        ap (λ l. count P (join S l)) (take-append-drop i xs),
        ap (count P) (join_append S (take i xs) (drop i xs)),
        count_append P (join S (take i xs)) (join S (drop i xs)),
      )

  -- one entry more
  pub sofar_next : (i found more : ℕ) (d : A) → i < length xs → found < most → SoFar i found → more ≡ min (most - found) (count P (S (get_or xs i d))) → SoFar (i + 1) (found + more)
  sofar_next i found more d h l f e = omega (arith, first_next i d h)

  -- enough are found
  pub sofar_enough : (i found : ℕ) → most ≤ found → SoFar i found → found ≡ min most (count P (join S xs))
  sofar_enough i found h f = omega (arith, first_most i)

  pub sofar_all : (i found : ℕ) → length xs ≤ i → SoFar i found → found ≡ min most (count P (join S xs))
  sofar_all i found h f = f ∙ ap (λ l. min most (count P (join S l))) (take_all i xs h)

-- ---- a box that is passed by

-- no point in it is nearer than the box
pub box_none : (number : ℕ) (p : Place) (far : ℕ) (r : Rect) (es : List Entry) → All (λ c. Inside (spot_in c) r) es → as_near (least_square r p) far ≡ false
    → count (other_as_near number p far) es ≡ 0
unfolding other_as_near
box_none number p far r es inside h =
    count_none (other_as_near number p far) es
    (all_then (λ c. Inside (spot_in c) r) (λ c. other_as_near number p far c ≡ false)
    (λ c i.
    let away : least_square r p ≤ dist² (spot_in c) p = rw (dist_sym (spot_in c) p) (least_square_least p i) in
    rw (far_more (least_square r p) (dist² (spot_in c) p) far away h) (and_false (not (eqb c.reference number)))) es inside)

-- ---- the points below a slot

module _ (ws : Words) (s : ℕ) where
  pub below_zero : (l : ℕ) → l ≡ 0 → below l ws s ≡ entries_at ws s
  below_zero zero e = refl
  below_zero (suc l) e = absurd (omega arith)

  pub below_above : (l : ℕ) → 0 < l → below l ws s ≡ join (λ e. below (l - 1) ws e.reference) (entries_at ws s)
  below_above = by_pred (λ l j. below l ws s ≡ join (λ e. below j ws e.reference) (entries_at ws s)) (λ l. refl)

-- the box of an entry holds the points below it, and so do the boxes further down
abbrev pub Box : Words → ℕ → Entry → Type 0
Box ws l e = All (λ c. Inside (spot_in c) e.rect) (below l ws e.reference) × Boxed l ws e.reference

pub boxed_above : (ws : Words) (s l : ℕ) → 0 < l → Boxed l ws s → All (Box ws (l - 1)) (entries_at ws s)
boxed_above ws s = by_pred (λ l j. Boxed l ws s → All (Box ws j) (entries_at ws s)) (λ l h. h)

-- what is known of a child, by the place of its entry
pub child_at_lem : (ws : Words) (s l : ℕ) → 0 < l → Passable l ws s → Boxed l ws s → (i : ℕ) → i < length (entries_at ws s)
    → IsChild ws (l - 1) (get_or (entries_at ws s) i blank_entry) × Box ws (l - 1) (get_or (entries_at ws s) i blank_entry)
child_at_lem ws s l up pass boxed i h =
    let es = entries_at ws s in (
      all_at (IsChild ws (l - 1)) es i blank_entry h (passable_above ws s l up pass),
      all_at (Box ws (l - 1)) es i blank_entry h (boxed_above ws s l up boxed),
    )

-- so of the entry that is read there
pub child_read : (ws : Words) (s l : ℕ) → 0 < l → Passable l ws s × Boxed l ws s → (i : ℕ) {e : Entry} → i < length (entries_at ws s) → e ≡ get_or (entries_at ws s) i blank_entry
    → IsChild ws (l - 1) e × Box ws (l - 1) e
child_read ws s l up good i h read = rw read (child_at_lem ws s l up good.0 good.1 i h)

-- ---- in a stored tree

pub below_tree : {lo : ℕ} (l : ℕ) (t : Tree l) (ws : Words) → Good lo l t → Stored l ws t → below l ws (top_of l t) ≡ leaves_of l t
below_tree zero t ws g st = stored_entries ws {t = t} g st
below_tree (suc l) t ws g st =
    let B : Entry → List Entry = λ e. below l ws e.reference in
    ap (join B) (stored_entries ws {t = t} g st)
    ∙ join_map B (entry_of_tree l) t.items
    ∙ join_same (λ c. B (entry_of_tree l c)) (leaves_of l) t.items
    (λ c m. ap (below l ws) (entry_reference l c) ∙ below_tree l c ws (good_child g m) (stored_child ws l t st m))

pub boxed_tree : {lo : ℕ} (l : ℕ) (t : Tree l) (ws : Words) → Good lo l t → Stored l ws t → Boxed l ws (top_of l t)
boxed_tree zero t ws g st = tt
boxed_tree (suc l) t ws g st =
    let child : (c : Tree l) → Good LEAST l c → Stored l ws c → Box ws l (entry_of_tree l c) = λ c h s. (
      rw (entry_reference l c, below_tree l c ws h s) (all_mem (λ e. Inside (spot_in e) (entry_of_tree l c).rect) (leaves_of l c) (leaf_inside h)),
      rw (entry_reference l c) (boxed_tree l c ws h s),
    ) in
    rw (stored_entries ws {t = t} g st)
    (all_map (Box ws l) (entry_of_tree l) t.items
    (all_mem (λ c. Box ws l (entry_of_tree l c)) t.items (λ c m. child c (good_child g m) (stored_child ws l t st m))))

-- ---- from the root of a well-formed table, and the level there

module _ (ws : Words) (long : length ws ≡ LENGTH) (fits : All IsWord ws) (w : well_formed ws ≡ true) (e : is_empty ws ≡ false) (root level : ℕ) (is_root : root ≡ root_of ws) (isLevel : level ≡ level_at ws root) where
  abbrev h : Held ws
  h = held ws long fits w e

  to_level : level ≡ h.level
  to_level = at_level ws long fits w e root level is_root isLevel

  to_root : root ≡ top_of h.level h.tree
  to_root = at_root ws long fits w e root level is_root isLevel

  pub root_boxed : Boxed level ws root
  root_boxed = rw (to_level, to_root) (boxed_tree h.level h.tree ws (good_root h.sound) h.holds.stored)

  -- the points below the root are those of all leaves
  pub root_count : (P : Entry → Bool) → count P (below level ws root) ≡ count P (join (leaf_entries ws) slots)
  root_count P =
      ap (λ (l : ℕ). count P (below l ws root)) to_level
      ∙ ap (λ (s : ℕ). count P (below h.level ws s)) to_root
      ∙ ap (count P) (below_tree h.level h.tree ws (good_root h.sound) h.holds.stored)
      ∙ perm_count (leaves_perm (held_complete h.holds h.sound)) P
