-- Laws of the order and the two shares of more than eight entries: they are the same entries in another order, the shares have half each, and a map into entries goes through. Each follows from the laws of the stable order. Assumes nothing.
use Prim.Native.Nat.{ℕ, zero, suc, ◌-◌, ◌/◌}
use native.Mathlib.Omega.{arith}
use mathlib.Core.Path.{◌≡◌, refl, sym}
use mathlib.Core.List.{List, [], ◌∷◌, ◌++◌, map, map-id}
use lib.ListN.{length, take, drop, length-take, length-drop, length-map, take-append-drop}
use Rattle.grid.specs.Place.{longer_axis, sum_on}
use Rattle.order.specs.Lists.{All}
use Rattle.order.specs.Order.{Perm, sort_by}
use Rattle.order.proofs.Perm.{perm_length}
use Rattle.order.proofs.Lists.{map_take, all_perm, all_take, all_drop}
use Rattle.order.proofs.Order.{sort_perm, sort_map}
use Rattle.table.specs.declared.node.Entry.{Entry}
use Rattle.table.specs.Page.{cover_of}
use Rattle.change.specs.Share.{lined, first_share, other_share}

-- ---- maps of a part of a list

pub map_drop : {A B : Type 0} (f : A → B) (n : ℕ) (xs : List A) → map f (drop n xs) ≡ drop n (map f xs)
map_drop f zero xs = refl
map_drop f (suc n) [] = refl
map_drop f (suc n) (x ∷ xs) = map_drop f n xs

-- ---- the shares of anything that has an entry: points, or trees

module _ {A : Type 0} (f : A → Entry) where
  unfoldable pub lined_by : List A → List A
  lined_by xs = sort_by (λ x. sum_on (longer_axis (cover_of (map f xs))) (f x).rect) xs

  unfoldable pub first_by : List A → List A
  first_by xs = take (length xs / 2) (lined_by xs)

  unfoldable pub other_by : List A → List A
  other_by xs = drop (length xs / 2) (lined_by xs)

  pub lined_map : (xs : List A) → lined (map f xs) ≡ map f (lined_by xs)
  unfolding lined lined_by
  lined_map xs = sym (sort_map f (λ e. sum_on (longer_axis (cover_of (map f xs))) e.rect) xs)

  pub first_map : (xs : List A) → first_share (map f xs) ≡ map f (first_by xs)
  unfolding first_share first_by
  first_map xs = rw (length-map xs f, lined_map xs, map_take f)

  pub other_map : (xs : List A) → other_share (map f xs) ≡ map f (other_by xs)
  unfolding other_share other_by
  other_map xs = rw (length-map xs f, lined_map xs, map_drop f)

  pub lined_by_perm : (xs : List A) → Perm (lined_by xs) xs
  unfolding lined_by
  lined_by_perm xs = sort_perm (λ x. sum_on (longer_axis (cover_of (map f xs))) (f x).rect) xs

  -- the two shares are all of it
  pub share_by_perm : (xs : List A) → Perm (first_by xs ++ other_by xs) xs
  unfolding first_by other_by
  share_by_perm xs = rw take-append-drop (lined_by_perm xs)

  pub first_by_length : (xs : List A) → length (first_by xs) ≡ length xs / 2
  unfolding first_by
  first_by_length xs = omega (arith, length-take (length xs / 2) (lined_by xs), perm_length (lined_by_perm xs))

  pub other_by_length : (xs : List A) → length (other_by xs) ≡ length xs - length xs / 2
  unfolding other_by
  other_by_length xs = omega (arith, length-drop (length xs / 2) (lined_by xs), perm_length (lined_by_perm xs))

  -- what holds of all of it holds of all of each share
  pub first_by_all : (Q : A → Type 0) (xs : List A) → All Q xs → All Q (first_by xs)
  unfolding first_by
  first_by_all Q xs a = all_take Q (length xs / 2) (lined_by xs) (all_perm Q (lined_by_perm xs) a)

  pub other_by_all : (Q : A → Type 0) (xs : List A) → All Q xs → All Q (other_by xs)
  unfolding other_by
  other_by_all Q xs a = all_drop Q (length xs / 2) (lined_by xs) (all_perm Q (lined_by_perm xs) a)

-- ---- the shares of entries: those of entries as their own entries

abbrev pub own : Entry → Entry
own e = e

pub lined_own : (es : List Entry) → lined es ≡ lined_by own es
lined_own es = simp map-id at (lined_map own es)

pub first_own : (es : List Entry) → first_share es ≡ first_by own es
first_own es = simp map-id at (first_map own es)

pub other_own : (es : List Entry) → other_share es ≡ other_by own es
other_own es = simp map-id at (other_map own es)

pub lined_perm : (es : List Entry) → Perm (lined es) es
lined_perm es = rw lined_own (lined_by_perm own es)

pub lined_length : (es : List Entry) → length (lined es) ≡ length es
lined_length es = perm_length (lined_perm es)

pub share_perm : (es : List Entry) → Perm (first_share es ++ other_share es) es
share_perm es = rw (first_own, other_own) (share_by_perm own es)

pub first_length : (es : List Entry) → length (first_share es) ≡ length es / 2
first_length es = rw first_own (first_by_length own es)

pub other_length : (es : List Entry) → length (other_share es) ≡ length es - length es / 2
other_length es = rw other_own (other_by_length own es)

pub first_all : (Q : Entry → Type 0) (es : List Entry) → All Q es → All Q (first_share es)
first_all Q es a = rw first_own (first_by_all own Q es a)

pub other_all : (Q : Entry → Type 0) (es : List Entry) → All Q es → All Q (other_share es)
other_all Q es a = rw other_own (other_by_all own Q es a)

-- four of nine stay and five go; of ten five and five
pub share_nine : (es : List Entry) → length es ≡ 9 → (length (first_share es) ≡ 4) × (length (other_share es) ≡ 5)
share_nine es h = omega (arith, first_length es, other_length es)

pub share_ten : (es : List Entry) → length es ≡ 10 → (length (first_share es) ≡ 5) × (length (other_share es) ≡ 5)
share_ten es h = omega (arith, first_length es, other_length es)
