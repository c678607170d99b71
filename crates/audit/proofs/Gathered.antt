-- What a loop over the slots has gathered after one more slot: lists joined slot by slot and their lengths; and how many points a slot has. Assumes nothing.
use Prim.Native.Nat.{ℕ, ◌+◌, ◌≤◌}
use native.Mathlib.Omega.{arith}
use mathlib.Core.Path.{◌≡◌, sym, ap, ◌∙◌}
use mathlib.Core.Bool.{true}
use mathlib.Core.List.{List, [], ◌++◌, append-nil}
use lib.ListN.{length, length-append, length-map}
use Rattle.order.specs.Lists.{join}
use Rattle.order.specs.Order.{up_from}
use Rattle.order.proofs.Lists.{join_append}
use Rattle.figures.specs.Figures.{FAN}
use Rattle.table.specs.Words.{Words, part_at}
use Rattle.table.specs.Page.{entry_of, filled, page_of}
use Rattle.table.specs.Slots.{page_at, entries_at}
use Rattle.table.specs.Stations.{is_leaf, station_of, stations_at}
use Rattle.table.proofs.Slots.{page_few}
use Rattle.rules.proofs.Tests.{by_test}
use Rattle.rules.proofs.Counted.{up_append}

-- ---- one slot more

module _ {A : Type 0} (f : ℕ → List A) (n : ℕ) where
  pub join_more : join f (up_from 0 (n + 1)) ≡ join f (up_from 0 n) ++ f n
  join_more =
      let g : 0 + n ≡ n = omega arith in
      ap (join f) (up_append 0 n 1)
      ∙ join_append f (up_from 0 n) (up_from (0 + n) 1)
      ∙ ap (λ k. join f (up_from 0 n) ++ (f k ++ [])) g
      ∙ ap (λ l. join f (up_from 0 n) ++ l) (append-nil (f n))

  pub length_more : length (join f (up_from 0 (n + 1))) ≡ length (join f (up_from 0 n)) + length (f n)
  length_more = ap length join_more ∙ length-append (join f (up_from 0 n)) (f n)

-- ---- the points of one slot

-- as many as its entries
pub points_length : (ws : Words) (s : ℕ) → is_leaf ws s ≡ true → length (stations_at ws s) ≡ length (entries_at ws s)
unfolding page_at page_of
points_length ws s e =
    let part = part_at ws s in
    let places = up_from 0 (filled part) in
    rw e (length-map places (station_of part) ∙ sym (length-map places (entry_of part)))

pub points_few : (ws : Words) (s : ℕ) → length (stations_at ws s) ≤ FAN
points_few ws s =
    by_test (is_leaf ws s) (λ e. omega (arith, points_length ws s e, page_few ws s)) (λ e. rw e (omega arith))
