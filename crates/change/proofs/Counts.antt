-- Facts of lists as counts, and back: no slot twice, every slot inside, only points, a permutation. Counts are what `omega` reads. Assumes nothing.
use Prim.Native.Nat.{ℕ, ◌+◌, ◌≤◌, ◌<◌}
use native.Mathlib.Omega.{arith}
use mathlib.Core.Path.{◌≡◌, refl, ap}
use mathlib.Core.Bool.{Bool, true, false, not, ◌&&◌}
use mathlib.Core.List.{List, [], ◌∷◌, ◌++◌}
use lib.Dec.{eqb}
use borrow.Author.Tests.{eqb-true, eq-eqb}
use Rattle.axis.specs.declared.span.Span.{Span}
use Rattle.order.specs.Lists.{one, join, All, Same}
use Rattle.order.specs.Order.{Perm}
use Rattle.order.proofs.Lists.{count_append, all_mem, mem_all, same_perm, and_left, and_right}
use Rattle.table.specs.declared.node.Entry.{Entry}
use Rattle.figures.specs.Figures.{LEAST, SLOTS}
use Rattle.table.specs.Stations.{is_point}
use Rattle.rules.specs.Rules.{same_span, same_rect}
use Rattle.table.specs.Tree.{Tree, slots_of, leaves_of, Filled}
use Rattle.table.proofs.Slots.{entry_fields}
use Rattle.rules.proofs.Counted.{number_counted, counted_number, nodup_count, count_nodup}
use Rattle.rules.proofs.Reading.{Good}
use Rattle.change.proofs.Frame.{times, Inside, off_grid, Sited}

-- ---- slots

pub all_times : (ss : List ℕ) → All (λ s. s < SLOTS) ss → Inside ss
all_times ss a o m = mem_all (λ s. s < SLOTS) ss a (counted_number o ss m)

pub times_all : (ss : List ℕ) → Inside ss → All (λ s. s < SLOTS) ss
times_all ss h = all_mem (λ s. s < SLOTS) ss (λ s m. h s (number_counted m))

-- ---- points

pub point_counts : (e : Entry) → is_point e ≡ true → one (off_grid e) ≡ 0
point_counts e h = ap (λ b. one (not b)) h

counts_point : (b : Bool) → one (not b) ≡ 0 → b ≡ true
counts_point true h = refl
counts_point false h = absurd (omega arith)

pub all_sited : (es : List Entry) → All (λ e. is_point e ≡ true) es → Sited es
all_sited [] a = refl
all_sited (e ∷ es) a = omega (arith, point_counts e a.0, all_sited es a.1)

pub sited_points : (es : List Entry) → Sited es → All (λ e. is_point e ≡ true) es
sited_points [] h = tt
sited_points (e ∷ es) h = (counts_point (is_point e) (omega arith), sited_points es (omega arith))

-- ---- a tree

pub record Counted (l : ℕ) (t : Tree l) : Type 0 where
  pub once : (o : ℕ) → times o (slots_of l t) ≤ 1
  pub inside : Inside (slots_of l t)
  pub sited : Sited (leaves_of l t)

pub good_counts : {lo l : ℕ} {t : Tree l} → Good lo l t → Counted l t
good_counts {l = l} {t = t} g = record {
  once = λ o. nodup_count o (slots_of l t) g.apart;
  inside = all_times (slots_of l t) g.inside;
  sited = all_sited (leaves_of l t) g.points;
}

pub counts_good : {lo l : ℕ} {t : Tree l} → l ≤ 5 → Filled lo l t → Counted l t → Good lo l t
counts_good {l = l} {t = t} h f c = record {
  low = h;
  fill = f;
  apart = count_nodup (slots_of l t) (λ o m. c.once o);
  inside = times_all (slots_of l t) c.inside;
  points = sited_points (leaves_of l t) c.sited;
}

-- each of several trees
pub items_good : (l : ℕ) → l ≤ 5 → (xs : List (Tree l)) → All (Filled LEAST l) xs → ((o : ℕ) → times o (join (slots_of l) xs) ≤ 1)
    → Inside (join (slots_of l) xs) → Sited (join (leaves_of l) xs) → All (Good LEAST l) xs
items_good l low [] f once inside sited = tt
items_good l low (x ∷ xs) f once inside sited =
    let e : (o : ℕ) → times o (slots_of l x ++ join (slots_of l) xs) ≡ times o (slots_of l x) + times o (join (slots_of l) xs) =
    λ o. count_append (eqb o) (slots_of l x) (join (slots_of l) xs) in
    let p = count_append off_grid (leaves_of l x) (join (leaves_of l) xs) in (
      counts_good low f.0
          (record { once = λ o. omega (arith, once o, e o); inside = λ o m. inside o (omega (arith, m, e o)); sited = omega arith }),
      items_good l low xs f.1 (λ o. omega (arith, once o, e o)) (λ o m. inside o (omega (arith, m, e o))) (omega arith),
    )

-- ---- entries

abbrev same_entry : Entry → Entry → Bool
same_entry a b = eqb a.reference b.reference && same_rect a.rect b.rect

same_span_lem : (s t : Span) → same_span s t ≡ true → (s.low ≡ t.low) × (s.high ≡ t.high)
same_span_lem s t h = (
  eqb-true s.low t.low (and_left (eqb s.low t.low) (eqb s.high t.high) h),
  eqb-true s.high t.high (and_right (eqb s.low t.low) (eqb s.high t.high) h),
)

same_true : (a b : Entry) → same_entry a b ≡ true → a ≡ b
same_true a b h =
    let p = eqb a.reference b.reference in
    let q = same_span a.rect.x b.rect.x in
    let r = same_span a.rect.y b.rect.y in
    let x = same_span_lem a.rect.x b.rect.x (and_left q r (and_right p (q && r) h)) in
    let y = same_span_lem a.rect.y b.rect.y (and_right q r (and_right p (q && r) h)) in
    entry_fields (eqb-true a.reference b.reference (and_left p (q && r) h)) x.0 y.0 x.1 y.1

same_self : (a : Entry) → same_entry a a ≡ true
same_self a =
    rw (
      eq-eqb a.reference a.reference refl,
      eq-eqb a.rect.x.low a.rect.x.low refl,
      eq-eqb a.rect.x.high a.rect.x.high refl,
      eq-eqb a.rect.y.low a.rect.y.low refl,
      eq-eqb a.rect.y.high a.rect.y.high refl,
    )

-- entries that every test counts alike are the same entries
pub counts_perm : (es fs : List Entry) → Same es fs → Perm es fs
counts_perm es fs h = same_perm same_entry same_true same_self es fs h
