-- The loop that keeps the numbers of the candidates that pass: what stands after i turns. Assumes nothing.
use Prim.Native.Nat.{ℕ, ◌+◌, ◌≤◌, ◌<◌}
use native.Mathlib.Omega.{arith}
use native.Mathlib.Numerals.{add-one}
use mathlib.Core.Path.{◌≡◌, refl, sym, ap, ◌∙◌}
use mathlib.Core.Bool.{Bool, true, false, cond}
use mathlib.Core.List.{List, [], ◌∷◌, ◌++◌, map, map-append, append-nil}
use lib.ListN.{length, set, get_or, take, length-append, length-set}
use lib.Seq.{take-suc, take_all}
use Rattle.grid.specs.declared.place.Place.{Place}
use Rattle.grid.specs.AsNear.{as_near_to}
use Rattle.grid.specs.Place.{dist²}
use Rattle.leads.specs.Leads.{place_in}
use Rattle.order.specs.Lists.{filter, count}
use Rattle.order.specs.Order.{up_from}
use Rattle.order.proofs.Lists.{all_at}
use Rattle.table.specs.declared.node.Entry.{Entry}
use Rattle.table.specs.Page.{blank_entry}
use Rattle.table.specs.Words.{Words}
use Rattle.filter.specs.Query.{laid_over}
use Rattle.filter.specs.Walk.{spot_in}
use Rattle.filter.specs.Rows.{Rows, listed}
use Rattle.filter.proofs.RowLaws.{listed_length, listed_at, listed_count}
use Rattle.filter.proofs.Rising.{filter_append}
use Rattle.filter.proofs.RowLaws.{laid_set}
use Rattle.vetting.specs.Test.{passes}
use Rattle.vetting.specs.Tested.{passes_as, as_near_among, numbers_passing, Keepable}

module _ (ws : Words) (q : Place) (k : ℕ) where
  -- those of one candidate more
  passing_more : (es : List Entry) (i : ℕ) → i < length es
      → numbers_passing ws q k (take (i + 1) es) ≡ numbers_passing ws q k (take i es) ++ numbers_passing ws q k (get_or es i blank_entry ∷ [])
  unfolding numbers_passing
  passing_more es i h =
      let number : Entry → ℕ = λ e. e.reference in
      let P = passes_as ws q k in
      let e = get_or es i blank_entry in
      ap (λ (j : ℕ). map number (filter P (take j es))) (add-one i)
      ∙ ap (λ (l : List Entry). map number (filter P l)) (take-suc es i blank_entry h)
      ∙ ap (map number) (filter_append P (take i es) (e ∷ []))
      ∙ map-append number (filter P (take i es)) (filter P (e ∷ []))

  passing_one : (e : Entry) (b : Bool) → passes_as ws q k e ≡ b → numbers_passing ws q k (e ∷ []) ≡ cond b (e.reference ∷ []) []
  unfolding numbers_passing
  passing_one e true p = rw p
  passing_one e false p = rw p

  passing_none : numbers_passing ws q k [] ≡ []
  unfolding numbers_passing
  passing_none = refl

module _ (ws : Words) (q : Place) (k : ℕ) (es : List Entry) (old : List ℕ) where
  -- after i turns n numbers stand at the front of ks
  pub record Numbered (i n : ℕ) (ks : List ℕ) : Type 0 where
    pub count : n ≡ length (numbers_passing ws q k (take i es))
    pub list : ks ≡ laid_over (numbers_passing ws q k (take i es)) old
    pub few : n ≤ i
    pub long : length ks ≡ length old

  pub numbered_none : Numbered 0 0 old
  numbered_none = record {
    count = ap length (sym (passing_none ws q k));
    list = ap (λ (l : List ℕ). laid_over l old) (sym (passing_none ws q k));
    few = omega arith;
    long = refl;
  }

  pub numbered_next : (i n : ℕ) (ks : List ℕ) → Numbered i n ks → i < length es → i < length old → (b : Bool) → passes_as ws q k (get_or es i blank_entry) ≡ b
      → Numbered (i + 1) (cond b (n + 1) n) (cond b (set ks n (get_or es i blank_entry).reference) ks)
  numbered_next i n ks h l o true e =
      let now = numbers_passing ws q k (take i es) in
      let v = (get_or es i blank_entry).reference in
      let more = passing_more ws q k es i l ∙ ap (λ (r : List ℕ). now ++ r) (passing_one ws q k (get_or es i blank_entry) true e) in
      record {
        count = omega (arith, ap length more, length-append now (v ∷ []), h.count);
        list = ap (λ (r : List ℕ). set r n v) h.list
            ∙ ap (λ (j : ℕ). set (laid_over now old) j v) h.count
            ∙ laid_set now old v (omega (arith, h.count, h.few))
            ∙ ap (λ (r : List ℕ). laid_over r old) (sym more);
        few = omega (arith, h.few);
        long = length-set ks n v ∙ h.long;
      }
  numbered_next i n ks h l o false e =
      let now = numbers_passing ws q k (take i es) in
      let more = passing_more ws q k es i l ∙ ap (λ (r : List ℕ). now ++ r) (passing_one ws q k (get_or es i blank_entry) false e) ∙ append-nil now in
      record {
        count = h.count ∙ ap length (sym more);
        list = h.list ∙ ap (λ (r : List ℕ). laid_over r old) (sym more);
        few = omega (arith, h.few);
        long = h.long;
      }

-- ---- a turn of the loop, at candidate i of the rows

module _ {ws : Words} {q : Place} {r : Rows} {k m free : ℕ} (h : Keepable ws q r k m free) (i : ℕ) (u : i < m) where
  -- the test of its place is the test of the candidate
  test_at : (p : Place) (far : ℕ) → p ≡ place_in q r.xs r.ys i → far ≡ dist² q p
      → passes ws (get_or r.numbers i 0) p far k ≡ passes_as ws q k (get_or (listed q r m) i blank_entry)
  unfolding passes_as
  test_at p far e f = rw (listed_at q r m i u, f, e)

  -- with more than k as near it does not pass
  pub crowded_at : (p : Place) (far near : ℕ) → p ≡ place_in q r.xs r.ys i → far ≡ dist² q p
      → near ≡ count (λ j. as_near_to p (place_in q r.xs r.ys j) q) (up_from 0 m)
      → k < near → passes ws (get_or r.numbers i 0) p far k ≡ false
  crowded_at p far near e f c l =
      let d = get_or (listed q r m) i blank_entry in
      let spot : p ≡ spot_in d = e ∙ ap spot_in (sym (listed_at q r m i u)) in
      let among : near ≡ as_near_among q (listed q r m) d =
      c ∙ sym (listed_count q r m (λ (o : Place). as_near_to p o q)) ∙ ap (λ (o : Place). count (λ e. as_near_to o (spot_in e) q) (listed q r m)) spot in
      test_at p far e f
      ∙ all_at (λ e. k < as_near_among q (listed q r m) e → passes_as ws q k e ≡ false) (listed q r m) i blank_entry (omega (arith, listed_length q r m)) h.crowded (omega (arith, l, among))

  pub numbered_at : (old : List ℕ) → m ≤ length old → (n : ℕ) (ks : List ℕ) → Numbered ws q k (listed q r m) old i n ks
      → (p : Place) (far : ℕ) → p ≡ place_in q r.xs r.ys i → far ≡ dist² q p → (b : Bool) → passes ws (get_or r.numbers i 0) p far k ≡ b
      → Numbered ws q k (listed q r m) old (i + 1) (cond b (n + 1) n) (cond b (set ks n (get_or r.numbers i 0)) ks)
  numbered_at old room n ks before p far e f b t =
      let number : (get_or (listed q r m) i blank_entry).reference ≡ get_or r.numbers i 0 = ap (λ (e : Entry). e.reference) (listed_at q r m i u) in
      rw number at
      (numbered_next ws q k (listed q r m) old i n ks before (omega (arith, listed_length q r m)) (omega arith) b (sym (test_at p far e f) ∙ t))

-- after the last turn all are tested
pub numbered_all : (ws : Words) (q : Place) (k : ℕ) (r : Rows) (m : ℕ) (old : List ℕ) (n : ℕ) (ks : List ℕ) → Numbered ws q k (listed q r m) old m n ks
    → (n ≡ length (numbers_passing ws q k (listed q r m))) × (ks ≡ laid_over (numbers_passing ws q k (listed q r m)) old)
numbered_all ws q k r m old n ks h =
    let all : take m (listed q r m) ≡ listed q r m = take_all m (listed q r m) (omega (arith, listed_length q r m)) in
    (h.count ∙ ap (λ (l : List Entry). length (numbers_passing ws q k l)) all, h.list ∙ ap (λ (l : List Entry). laid_over (numbers_passing ws q k l) old) all)
