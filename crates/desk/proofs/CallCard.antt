-- A card: what it hands back where it is refused, and where the list decides; that any two outcomes which its promise permits are equal; and that the names are those of the one station with the number. Assumes nothing.
use Prim.Native.Nat.{ℕ, ◌<◌}
use native.Mathlib.Omega.{arith}
use mathlib.Core.Path.{◌≡◌, refl, sym, ap, ◌∙◌}
use mathlib.Core.Bool.{Bool, true, cond}
use mathlib.Core.List.Memᴰ
use mathlib.Core.List.{List, [], ◌∷◌, map}
use lib.Dec.{eqb, ltb}
use lib.IntN.{ℤ}
use lib.ListN.{length}
use borrow.Author.Tests.{eqb-true, eq-eqb, ltb-true, ltb-false, lt-ltb, le-ltb, lt-leb, le-leb}
use Rattle.std.specs.Prelude.{Ok, Err}
use Rattle.limits.proofs.Refused.{if_refused}
use Rattle.words.specs.Word.{nat_of}
use Rattle.order.specs.Lists.{filter, has, Mem, NoDup}
use Rattle.order.proofs.Lists.{by_bool, filter_mem, mem_filter, has_mem, nodup_one}
use Rattle.table.specs.declared.given.Refusal.TheVariants.{ShortList}
use Rattle.table.specs.Words.{Words}
use Rattle.table.specs.Stations.{Station, stations}
use Rattle.table.specs.Given.{Given, Done, if_done}
use Rattle.filter.specs.Query.{laid_over}
use Rattle.card.specs.Card.{names_of, names_of_first, names_for}
use Rattle.naming.specs.Named.{Named}
use Rattle.refusals.specs.Told.{Carded, carded, told}
use Rattle.refusals.specs.Refusals.{card_gives}
use Rattle.refusals.specs.Cases.{if_short_list}
use Rattle.refusals.proofs.Given.{if_not_few}
use Rattle.desk.specs.Calls.{Listed, after_card}
use Rattle.desk.specs.Carding.{listed, Cards}

-- what a card gives by its number: the names it has, and the list after it
abbrev outcome : Given → List ℕ → List ℕ → Listed
outcome g card old = record { given = g; names = if_done g (length card) (if_short_list g (length card) 0); list = if_done g (laid_over card old) old }

listed_ext : {a b : Listed} → a.given ≡ b.given → a.names ≡ b.names → a.list ≡ b.list → a ≡ b
listed_ext g n l = λ i. record { given = g i; names = n i; list = l i }

module _ (ws : Words) (n k : ℤ) (old : List ℕ) where
  abbrev its : List ℕ
  its = names_for (stations ws) (nat_of n) (nat_of k)

  after_is : {g : Given} → g ≡ card_gives ws n k (length old) → outcome g its old ≡ after_card ws n k old
  unfolding after_card
  after_is e = ap (λ g. outcome g its old) e

  pub card_refused_is : {g : Given} → g ≡ card_gives ws n k (length old) → (g ≡ Done → ⊥) → (g ≡ Err ShortList → ⊥) → Cards ws n k old old (record { given = g; names = 0 })
  card_refused_is {g} e refused long =
      listed_ext refl
      (sym (if_refused g refused (length its) (if_short_list g (length its) 0) ∙ if_not_few g long (length its) 0))
      (sym (if_refused g refused (laid_over its old) old))
      ∙ after_is e

  -- the list decides
  pub card_told_is : (r : ℕ) (new : List ℕ) (places : ℕ) → card_gives ws n k (length old) ≡ cond (ltb (length old) (length its)) (Err ShortList) Done
      → Named ws (nat_of n) (nat_of k) old new r → places ≡ length old → Cards ws n k old new (carded (told r r places))
  card_told_is r new places e h same =
      by_bool (λ b. ltb (length old) (length its) ≡ b → Cards ws n k old new (carded (told r r places))) (ltb (length old) (length its))
      (λ t short.
      let less : length old < r = omega (arith, ltb-true (length old) (length its) short, h.names) in
      ap (λ a. listed a new) (ap (λ b. carded (cond b (Err (record { why = ShortList; length = r })) (Ok r))) (lt-ltb places r (omega arith)))
      ∙ listed_ext refl h.names (h.list ∙ ap (λ b. cond b (laid_over its old) old) (lt-leb r (length old) less))
      ∙ after_is (sym (e ∙ ap (λ b. cond b (Err ShortList) Done) short)))
      (λ t long.
      let room = ltb-false (length old) (length its) long in
      ap (λ a. listed a new) (ap (λ b. carded (cond b (Err (record { why = ShortList; length = r })) (Ok r))) (le-ltb places r (omega (arith, h.names))))
      ∙ listed_ext refl h.names (h.list ∙ ap (λ b. cond b (laid_over its old) old) (le-leb r (length old) (omega (arith, h.names))))
      ∙ after_is (sym (e ∙ ap (λ b. cond b (Err ShortList) Done) long)))
      refl

carded_ext : {a b : Carded} → a.given ≡ b.given → a.names ≡ b.names → a ≡ b
carded_ext g n = λ i. record { given = g i; names = n i }

pub card_once : (ws : Words) (n k : ℤ) (old : List ℕ) {new new' : List ℕ} {r r' : Carded} → Cards ws n k old new r → Cards ws n k old new' r' → (new ≡ new') × (r ≡ r')
card_once ws n k old a b =
    let e = a ∙ sym b in
    (ap (λ (x : Listed). x.list) e, carded_ext (ap (λ (x : Listed). x.given) e) (ap (λ (x : Listed). x.names) e))

-- ---- the one station with a number

-- a number that is enrolled is that of a station
pub number_station : (n : ℕ) (ps : List Station) → has n (map (λ p. p.number) ps) ≡ true → (p : Station) × Mem p ps × (p.number ≡ n)
number_station n ps h = Memᴰ.of_map (λ p. p.number) ps (has_mem n (map (λ p. p.number) ps) h)

-- the first with the number is the one
module _ (all : List Station) (once : NoDup (map (λ p. p.number) all)) (n k : ℕ) (p : Station) (m : Mem p all) (e : p.number ≡ n) where
  first_is : (ps : List Station) → Mem p ps → ((q : Station) → Mem q ps → q ≡ p) → names_of_first all k ps ≡ names_of all p k
  first_is [] mp same = absurd (Memᴰ.not-nil mp)
  first_is (q ∷ qs) mp same = ap (λ s. names_of all s k) (same q (Memᴰ.head refl))

  pub names_of_it : names_for all n k ≡ names_of all p k
  unfolding names_for
  names_of_it =
      let P : Station → Bool = λ q. eqb q.number n in
      first_is (filter P all) (mem_filter P all m (eq-eqb p.number n e))
      (λ q mq. let f = filter_mem P all mq in nodup_one (λ p. p.number) all once f.0 m (eqb-true q.number n f.1 ∙ sym e))
