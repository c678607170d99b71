-- How many slots are free, and how a page put into a slot changes that: a used slot changes nothing, a free one makes one less. Assumes nothing.
use Prim.Native.Nat.{ℕ, zero, suc, ◌+◌, ◌≤◌, ◌<◌}
use native.Mathlib.Omega.{arith}
use native.Mathlib.Decide.{ℕ_discrete}
use mathlib.Core.Path.{◌≡◌, refl, sym, ap, subst, ◌∙◌}
use mathlib.Core.Logic.{⊎_elim}
use mathlib.Core.Bool.{Bool, true, false, cond}
use mathlib.Core.List.Memᴰ
use mathlib.Core.List.{List, [], ◌∷◌}
use lib.ListN.{length}
use Rattle.order.specs.Lists.{one, count, first_place, Mem, NoDup}
use Rattle.order.specs.Order.{up_from}
use Rattle.order.proofs.Lists.{by_bool}
use Rattle.order.proofs.Order.{mem_up}
use Rattle.figures.specs.Figures.{FAN, SLOTS, LENGTH}
use Rattle.table.specs.Words.{Words, word, is_minus_one, part_at}
use Rattle.table.specs.Page.{Page}
use Rattle.table.specs.Slots.{slots, is_free, put_page, lowest_free}
use Rattle.table.proofs.Slots.{put_here, put_other, page_part_used}
use Rattle.joining.specs.Within.{free_count}
use Rattle.rules.proofs.Counted.{nodup_up}

-- ---- counts of tests that agree

module _ {A : Type 0} (P Q : A → Bool) where
  pub count_same : (xs : List A) → ((x : A) → Mem x xs → P x ≡ Q x) → count P xs ≡ count Q xs
  count_same [] h = refl
  count_same (x ∷ xs) h =
      let e = ap one (h x (Memᴰ.head refl)) in
      omega (arith, count_same xs (λ y m. h y (Memᴰ.tail m)))

  -- but at one element
  pub count_less : (s : A) (xs : List A) → NoDup xs → Mem s xs → P s ≡ true → Q s ≡ false → ((x : A) → (x ≡ s → ⊥) → P x ≡ Q x)
      → suc (count Q xs) ≡ count P xs
  count_less s [] d m p q h = absurd (Memᴰ.not-nil m)
  count_less s (x ∷ xs) d m p q h =
      ⊎_elim
      (λ e.
      let p' : P x ≡ true = ap P (sym e) ∙ p in
      let q' : Q x ≡ false = ap Q (sym e) ∙ q in
      let r = count_same xs (λ y n. h y (λ f. d.0 (subst (λ z. Mem z xs) (f ∙ e) n))) in
      rw (p', q') (omega arith))
      (λ n.
      let r = ap one (h x (λ f. d.0 (subst (λ z. Mem z xs) (sym f) n))) in
      omega (arith, count_less s xs d.1 n p q h))
      (Memᴰ.cases_cons m)

first_some : (P : ℕ → Bool) (a n : ℕ) → 0 < count P (up_from a n) → first_place P (up_from a n) < n
first_some P a zero h = absurd (omega arith)
first_some P a (suc n) h =
    let ih : 0 < count P (up_from (suc a) n) → first_place P (up_from (suc a) n) < n = first_some P (suc a) n in
    by_bool (λ b. 0 < one b + count P (up_from (suc a) n) → cond b 0 (1 + first_place P (up_from (suc a) n)) < suc n) (P a)
    (λ e k. omega arith) (λ e k. omega (arith, ih (omega arith))) h

-- ---- free slots

pub free_part : (ws us : Words) (s : ℕ) → part_at ws s ≡ part_at us s → is_free ws s ≡ is_free us s
unfolding is_free
free_part ws us s e = ap (λ (p : Words). is_minus_one (word p 0)) e

pub free_same : (ws us : Words) → ((s : ℕ) → part_at ws s ≡ part_at us s) → free_count ws ≡ free_count us
unfolding free_count
free_same ws us h = count_same (is_free ws) (is_free us) slots (λ s m. free_part ws us s (h s))

pub some_free : (ws : Words) → 0 < free_count ws → lowest_free ws < SLOTS
unfolding free_count lowest_free
some_free ws h = first_some (is_free ws) 0 SLOTS h

module _ (ws : Words) (s : ℕ) (p : Page) (long : length ws ≡ LENGTH) (low : s < SLOTS) (few : length p.entries ≤ FAN) where
  pub put_used : is_free (put_page ws s p) s ≡ false
  put_used = page_part_used (put_page ws s p) s p (put_here ws s p long low few)

  other : (o : ℕ) → (o ≡ s → ⊥) → is_free ws o ≡ is_free (put_page ws s p) o
  other o d = sym (free_part (put_page ws s p) ws o (put_other ws s p long low few o d))

  -- in a used slot
  pub put_keeps : is_free ws s ≡ false → free_count (put_page ws s p) ≡ free_count ws
  unfolding free_count
  put_keeps u =
      sym
      (count_same (is_free ws) (is_free (put_page ws s p)) slots
      (λ o m. elim (ℕ_discrete o s) [ yes e ↦ subst (λ k. is_free ws k ≡ is_free (put_page ws s p) k) (sym e) (u ∙ sym put_used) | no d ↦ other o d ]))

  -- in a free slot
  pub put_takes : is_free ws s ≡ true → suc (free_count (put_page ws s p)) ≡ free_count ws
  unfolding free_count
  put_takes f =
      count_less (is_free ws) (is_free (put_page ws s p)) s slots (nodup_up 0 SLOTS) (mem_up s 0 SLOTS (omega arith) (omega arith)) f put_used other
