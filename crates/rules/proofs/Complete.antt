-- A tree that is read off a table and has every used slot, none twice: its slots, its points and its references are those of all slots of the table, up to order. Assumes nothing.
use Prim.Native.Nat.{ℕ, ◌-◌, ◌<◌}
use native.Mathlib.Omega.{arith}
use mathlib.Core.Path.{◌≡◌, refl, sym, ap, subst, ◌∙◌}
use mathlib.Core.Bool.{Bool, true, false, not, cond}
use mathlib.Core.List.{List, [], ◌∷◌, ◌++◌, map}
use lib.ListN.{length}
use borrow.Author.Tests.{not-true, not-false}
use Rattle.order.specs.Lists.{filter, join, Mem, NoDup}
use Rattle.order.specs.Order.{Perm, up_from, pskip, ptrans}
use Rattle.order.proofs.Perm.{perm_length}
use Rattle.order.proofs.Order.{up_length, mem_up}
use Rattle.order.proofs.Lists.{by_bool, filter_mem, mem_filter, perm_join}
use Rattle.figures.specs.Figures.{SLOTS}
use Rattle.table.specs.Words.{Words}
use Rattle.table.specs.Slots.{slots, is_free}
use Rattle.rules.specs.Rules.{leaf_entries, refs_at}
use Rattle.table.specs.Tree.{Tree, top_of, slots_of, leaves_of}
use Rattle.rules.proofs.Joined.{nodup_perm}
use Rattle.rules.proofs.Counted.{up_mem, nodup_up, filter_nodup, filter_both}
use Rattle.rules.proofs.OneSlot.{free_leaf, free_above}
use Rattle.rules.proofs.AsRead.{Read, read_slot, read_leaves, read_refs}

pub record Complete (ws : Words) (l : ℕ) (t : Tree l) : Type 0 where
  pub read : Read l ws t
  pub apart : NoDup (slots_of l t)
  pub all : (s : ℕ) → s < SLOTS → is_free ws s ≡ false → Mem s (slots_of l t)

-- those that do not pass add nothing to a join
join_filter : {A B : Type 0} (P : A → Bool) (f : A → List B) (xs : List A) → ((x : A) → P x ≡ false → f x ≡ []) → join f (filter P xs) ≡ join f xs
join_filter P f [] h = refl
join_filter P f (x ∷ xs) h =
    let ih = join_filter P f xs h in
    by_bool (λ b. P x ≡ b → join f (cond b (x ∷ filter P xs) (filter P xs)) ≡ f x ++ join f xs) (P x)
    (λ y e. ap (λ l. f x ++ l) ih) (λ n e. ih ∙ ap (λ l. l ++ join f xs) (sym (h x e))) refl

abbrev is_used : Words → ℕ → Bool
is_used ws s = not (is_free ws s)

module _ {ws : Words} {l : ℕ} {t : Tree l} (c : Complete ws l t) where
  -- the used slots below n, in order
  slots_below : (n : ℕ) → n ≡ SLOTS → Perm (slots_of l t) (filter (is_used ws) (up_from 0 n))
  slots_below n e =
      nodup_perm (slots_of l t) (filter (is_used ws) (up_from 0 n)) c.apart (filter_nodup (is_used ws) (up_from 0 n) (nodup_up 0 n))
      (λ s m.
      let h = (read_slot ws l t c.read m).1 in
      mem_filter (is_used ws) (up_from 0 n) (mem_up s 0 n (omega arith) (omega (arith, h.inside))) (ap not h.used))
      (λ s m.
      let u = filter_mem (is_used ws) (up_from 0 n) m in
      c.all s (omega (arith, up_mem s 0 n u.0)) (not-true (is_free ws s) u.1))

  pub slots_perm : Perm (slots_of l t) (filter (is_used ws) slots)
  slots_perm = slots_below SLOTS refl

  -- the others are free
  free_below : (n : ℕ) → n ≡ SLOTS → length (filter (is_free ws) (up_from 0 n)) ≡ n - length (slots_of l t)
  free_below n e = omega (arith, filter_both (is_free ws) (up_from 0 n), perm_length (slots_below n e), up_length 0 n)

  pub free_count_lem : length (filter (is_free ws) slots) ≡ SLOTS - length (slots_of l t)
  free_count_lem = free_below SLOTS refl

  -- what is nothing at a free slot, over the tree's slots and over all
  over : {B : Type 0} (f : ℕ → List B) → ((s : ℕ) → is_free ws s ≡ true → f s ≡ []) → Perm (join f (slots_of l t)) (join f slots)
  over f h =
      subst (λ bs. Perm (join f (slots_of l t)) bs) (join_filter (is_used ws) f slots (λ s e. h s (not-false (is_free ws s) e)))
      (perm_join f slots_perm)

  pub leaves_perm : Perm (leaves_of l t) (join (leaf_entries ws) slots)
  leaves_perm =
      subst (λ es. Perm es (join (leaf_entries ws) slots)) (sym (read_leaves ws l t c.read))
      (over (leaf_entries ws) (free_leaf ws))

  pub refs_perm : Perm (slots_of l t) (top_of l t ∷ join (refs_at ws) slots)
  refs_perm =
      ptrans (read_refs ws l t c.read)
      (pskip (top_of l t) (over (refs_at ws) (λ s e. ap (map (λ i. i.reference)) (free_above ws s e))))
