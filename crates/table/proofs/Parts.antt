-- What the functions on one slot's words need: the word −1 in steps, a loop that reads entries, one that writes zeros, and one that writes entries. Assumes nothing.
use Prim.Native.Nat.{ℕ, zero, suc, ◌+◌, ◌-◌, ◌*◌, ◌≤◌, ◌<◌}
use mathlib.Core.Path.{◌≡◌, refl, sym, ap, ◌∙◌}
use mathlib.Core.List.{List, [], ◌∷◌, ◌++◌, map, append-nil, map-append}
use native.Mathlib.Decide.{ℕ_discrete, dec_lt}
use native.Mathlib.Nat.{zero-add}
use native.Mathlib.Numerals.{add-one}
use native.Mathlib.Omega.{arith}
use borrow.Rule.Slice.PartMut.{put_mid}
use borrow.Author.Tests.{eq-eqb, ne_eqb}
use lib.Dec.{eqb}
use lib.IntN.{ℤ, pos, negsuc}
use lib.ListN.{length, get_or, take, drop, set, replicate}
use lib.Seq.{drop-drop, take-suc, take-suc-set, length-take-le}
use Rattle.words.specs.Word.{steps_of, word_of}
use Rattle.order.specs.Order.{up_from}
use Rattle.table.specs.declared.node.Entry.{Entry}
use Rattle.figures.specs.Figures.{FAN, ENTRY, WIDTH}
use Rattle.table.specs.Words.{Words, is_minus_one, start_of, part_at, placed}
use Rattle.table.specs.Page.{entry_words, entries_words, page, page_words, free_words}
use Rattle.table.proofs.Placed.{placed_more}
use Rattle.table.proofs.Slots.{entry_length, entries_length, entries_append}

-- ---- the word −1

pub none_steps : (z : ℤ) → eqb (steps_of z) 2147483647 ≡ is_minus_one z
none_steps (pos n) = ne_eqb (2147483648 + n) 2147483647 (λ e. omega arith)
none_steps (negsuc n) = go (ℕ_discrete n 0)
  where
    go : Dec (n ≡ 0) → eqb (2147483647 - n) 2147483647 ≡ eqb n 0
    go (yes e) = eq-eqb (2147483647 - n) 2147483647 (omega arith) ∙ sym (eq-eqb n 0 e)
    go (no e) = ne_eqb (2147483647 - n) 2147483647 (λ q. e (omega arith)) ∙ sym (ne_eqb n 0 e)

pub none_word : word_of 2147483647 ≡ negsuc 0
unfolding word_of
none_word = refl

-- ---- the loop that reads

up_last : (a n : ℕ) → up_from a (suc n) ≡ up_from a n ++ (a + n) ∷ []
up_last a zero = ap (λ (x : ℕ). x ∷ []) (omega arith)
up_last a (suc n) =
    let k : suc a + n ≡ a + suc n = omega arith in
    ap (λ (x : List ℕ). a ∷ x) (up_last (suc a) n) ∙ ap (λ (x : ℕ). a ∷ up_from (suc a) n ++ x ∷ []) k

-- one more is stored
pub read_step : {A : Type 0} (f : ℕ → A) (es : List A) (i : ℕ) → i < length es → take i es ≡ map f (up_from 0 i)
    → take (i + 1) (set es i (f i)) ≡ map f (up_from 0 (i + 1))
read_step f es i h e =
    rw (add-one i)
    (take-suc-set es i (f i) h
    ∙ ap (λ (x : List _). x ++ f i ∷ []) e
    ∙ sym (ap (map f) (up_last 0 i ∙ ap (λ (n : ℕ). up_from 0 i ++ n ∷ []) (zero-add i)) ∙ map-append f (up_from 0 i) (i ∷ [])))

-- ---- the loop that writes

taken : (es : List Entry) (i : ℕ) → i ≤ length es → length (entries_words (take i es)) ≡ ENTRY * i
taken es i h = entries_length (take i es) ∙ ap (λ (m : ℕ). ENTRY * m) (length-take-le i es h)

pub write_step : (ws : Words) (es : List Entry) (i : ℕ) (d : Entry) → length ws ≡ WIDTH → i < FAN → i < length es
    → placed (placed ws 2 (entries_words (take i es))) (2 + ENTRY * i) (entry_words (get_or es i d))
    ≡ placed ws 2 (entries_words (take (i + 1) es))
unfolding entries_words
write_step ws es i d l few h =
    let e = get_or es i d in
    let t = taken es i (omega arith) in
    let m : 2 + ENTRY * i ≡ 2 + length (entries_words (take i es)) = omega arith in
    ap (λ (x : ℕ). placed (placed ws 2 (entries_words (take i es))) x (entry_words e)) m
    ∙ placed_more ws 2 (entries_words (take i es)) (entry_words e) (omega (arith, entry_length e))
    ∙ ap (λ (x : Words). placed ws 2 (entries_words (take i es) ++ x)) (sym (append-nil (entry_words e)))
    ∙ ap (λ (x : Words). placed ws 2 x) (sym (entries_append (take i es) (e ∷ [])))
    ∙ ap (λ (x : List Entry). placed ws 2 (entries_words x)) (sym (take-suc es i d h))
    ∙ sym (ap (λ (x : ℕ). placed ws 2 (entries_words (take x es))) (add-one i))

drop_same : {A : Type 0} (m n : ℕ) (a : A) → drop m (replicate n a) ≡ replicate (n - m) a
drop_same zero n a =
    let k : n ≡ n - 0 = omega arith in
    ap (λ (x : ℕ). replicate x a) k
drop_same (suc m) zero a =
    let k : 0 ≡ 0 - suc m = omega arith in
    ap (λ (x : ℕ). replicate x a) k
drop_same (suc m) (suc n) a =
    let k : n - m ≡ suc n - suc m = omega arith in
    drop_same m n a ∙ ap (λ (x : ℕ). replicate x a) k

-- level, number and entries written over a free slot's words are the page's words
pub write_all : (l c : ℕ) (es : List Entry) → c ≡ length es → c ≤ FAN
    → placed (set (set free_words 0 (pos l)) 1 (pos c)) 2 (entries_words es) ≡ page_words (page l es)
unfolding free_words placed page_words
write_all l c es e few =
    let vs = entries_words es in
    let us = pos l ∷ pos c ∷ replicate (ENTRY * FAN) (pos 0) in
    let j : 2 + length vs ≡ suc (suc (length vs)) = omega arith in
    let k : ENTRY * FAN - length vs ≡ ENTRY * (FAN - length es) = omega (arith, entries_length es) in
    ap (λ (n : ℕ). pos l ∷ pos c ∷ vs ++ drop n us) j
    ∙ ap (λ (x : Words). pos l ∷ pos c ∷ vs ++ x) (drop_same (length vs) (ENTRY * FAN) (pos 0) ∙ ap (λ (n : ℕ). replicate n (pos 0)) k)
    ∙ ap (λ (n : ℕ). pos l ∷ pos n ∷ vs ++ replicate (ENTRY * (FAN - length es)) (pos 0)) e

-- ---- a part lent

-- from a slot's start to the next slot's
module _ (ws : Words) (s a e : ℕ) (start : a ≡ start_of s) (end : e ≡ start_of (s + 1)) where
  -- what is lent is the slot's part
  pub lent_part : take (e - a) (drop a ws) ≡ part_at ws s
  unfolding part_at
  lent_part =
      let k : e - a ≡ WIDTH = omega arith in
      rw (k, start)

  -- what comes back is placed
  pub back_part : (us vs : Words) → us ≡ vs → length vs ≡ WIDTH → put_mid a (e - a) ws us ≡ placed ws (start_of s) vs
  unfolding placed
  back_part us vs back l =
      let k : e - a ≡ length vs = omega arith in
      rw (k, start, back) (ap (λ (x : Words). take (start_of s) ws ++ (vs ++ x)) (drop-drop (length vs) (start_of s) ws))

-- ---- the loop that searches

-- what holds below n and at n holds below n + 1
pub below_more : (Q : ℕ → Type 0) (n : ℕ) → ((o : ℕ) → o < n → Q o) → Q n → (o : ℕ) → o < n + 1 → Q o
below_more Q n h q o l = go (dec_lt o n)
  where
    go : Dec (o < n) → Q o
    go (yes k) = h o k
    go (no k) =
        let e : o ≡ n = omega arith in
        rw e q
