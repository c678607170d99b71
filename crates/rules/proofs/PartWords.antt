-- The words of a slot that keeps rules 1 and 3 are those of a free slot or of the page that is read from them; and those of a free slot or of a page keep rule 1. Five words at a time. Assumes nothing.
use Prim.Native.Nat.{ℕ, zero, suc, ◌+◌, ◌-◌, ◌*◌, ◌≤◌, ◌<◌, ◌^◌, min}
use native.Mathlib.Omega.{arith}
use native.Mathlib.Nat.{le_of_suc-le-suc}
use mathlib.Core.Path.{◌≡◌, refl, sym, ap, ◌∙◌}
use mathlib.Core.Bool.{true, false≢true}
use mathlib.Core.List.{List, [], ◌∷◌, map}
use lib.IntN.{ℤ, pos, negsuc}
use lib.ListN.{length, take, drop, replicate, length-map, length-drop, take-append-drop}
use lib.Seq.{take-add, drop-drop, drop_at}
use borrow.Author.Tests.{eqb-true}
use Rattle.words.specs.Word.{IsWord, steps_of, word_of, nat_of}
use Rattle.words.proofs.Words.{word_steps, word_is, natural_word}
use Rattle.order.specs.Lists.{every, All}
use Rattle.order.specs.Order.{up_from}
use Rattle.order.proofs.Lists.{all_at, all_append, all_replicate, and_left, and_right}
use Rattle.order.proofs.Order.{up_length}
use Rattle.table.specs.declared.node.Entry.{Entry}
use Rattle.figures.specs.Figures.{FAN, ENTRY, WIDTH}
use Rattle.table.specs.Words.{Words, word, is_zero}
use Rattle.table.specs.Page.{Page, entry_of, filled, page_of, entry_words, entries_words, page_words, free_words, EntryFits, PageFits}
use Rattle.rules.specs.Rules.{is_natural, used_words}
use Rattle.table.proofs.Slots.{entries_length}

-- ---- zeros

zero_word : (z : ℤ) → is_zero z ≡ true → z ≡ pos 0
zero_word (pos n) e = ap pos (eqb-true n 0 e)
zero_word (negsuc n) e = absurd (false≢true e)

pub zeros : (xs : Words) → every is_zero xs ≡ true → xs ≡ replicate (length xs) (pos 0)
zeros [] e = refl
zeros (x ∷ xs) e =
    let a = zero_word x (and_left (is_zero x) (every is_zero xs) e) in
    let b = zeros xs (and_right (is_zero x) (every is_zero xs) e) in
    cc

pub all_zeros : (n : ℕ) → every is_zero (replicate n (pos 0)) ≡ true
all_zeros zero = refl
all_zeros (suc n) = all_zeros n

-- ---- a free slot

pub free_part : (part : Words) → length part ≡ WIDTH → word part 0 ≡ negsuc 0 → every is_zero (drop 1 part) ≡ true → part ≡ free_words
unfolding free_words
free_part [] n w z = absurd (omega arith)
free_part (x ∷ xs) n w z =
    let k : length xs ≡ 41 = omega arith in
    let e : xs ≡ replicate 41 (pos 0) = zeros xs z ∙ ap (λ m. replicate m (pos 0)) k in
    cc

-- ---- five words

five_words : (ws : Words) (at : ℕ) → suc (suc (suc (suc at))) < length ws
    → take 5 (drop at ws) ≡ word ws at ∷ word ws (suc at) ∷ word ws (suc (suc at)) ∷ word ws (suc (suc (suc at))) ∷ word ws (suc (suc (suc (suc at)))) ∷ []
five_words [] at h = absurd (omega arith)
five_words (a ∷ ws) (suc at) h = five_words ws at (le_of_suc-le-suc h)
five_words (a ∷ []) zero h = absurd (omega arith)
five_words (a ∷ b ∷ []) zero h = absurd (omega arith)
five_words (a ∷ b ∷ c ∷ []) zero h = absurd (omega arith)
five_words (a ∷ b ∷ c ∷ d ∷ []) zero h = absurd (omega arith)
five_words (a ∷ b ∷ c ∷ d ∷ e ∷ ws) zero h = refl

natural_word_is : (z : ℤ) → is_natural z ≡ true → pos (nat_of z) ≡ z
natural_word_is (pos n) e = refl
natural_word_is (negsuc n) e = absurd (false≢true e)

pub two_words : (ws : Words) → 2 ≤ length ws → word ws 0 ∷ word ws 1 ∷ drop 2 ws ≡ ws
two_words [] h = absurd (omega arith)
two_words (a ∷ []) h = absurd (omega arith)
two_words (a ∷ b ∷ ws) h = refl

module _ (part : Words) (fits : All IsWord part) where
  word_fits : (i : ℕ) → i < length part → IsWord (word part i)
  word_fits i h = all_at IsWord part i (pos 0) h fits

  steps_back : (i : ℕ) → i < length part → word_of (steps_of (word part i)) ≡ word part i
  steps_back i h = word_steps (word part i) (word_fits i h)

  -- an entry that was read is written as it stood
  entry_kept : (i : ℕ) → 2 + ENTRY * i + 5 ≤ length part → (entry_of part i).reference < 2 ^ 31 → entry_words (entry_of part i) ≡ take 5 (drop (2 + ENTRY * i) part)
  unfolding entry_of entry_words
  entry_kept i h k =
      let at : ℕ = 2 + ENTRY * i in
      let e1 : at + 1 ≡ suc at = omega arith in
      let e2 : at + 2 ≡ suc (suc at) = omega arith in
      let e3 : at + 3 ≡ suc (suc (suc at)) = omega arith in
      let e4 : at + 4 ≡ suc (suc (suc (suc at))) = omega arith in
      let r : pos (nat_of (word part at)) ≡ word part at = sym (natural_word (word part at) (word_fits at (omega arith)) k) in
      let s1 = steps_back (at + 1) (omega arith) ∙ ap (word part) e1 in
      let s2 = steps_back (at + 2) (omega arith) ∙ ap (word part) e2 in
      let s3 = steps_back (at + 3) (omega arith) ∙ ap (word part) e3 in
      let s4 = steps_back (at + 4) (omega arith) ∙ ap (word part) e4 in
      rw (r, s1, s2, s3, s4) (sym (five_words part at (omega arith)))

  entries_kept : (a n : ℕ) → 2 + ENTRY * (a + n) ≤ length part → All (λ e. e.reference < 2 ^ 31) (map (entry_of part) (up_from a n))
      → entries_words (map (entry_of part) (up_from a n)) ≡ take (ENTRY * n) (drop (2 + ENTRY * a) part)
  unfolding entries_words
  entries_kept a zero h k = refl
  entries_kept a (suc n) h k =
      let e : ENTRY * suc n ≡ 5 + ENTRY * n = omega arith in
      let g : 2 + ENTRY * a + 5 ≡ 2 + ENTRY * suc a = omega arith in
      let front = entry_kept a (omega arith) k.0 in
      let rest = entries_kept (suc a) n (omega arith) k.1 in
      rw (front, rest, e, take-add 5 (ENTRY * n) (drop (2 + ENTRY * a) part), drop-drop 5 (2 + ENTRY * a) part, g)

  -- ---- a page

  pub page_part : length part ≡ WIDTH → is_natural (word part 0) ≡ true → nat_of (word part 1) ≤ FAN → All (λ e. e.reference < 2 ^ 31) (page_of part).entries
      → every is_zero (drop (2 + ENTRY * filled part) part) ≡ true → part ≡ page_words (page_of part)
  unfolding page_of page_words
  page_part long nat few refs zs =
      let n : ℕ = filled part in
      let es : List Entry = map (entry_of part) (up_from 0 n) in
      let count : length es ≡ n = length-map (up_from 0 n) (entry_of part) ∙ up_length 0 n in
      let first : pos (nat_of (word part 0)) ≡ word part 0 = natural_word_is (word part 0) nat in
      let second : pos (length es) ≡ word part 1 =
      ap pos (omega (arith, count)) ∙ sym (natural_word (word part 1) (word_fits 1 (omega arith)) (omega arith)) in
      let kept : entries_words es ≡ take (ENTRY * n) (drop 2 part) = entries_kept 0 n (omega arith) refs in
      let size : length (drop (2 + ENTRY * n) part) ≡ ENTRY * (FAN - length es) = omega (arith, length-drop (2 + ENTRY * n) part, count) in
      let tail : replicate (ENTRY * (FAN - length es)) (pos 0) ≡ drop (ENTRY * n) (drop 2 part) =
      ap (λ m. replicate m (pos 0)) (sym size) ∙ sym (zeros (drop (2 + ENTRY * n) part) zs) ∙ sym (drop-drop (ENTRY * n) 2 part) in
      sym (rw (first, second, kept, tail, take-append-drop (ENTRY * n) (drop 2 part)) (two_words part (omega arith)))

-- ---- what is written keeps rule 1

pub free_zeros : every is_zero (drop (used_words free_words) free_words) ≡ true
unfolding free_words
free_zeros = refl

pub page_zeros : (p : Page) → length p.entries ≤ FAN → every is_zero (drop (used_words (page_words p)) (page_words p)) ≡ true
unfolding page_words
page_zeros p few =
    let n : ℕ = length p.entries in
    let zs : Words = replicate (ENTRY * (FAN - n)) (pos 0) in
    let m : min n FAN ≡ n = omega arith in
    let d : 2 + ENTRY * n ≡ suc (suc (ENTRY * n)) = omega arith in
    rw (m, d, drop_at (entries_words p.entries) zs (ENTRY * n) (entries_length p.entries)) (all_zeros (ENTRY * (FAN - n)))

-- ---- and fits 32 bits

pub free_fits : All IsWord free_words
unfolding free_words
free_fits = (omega arith, all_replicate IsWord 41 (pos 0) (omega arith))

entry_fits : (e : Entry) → EntryFits e → All IsWord (entry_words e)
unfolding entry_words
entry_fits e h =
    (h.reference, (word_is e.rect.x.low h.x_low, (word_is e.rect.y.low h.y_low, (word_is e.rect.x.high h.x_high, (word_is e.rect.y.high h.y_high, tt)))))

entries_words_fit : (es : List Entry) → All EntryFits es → All IsWord (entries_words es)
unfolding entries_words
entries_words_fit [] a = tt
entries_words_fit (e ∷ es) a = all_append IsWord (entry_words e) (entries_words es) (entry_fits e a.0) (entries_words_fit es a.1)

pub page_words_fit : (p : Page) → PageFits p → All IsWord (page_words p)
unfolding page_words
page_words_fit p h =
    let n : ℕ = ENTRY * (FAN - length p.entries) in
    (h.level, (omega (arith, h.few), all_append IsWord (entries_words p.entries) (replicate n (pos 0)) (entries_words_fit p.entries h.entries) (all_replicate IsWord n (pos 0) (omega arith))))
