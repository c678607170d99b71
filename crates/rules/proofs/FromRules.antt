-- A table that passes every rule and is not empty has the facts of `Ruled`: the references that rules 4 and 5 bound are natural words, so the words of each slot are those of its page. Assumes nothing.
use Prim.Native.Nat.{ℕ, zero, suc, ◌<◌, ◌^◌}
use native.Mathlib.Omega.{arith}
use mathlib.Core.Path.{◌≡◌, refl, subst}
use mathlib.Core.Bool.{true, false, false≢true}
use lib.IntN.{ℤ, pos, negsuc}
use lib.ListN.{length, drop}
use Rattle.words.specs.Word.{IsWord, nat_of}
use Rattle.words.proofs.Words.{natural_word}
use Rattle.order.specs.Lists.{join, All, NoDup}
use Rattle.order.specs.Order.{up_from}
use Rattle.order.proofs.Lists.{all_take, all_drop, all_at, all_then}
use Rattle.figures.specs.Figures.{SLOTS, WIDTH, LENGTH}
use Rattle.table.specs.Words.{Words, word, start_of, part_at}
use Rattle.table.specs.Page.{page_of, page_words, free_words}
use Rattle.table.specs.Slots.{is_free, page_at, level_at, entries_at}
use Rattle.rules.specs.Rules.{is_natural, is_empty, numbers_at}
use Rattle.table.specs.Stations.{is_point}
use Rattle.table.proofs.Slots.{part_length, entries_count}
use Rattle.rules.proofs.Reading.{point}
use Rattle.rules.proofs.OneSlot.{Here, free_word, leaf_leaf, above_above}
use Rattle.rules.proofs.Ruled.{Child, Ruled}
use Rattle.rules.proofs.PartWords.{free_part, page_part}
use Rattle.rules.proofs.EachRule.{free_rest, used_rest, Rule2, rule2_fact, Rule3, rule3_fact, points_fact, new_fact, rule5_fact, rule6_fact, rule7_fact, header_fact}
use Rattle.rules.proofs.EachNew.{all_new}
use Rattle.rules.proofs.Passed.{Passed}

pub part_fits : (ws : Words) → All IsWord ws → (s : ℕ) → All IsWord (part_at ws s)
unfolding part_at
part_fits ws fits s = all_take IsWord WIDTH (drop (start_of s) ws) (all_drop IsWord (start_of s) ws fits)

natural_small : (z : ℤ) → IsWord z → is_natural z ≡ true → nat_of z < 2 ^ 31
natural_small (pos n) h e = h
natural_small (negsuc n) h e = absurd (false≢true e)

module _ {ws : Words} (long : length ws ≡ LENGTH) (fits : All IsWord ws) (p : Passed ws) where
  pub free_words_lem : (s : ℕ) → s < SLOTS → is_free ws s ≡ true → part_at ws s ≡ free_words
  free_words_lem s lt f = free_part (part_at ws s) (part_length ws s long lt) (free_word ws s f) (free_rest ws s f (p.one s lt))

  module _ (s : ℕ) (lt : s < SLOTS) (used : is_free ws s ≡ false) where
    three : Rule3 ws s
    three = rule3_fact ws s used (p.three s lt)

    first_fits : IsWord (word (part_at ws s) 0)
    first_fits = all_at IsWord (part_at ws s) 0 (pos 0) (omega (arith, part_length ws s long lt)) (part_fits ws fits s)

    level_small : level_at ws s < 2 ^ 31
    unfolding page_at page_of
    level_small = natural_small (word (part_at ws s) 0) first_fits three.natural

    entries_number : length (entries_at ws s) ≡ nat_of (word (part_at ws s) 1)
    entries_number = omega (arith, entries_count ws s, three.most)

    -- in a leaf by rule 4, above by rule 5
    small : (l : ℕ) → level_at ws s ≡ l → All (λ e. e.reference < 2 ^ 31) (entries_at ws s)
    small zero e =
        let at : Here ws zero s = record { inside = lt; used = used; level = e } in
        all_then (λ i. is_point i ≡ true) (λ i. i.reference < 2 ^ 31) (λ i h. omega (arith, (point i h).most)) (entries_at ws s)
        (subst (All (λ i. is_point i ≡ true)) (leaf_leaf ws s at) (points_fact ws s (p.four s lt)))
    small (suc l) e =
        let at : Here ws (suc l) s = record { inside = lt; used = used; level = e } in
        all_then (Child ws s) (λ i. i.reference < 2 ^ 31) (λ i c. omega (arith, c.inside)) (entries_at ws s)
        (subst (All (Child ws s)) (above_above ws s at) (rule5_fact ws s (p.five s lt)))

    page_words_lem : part_at ws s ≡ page_words (page_at ws s)
    unfolding page_at
    page_words_lem =
        page_part (part_at ws s) (part_fits ws fits s) (part_length ws s long lt) three.natural three.most (small (level_at ws s) refl)
        (used_rest ws s used (p.one s lt))

  -- no number stands twice, over the slots below n
  numbers_once : (n : ℕ) → n ≡ SLOTS → NoDup (join (numbers_at ws) (up_from 0 n))
  numbers_once n e = all_new (numbers_at ws) n (λ s lt. new_fact ws s (p.four s (omega arith)))

  pub ruled : is_empty ws ≡ false → Ruled ws
  ruled e =
      let two : Rule2 ws = rule2_fact ws p.two e in
      record {
        long = long;
        first = natural_word (word ws 0) (all_at IsWord ws 0 (pos 0) (omega (arith, long)) fits) (omega (arith, two.inside));
        second = natural_word (word ws 1) (all_at IsWord ws 1 (pos 0) (omega (arith, long)) fits) (omega (arith, two.few));
        inside = two.inside;
        used = two.used;
        few = two.few;
        low = level_small;
        least = λ s lt u. omega (arith, (three s lt u).least, entries_number s lt u);
        most = λ s lt u. omega (arith, (three s lt u).most, entries_number s lt u);
        pages = page_words_lem;
        frees = free_words_lem;
        points = λ s lt. points_fact ws s (p.four s lt);
        once = numbers_once SLOTS refl;
        children = λ s lt. rule5_fact ws s (p.five s lt);
        covers = λ s lt. rule6_fact ws s (p.six s lt);
        referred = λ s lt u. rule7_fact ws s (p.seven s lt) u;
        counted = header_fact ws p.header;
      }
