-- The empty table: a table is its two header words and the words of its slots, so one with header −1, 0 whose slots are all free is the empty table. It keeps every rule and has no stations. Assumes nothing.
use Prim.Native.Nat.{ℕ, zero, suc, ◌+◌, ◌*◌, ◌≤◌, ◌<◌}
use native.Mathlib.Omega.{arith}
use native.Mathlib.Nat.{le_of_suc-le-suc}
use mathlib.Core.Path.{◌≡◌, refl, sym, ap, subst, ◌∙◌}
use mathlib.Core.Bool.{true, ◌&&◌}
use mathlib.Core.List.{List, [], ◌∷◌, ◌++◌, map}
use lib.Dec.{eqb}
use lib.IntN.{ℤ, pos, negsuc}
use lib.ListN.{length, take, drop, length-append, take-append-drop, drop_of_length-le}
use lib.Seq.{drop-drop, take_at, drop-append-add}
use borrow.Author.Tests.{eqb-true}
use Rattle.words.specs.Word.{IsWord, nat_of}
use Rattle.words.proofs.Words.{natural_word}
use Rattle.order.specs.Lists.{every, join, All}
use Rattle.order.specs.Order.{up_from}
use Rattle.order.proofs.Lists.{all_at, and_left, and_right}
use Rattle.order.proofs.Order.{up_all}
use Rattle.figures.specs.Figures.{SLOTS, WIDTH, LENGTH}
use Rattle.table.specs.Words.{Words, word, is_minus_one, points_of, start_of, part_at}
use Rattle.table.specs.Page.{free_words, cover_of}
use Rattle.table.specs.Slots.{slots, is_free, entries_at}
use Rattle.table.specs.Stations.{stations, is_point}
use Rattle.table.specs.Empty.{free_slots, empty_table}
use Rattle.rules.specs.Rules.{is_empty, leaf_entries, numbers_at, each_new, entries_above}
use Rattle.table.proofs.Slots.{free_length, free_part_free}
use Rattle.rules.proofs.Tests.{both_true}
use Rattle.rules.proofs.Joined.{join_same, all_join}
use Rattle.rules.proofs.Counted.{up_mem, every_below, below_every}
use Rattle.rules.proofs.OneSlot.{minus_one, free_leaf, free_above}
use Rattle.rules.proofs.PartWords.{two_words, free_fits}
use Rattle.rules.proofs.Enrolled.{stations_length}
use Rattle.rules.proofs.EachRule.{free_rule1, empty_rule2, free_rule3, fact_rule4, fact_rule5, fact_rule6, free_rule7, fact_header}
use Rattle.rules.proofs.Ruled.{Child}
use Rattle.rules.proofs.Passed.{Passed}
use Rattle.rules.proofs.FromRules.{free_words_lem}

-- ---- a table is its header and its slots

parts_from : (ws : Words) (a n : ℕ) → length ws ≤ start_of (a + n) → drop (start_of a) ws ≡ join (part_at ws) (up_from a n)
unfolding part_at
parts_from ws a zero h = drop_of_length-le ws {i = start_of a} (omega arith)
parts_from ws a (suc n) h =
    let part = take WIDTH (drop (start_of a) ws) in
    let e : start_of a + WIDTH ≡ start_of (suc a) = omega arith in
    sym (take-append-drop WIDTH (drop (start_of a) ws))
    ∙ ap (λ l. part ++ l) (drop-drop WIDTH (start_of a) ws ∙ ap (λ k. drop k ws) e ∙ parts_from ws (suc a) n (omega arith))

pub table_parts : (ws : Words) → length ws ≡ LENGTH → ws ≡ word ws 0 ∷ word ws 1 ∷ join (part_at ws) slots
table_parts ws long =
    sym (two_words ws (omega (arith, long)))
    ∙ ap (λ l. word ws 0 ∷ word ws 1 ∷ l) (parts_from ws 0 SLOTS (omega (arith, long)))

-- ---- free slots in a row

free_join : (a n : ℕ) → join (λ s. free_words) (up_from a n) ≡ free_slots n
free_join a zero = refl
free_join a (suc n) = ap (λ l. free_words ++ l) (free_join (suc a) n)

free_run : (n s : ℕ) → s < n → take WIDTH (drop (WIDTH * s) (free_slots n)) ≡ free_words
free_run zero s h = absurd (omega arith)
free_run (suc n) zero h = take_at free_words (free_slots n) WIDTH free_length
free_run (suc n) (suc s) h =
    let e : WIDTH * suc s ≡ length free_words + WIDTH * s = omega (arith, free_length) in
    ap (λ k. take WIDTH (drop k (free_words ++ free_slots n))) e
    ∙ ap (take WIDTH) (drop-append-add free_words (free_slots n) (WIDTH * s))
    ∙ free_run n s (le_of_suc-le-suc h)

free_long : (n : ℕ) → length (free_slots n) ≡ WIDTH * n
free_long zero = refl
free_long (suc n) = omega (arith, length-append free_words (free_slots n), free_length, free_long n)

-- ---- header −1, 0, and nothing else

pub record Blank (ws : Words) : Type 0 where
  pub long : length ws ≡ LENGTH
  pub first : word ws 0 ≡ negsuc 0
  pub second : word ws 1 ≡ pos 0
  pub frees : (s : ℕ) → s < SLOTS → part_at ws s ≡ free_words

pub blank_empty : {ws : Words} → Blank ws → ws ≡ empty_table
unfolding empty_table
blank_empty {ws} b =
    table_parts ws b.long
    ∙ ap (λ w. w ∷ word ws 1 ∷ join (part_at ws) slots) b.first
    ∙ ap (λ w. negsuc 0 ∷ w ∷ join (part_at ws) slots) b.second
    ∙ ap (λ l. negsuc 0 ∷ pos 0 ∷ l)
    (join_same (part_at ws) (λ s. free_words) slots (λ s m. b.frees s (up_mem s 0 SLOTS m).1) ∙ free_join 0 SLOTS)

pub empty_blank : Blank empty_table
unfolding empty_table part_at
empty_blank =
    record {
      long = omega (arith, free_long SLOTS);
      first = refl;
      second = refl;
      frees = λ s lt.
          let e : start_of s ≡ suc (suc (WIDTH * s)) = omega arith in
          ap (λ k. take WIDTH (drop k (negsuc 0 ∷ pos 0 ∷ free_slots SLOTS))) e ∙ free_run SLOTS s lt;
    }

-- ---- it keeps the rules

join_none : {B : Type 0} (a n : ℕ) → join {B = B} (λ s. []) (up_from a n) ≡ []
join_none a zero = refl
join_none a (suc n) = join_none (suc a) n

length_none : {A : Type 0} (xs : List A) → length xs ≡ 0 → xs ≡ []
length_none [] e = refl
length_none (x ∷ xs) e = absurd (omega arith)

module _ {ws : Words} (b : Blank ws) where
  all_free : (s : ℕ) → s < SLOTS → is_free ws s ≡ true
  all_free s lt = free_part_free ws s (b.frees s lt)

  no_leaf : (s : ℕ) → s < SLOTS → leaf_entries ws s ≡ []
  no_leaf s lt = free_leaf ws s (all_free s lt)

  no_above : (s : ℕ) → s < SLOTS → entries_above ws s ≡ []
  no_above s lt = free_above ws s (all_free s lt)

  pub blank_is_empty : is_empty ws ≡ true
  unfolding is_empty
  blank_is_empty =
      both_true (ap is_minus_one b.first) (both_true (ap (λ w. eqb (nat_of w) 0) b.second) (below_every (is_free ws) SLOTS all_free))

  no_leaves : join (leaf_entries ws) slots ≡ []
  no_leaves = join_same (leaf_entries ws) (λ s. []) slots (λ s m. no_leaf s (up_mem s 0 SLOTS m).1) ∙ join_none 0 SLOTS

  pub blank_passed : Passed ws
  blank_passed =
      record {
        one = λ s lt. free_rule1 ws s (b.frees s lt);
        two = empty_rule2 ws blank_is_empty;
        three = λ s lt. free_rule3 ws s (all_free s lt);
        four = λ s lt.
            fact_rule4 ws s (subst (All (λ e. is_point e ≡ true)) (sym (no_leaf s lt)) tt)
            (ap (λ es. each_new (join (numbers_at ws) (up_from 0 s)) (map (λ e. e.reference) es)) (no_leaf s lt));
        five = λ s lt. fact_rule5 ws s (subst (All (Child ws s)) (sym (no_above s lt)) tt);
        six = λ s lt. fact_rule6 ws s (subst (All (λ e. e.rect ≡ cover_of (entries_at ws e.reference))) (sym (no_above s lt)) tt);
        header = fact_header ws (ap nat_of b.second ∙ ap length (sym no_leaves));
        seven = λ s lt. free_rule7 ws s (all_free s lt);
      }

  pub blank_stations : stations ws ≡ []
  blank_stations = length_none (stations ws) (stations_length ws ∙ ap length no_leaves)

-- ---- its words fit 32 bits

pub blank_fits : {ws : Words} → Blank ws → All IsWord ws
blank_fits {ws} b =
    subst (All IsWord) (sym (table_parts ws b.long)) (
      subst IsWord (sym b.first) (omega arith),
      (
        subst IsWord (sym b.second) (omega arith),
        all_join IsWord (part_at ws) slots
            (up_all (λ s. All IsWord (part_at ws s)) 0 SLOTS (λ s k lt. subst (All IsWord) (sym (b.frees s lt)) free_fits)),
      ),
    )

-- ---- a table that keeps the rules and is empty

natural_zero : (z : ℤ) → IsWord z → nat_of z ≡ 0 → z ≡ pos 0
natural_zero z h e = natural_word z h (omega arith) ∙ ap pos e

pub passed_blank : {ws : Words} → length ws ≡ LENGTH → All IsWord ws → Passed ws → is_empty ws ≡ true → Blank ws
unfolding is_empty
passed_blank {ws} long fits p e =
    let a = is_minus_one (word ws 0) in
    let z = eqb (points_of ws) 0 in
    let f = every (is_free ws) slots in
    let r = and_right a (z && f) e in
    record {
      long = long;
      first = minus_one (word ws 0) (and_left a (z && f) e);
      second = natural_zero (word ws 1) (all_at IsWord ws 1 (pos 0) (omega (arith, long)) fits) (eqb-true (points_of ws) 0 (and_left z f r));
      frees = λ s lt. free_words_lem long fits p s lt (every_below (is_free ws) SLOTS (and_right z f r) s lt);
    }
