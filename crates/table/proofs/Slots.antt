-- The frame laws of the table's slots: a slot written holds what was written, every other slot and the header stay, and a page written is read back.
-- Where slots lie is said once (`room`, `apart`); from there on each law is one of a run of words. Assumes nothing.
use Prim.Native.Nat.{ℕ, zero, suc, ◌+◌, ◌-◌, ◌*◌, ◌≤◌, ◌<◌, min}
use mathlib.Core.Path.{◌≡◌, refl, sym, ap, ◌∙◌}
use mathlib.Core.Bool.{Bool, true, false, cond}
use mathlib.Core.List.{List, [], ◌∷◌, ◌++◌, map, append_assoc}
use native.Mathlib.Decide.{dec_lt}
use native.Mathlib.Nat.{zero-add}
use native.Mathlib.Omega.{arith}
use lib.IntN.{ℤ, pos}
use lib.ListN.{length, get_or, take, drop, set, replicate, length-append, length-drop, length-map, length-replicate}
use lib.Seq.{get_or-take, get_or-drop, split_at, drop-set-lt, length-take-le, get_or-append-add}
use Rattle.axis.proofs.Axis.{span_ext}
use Rattle.grid.proofs.Rects.{rect_ext}
use Rattle.words.proofs.Words.{steps_word}
use Rattle.words.specs.Word.{steps_of, nat_of}
use Rattle.order.specs.Lists.{All, first_place}
use Rattle.order.specs.Order.{up_from}
use Rattle.order.proofs.Lists.{by_bool, map_at, all_at}
use Rattle.order.proofs.Order.{up_length, up_at}
use Rattle.table.specs.declared.node.Entry.{Entry}
use Rattle.figures.specs.Figures.{FAN, SLOTS, ENTRY, WIDTH, LENGTH}
use Rattle.table.specs.Words.{Words, word, is_minus_one, start_of, part_at, placed}
use Rattle.table.specs.Page.{Page, entry_of, filled, page_of, entry_words, entries_words, page_words, free_words, EntryFits, PageFits, blank_entry}
use Rattle.table.specs.Slots.{is_free, page_at, entries_at, put_page, freed, lowest_free}
use Rattle.table.proofs.Nodes.{entry_ext}
pub use Rattle.table.proofs.Nodes.{page_ext}
use Rattle.table.proofs.Placed.{placed_length, placed_here, placed_left, placed_before, placed_after}

-- ---- where slots lie

pub room : (s : ℕ) → s < SLOTS → start_of s + WIDTH ≤ LENGTH
room s h = omega arith

pub apart : (s o : ℕ) → s < o → start_of s + WIDTH ≤ start_of o
apart s o h = omega arith

pub part_length : (ws : Words) (s : ℕ) → length ws ≡ LENGTH → s < SLOTS → length (part_at ws s) ≡ WIDTH
unfolding part_at
part_length ws s l h =
    length-take-le WIDTH (drop (start_of s) ws) (omega (arith, length-drop (start_of s) ws, room s h))

-- a word of a slot is a word of the table
pub word_at : (ws : Words) (s j : ℕ) → j < WIDTH → word (part_at ws s) j ≡ word ws (start_of s + j)
unfolding part_at
word_at ws s j h = get_or-take WIDTH (drop (start_of s) ws) j (pos 0) h ∙ get_or-drop (start_of s) ws j (pos 0)

-- ---- how long written words are

pub entry_length : (e : Entry) → length (entry_words e) ≡ ENTRY
unfolding entry_words
entry_length e = refl

pub entries_length : (es : List Entry) → length (entries_words es) ≡ ENTRY * length es
unfolding entries_words
entries_length [] = refl
entries_length (e ∷ es) =
    length-append (entry_words e) (entries_words es) ∙ omega (arith, entry_length e, entries_length es)

pub page_length : (p : Page) → length p.entries ≤ FAN → length (page_words p) ≡ WIDTH
unfolding page_words
page_length p h =
    let n = ENTRY * (FAN - length p.entries) in
    omega (
      arith,
      length-append (entries_words p.entries) (replicate n (pos 0)),
      entries_length p.entries,
      length-replicate n (pos 0),
    )

pub free_length : length free_words ≡ WIDTH
unfolding free_words
free_length = refl

-- ---- 42 words put into a slot

module _ (ws : Words) (s : ℕ) (vs : Words) (long : length ws ≡ LENGTH) (low : s < SLOTS) (wide : length vs ≡ WIDTH) where
  fits : start_of s + length vs ≤ length ws
  fits = omega (arith, room s low)

  pub slot_here : part_at (placed ws (start_of s) vs) s ≡ vs
  unfolding part_at
  slot_here =
      ap (λ (n : ℕ). take n (drop (start_of s) (placed ws (start_of s) vs))) (sym wide) ∙ placed_here ws (start_of s) vs fits

  pub slot_other : (o : ℕ) → (o ≡ s → ⊥) → part_at (placed ws (start_of s) vs) o ≡ part_at ws o
  unfolding part_at
  slot_other o d = go (dec_lt o s)
    where
      go : Dec (o < s) → take WIDTH (drop (start_of o) (placed ws (start_of s) vs)) ≡ take WIDTH (drop (start_of o) ws)
      go (yes h) = placed_before ws (start_of s) vs fits (start_of o) WIDTH (apart o s h)
      go (no h) = placed_after ws (start_of s) vs fits (start_of o) WIDTH (omega (arith, apart s o (omega arith)))

  pub slot_long : length (placed ws (start_of s) vs) ≡ length ws
  slot_long = placed_length ws (start_of s) vs fits

  pub slot_header : (i : ℕ) → i < 2 → word (placed ws (start_of s) vs) i ≡ word ws i
  slot_header i h = placed_left ws (start_of s) vs fits i (omega arith)

module _ (ws : Words) (s : ℕ) (p : Page) (long : length ws ≡ LENGTH) (low : s < SLOTS) (few : length p.entries ≤ FAN) where
  pub put_here : part_at (put_page ws s p) s ≡ page_words p
  unfolding put_page
  put_here = slot_here ws s (page_words p) long low (page_length p few)

  pub put_other : (o : ℕ) → (o ≡ s → ⊥) → part_at (put_page ws s p) o ≡ part_at ws o
  unfolding put_page
  put_other = slot_other ws s (page_words p) long low (page_length p few)

  pub put_long : length (put_page ws s p) ≡ length ws
  unfolding put_page
  put_long = slot_long ws s (page_words p) long low (page_length p few)

  pub put_header : (i : ℕ) → i < 2 → word (put_page ws s p) i ≡ word ws i
  unfolding put_page
  put_header = slot_header ws s (page_words p) long low (page_length p few)

module _ (ws : Words) (s : ℕ) (long : length ws ≡ LENGTH) (low : s < SLOTS) where
  pub freed_here : part_at (freed ws s) s ≡ free_words
  unfolding freed
  freed_here = slot_here ws s free_words long low free_length

  pub freed_other : (o : ℕ) → (o ≡ s → ⊥) → part_at (freed ws s) o ≡ part_at ws o
  unfolding freed
  freed_other = slot_other ws s free_words long low free_length

  pub freed_long : length (freed ws s) ≡ length ws
  unfolding freed
  freed_long = slot_long ws s free_words long low free_length

  pub freed_header : (i : ℕ) → i < 2 → word (freed ws s) i ≡ word ws i
  unfolding freed
  freed_header = slot_header ws s free_words long low free_length

-- ---- a header word

pub header_part : (ws : Words) (i : ℕ) (v : ℤ) → i < 2 → (s : ℕ) → part_at (set ws i v) s ≡ part_at ws s
unfolding part_at
header_part ws i v h s = ap (take WIDTH) (drop-set-lt (start_of s) ws i v (omega arith))

-- ---- what is written is read back

-- two entries are equal by their five numbers
pub entry_fields : {a b : Entry} → a.reference ≡ b.reference → a.rect.x.low ≡ b.rect.x.low → a.rect.y.low ≡ b.rect.y.low
    → a.rect.x.high ≡ b.rect.x.high → a.rect.y.high ≡ b.rect.y.high → a ≡ b
entry_fields p q r s t = entry_ext p (rect_ext (span_ext q s) (span_ext r t))

-- an entry's words, where its place says, are read as the entry
pub entry_back : (xs : Words) (e : Entry) (ys : Words) (i : ℕ) → 2 + ENTRY * i ≡ length xs → EntryFits e
    → entry_of (xs ++ (entry_words e ++ ys)) i ≡ e
unfolding entry_of entry_words
entry_back xs e ys i m f =
    entry_fields
    (ap nat_of (at 0 (2 + ENTRY * i) (omega arith)))
    (ap steps_of (at 1 (2 + ENTRY * i + 1) (omega arith)) ∙ steps_word _ f.x_low)
    (ap steps_of (at 2 (2 + ENTRY * i + 2) (omega arith)) ∙ steps_word _ f.y_low)
    (ap steps_of (at 3 (2 + ENTRY * i + 3) (omega arith)) ∙ steps_word _ f.x_high)
    (ap steps_of (at 4 (2 + ENTRY * i + 4) (omega arith)) ∙ steps_word _ f.y_high)
  where
    at : (k n : ℕ) → n ≡ length xs + k → word (xs ++ (entry_words e ++ ys)) n ≡ word (entry_words e ++ ys) k
    at k n q = ap (word (xs ++ (entry_words e ++ ys))) q ∙ get_or-append-add xs (entry_words e ++ ys) k (pos 0)

pub entries_append : (es fs : List Entry) → entries_words (es ++ fs) ≡ entries_words es ++ entries_words fs
unfolding entries_words
entries_append [] fs = refl
entries_append (e ∷ es) fs =
    ap (λ (x : Words). entry_words e ++ x) (entries_append es fs)
    ∙ sym (append_assoc (entry_words e) (entries_words es) (entries_words fs))

-- two words, the entries, and what stands behind them
module _ (a b : ℤ) (es : List Entry) (zs : Words) where
  -- where the words of entry i stand
  pub entry_place : (i : ℕ) → i < length es
      → a ∷ b ∷ entries_words es ++ zs
      ≡ (a ∷ b ∷ entries_words (take i es)) ++ (entry_words (get_or es i blank_entry) ++ (entries_words (drop (suc i) es) ++ zs))
  unfolding entries_words
  entry_place i h =
      ap (λ (x : List Entry). a ∷ b ∷ entries_words x ++ zs) (split_at es i blank_entry h)
      ∙ ap (λ (x : Words). a ∷ b ∷ x ++ zs) (entries_append (take i es) (get_or es i blank_entry ∷ drop (suc i) es))
      ∙ simp append_assoc

  pub entry_at : (i : ℕ) → i < length es → All EntryFits es → entry_of (a ∷ b ∷ entries_words es ++ zs) i ≡ get_or es i blank_entry
  entry_at i h f =
      let xs = a ∷ b ∷ entries_words (take i es) in
      let m : 2 + ENTRY * i ≡ length xs = omega (arith, entries_length (take i es), length-take-le i es (omega arith)) in
      ap (λ (x : Words). entry_of x i) (entry_place i h)
      ∙ entry_back xs (get_or es i blank_entry) (entries_words (drop (suc i) es) ++ zs) i m (all_at EntryFits es i blank_entry h f)

-- what a function gives at each place is the list that has it there
pub map_up : {A : Type 0} (f : ℕ → A) (es : List A) (d : A) (a : ℕ) → ((i : ℕ) → i < length es → f (a + i) ≡ get_or es i d)
    → map f (up_from a (length es)) ≡ es
map_up f [] d a h = refl
map_up f (e ∷ es) d a h =
    let k : a + 0 ≡ a = omega arith in
    let q : f a ≡ e = ap f (sym k) ∙ h 0 (omega arith) in
    let r : map f (up_from (suc a) (length es)) ≡ es =
    map_up f es d (suc a)
    (λ i l.
    let m : suc a + i ≡ a + suc i = omega arith in
    ap f m ∙ h (suc i) (omega arith)) in
    cc

pub page_back : (p : Page) → PageFits p → page_of (page_words p) ≡ p
unfolding page_of page_words
page_back p f =
    let es = p.entries in
    let ws = page_words p in
    let m : min (length es) FAN ≡ length es = omega (arith, f.few) in
    page_ext refl
    (ap (λ (n : ℕ). map (entry_of ws) (up_from 0 n)) m
    ∙ map_up (entry_of ws) es blank_entry 0
    (λ i h.
    ap (entry_of ws) (zero-add i)
    ∙ entry_at (pos p.level) (pos (length es)) es (replicate (ENTRY * (FAN - length es)) (pos 0)) i h f.entries))

-- word 1 of a slot says how many entries it has, eight at most
pub entries_count : (ws : Words) (s : ℕ) → length (entries_at ws s) ≡ filled (part_at ws s)
unfolding page_at page_of
entries_count ws s = length-map (up_from 0 (filled (part_at ws s))) (entry_of (part_at ws s)) ∙ up_length 0 (filled (part_at ws s))

-- so no more than a node may have, whatever its words are
pub page_few : (ws : Words) (s : ℕ) → length (entries_at ws s) ≤ FAN
page_few ws s = omega (arith, entries_count ws s)

-- entry i of a slot is that of its words
pub entries_at_lem : (ws : Words) (s i : ℕ) → i < length (entries_at ws s) → entry_of (part_at ws s) i ≡ get_or (entries_at ws s) i blank_entry
unfolding page_at page_of
entries_at_lem ws s i h =
    let part = part_at ws s in
    let n = filled part in
    let l : i < n = omega (arith, entries_count ws s) in
    sym (map_at (entry_of part) (up_from 0 n) 0 blank_entry i (omega (arith, up_length 0 n)) ∙ ap (entry_of part) (up_at 0 n i l ∙ zero-add i))

-- ---- free and used

pub free_part_free : (ws : Words) (s : ℕ) → part_at ws s ≡ free_words → is_free ws s ≡ true
unfolding is_free free_words
free_part_free ws s e = ap (λ (x : Words). is_minus_one (word x 0)) e

pub page_part_used : (ws : Words) (s : ℕ) (p : Page) → part_at ws s ≡ page_words p → is_free ws s ≡ false
unfolding is_free page_words
page_part_used ws s p e = ap (λ (x : Words). is_minus_one (word x 0)) e

-- ---- the first place of those from a on that pass a test

module _ (P : ℕ → Bool) where
  pub first_most : (a n : ℕ) → first_place P (up_from a n) ≤ n
  first_most a zero = omega arith
  first_most a (suc n) =
      let ih = first_most (suc a) n in
      by_bool (λ b. cond b 0 (1 + first_place P (up_from (suc a) n)) ≤ suc n) (P a) (λ e. omega arith) (λ e. omega arith)

  pub first_passes : (a n : ℕ) → first_place P (up_from a n) < n → P (a + first_place P (up_from a n)) ≡ true
  first_passes a zero h = absurd (omega arith)
  first_passes a (suc n) h =
      let k : a + 0 ≡ a = omega arith in
      let r = first_place P (up_from (suc a) n) in
      let ih : r < n → P (suc a + r) ≡ true = first_passes (suc a) n in
      let m : a + (1 + r) ≡ suc a + r = omega arith in
      by_bool (λ b. P a ≡ b → cond b 0 (1 + r) < suc n → P (a + cond b 0 (1 + r)) ≡ true) (P a)
      (λ e f l. ap P k ∙ f)
      (λ e f l. ap P m ∙ ih (omega arith))
      refl h

  pub first_least : (a n i : ℕ) → i < n → P (a + i) ≡ true → first_place P (up_from a n) ≤ i
  first_least a zero i h t = absurd (omega arith)
  first_least a (suc n) zero h t =
      let k : a + 0 ≡ a = omega arith in
      let e : P a ≡ true = ap P (sym k) ∙ t in
      rw e (omega arith)
  first_least a (suc n) (suc i) h t =
      let m : suc a + i ≡ a + suc i = omega arith in
      let ih = first_least (suc a) n i (omega arith) (ap P m ∙ t) in
      by_bool (λ b. cond b 0 (1 + first_place P (up_from (suc a) n)) ≤ suc i) (P a) (λ e. omega arith) (λ e. omega arith)

module _ (ws : Words) where
  pub lowest_most : lowest_free ws ≤ SLOTS
  unfolding lowest_free
  lowest_most = first_most (is_free ws) 0 SLOTS

  pub lowest_free_lem : lowest_free ws < SLOTS → is_free ws (lowest_free ws) ≡ true
  unfolding lowest_free
  lowest_free_lem h = ap (is_free ws) (sym (zero-add _)) ∙ first_passes (is_free ws) 0 SLOTS h

  pub lowest_least : (s : ℕ) → s < SLOTS → is_free ws s ≡ true → lowest_free ws ≤ s
  unfolding lowest_free
  lowest_least s h t = first_least (is_free ws) 0 SLOTS s h (ap (is_free ws) (zero-add s) ∙ t)

  -- all below are used, and it is free or there is none
  pub lowest_only : (s : ℕ) → s ≤ SLOTS → ((o : ℕ) → o < s → is_free ws o ≡ false) → (s < SLOTS → is_free ws s ≡ true) → s ≡ lowest_free ws
  lowest_only s h used free = go (dec_lt (lowest_free ws) s) (dec_lt s SLOTS)
    where
      go : Dec (lowest_free ws < s) → Dec (s < SLOTS) → s ≡ lowest_free ws
      go (yes k) d =
          let t : is_free ws (lowest_free ws) ≡ true = lowest_free_lem (omega arith) in
          let f : is_free ws (lowest_free ws) ≡ false = used (lowest_free ws) k in
          let z : ◌≡◌ {A = ℕ} 0 1 = cc in
          absurd (omega arith)
      go (no k) (yes l) = omega (arith, lowest_least s l (free l))
      go (no k) (no l) = omega (arith, lowest_most)
