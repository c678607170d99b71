-- The stations of a table are those of its leaf entries, slot by slot, where the words fit 32 bits. Assumes nothing.
use Prim.Native.Nat.{ℕ, zero, suc, ◌+◌, ◌*◌, ◌<◌}
use native.Mathlib.Omega.{arith}
use mathlib.Core.Path.{◌≡◌, refl, sym, ap, ◌∙◌}
use mathlib.Core.Bool.{Bool, true, false, cond}
use mathlib.Core.List.{List, [], ◌∷◌, map, map-map}
use lib.ListN.{length, length-append, length-map}
use Rattle.words.specs.Word.{IsWord}
use Rattle.words.proofs.Words.{word_steps}
use Rattle.order.specs.Lists.{join, All}
use Rattle.order.specs.Order.{up_from}
use Rattle.order.proofs.Order.{up_length}
use Rattle.figures.specs.Figures.{SLOTS, ENTRY}
use Rattle.table.specs.Words.{Words, word, part_at}
use Rattle.table.specs.Page.{entry_of, filled, page_of}
use Rattle.table.specs.Slots.{slots, page_at, entries_at}
use Rattle.table.specs.Stations.{station_of, station_of_entry, is_leaf, stations_at, stations}
use Rattle.rules.specs.Rules.{leaf_entries}
use Rattle.table.proofs.Slots.{entries_count}
use Rattle.rules.proofs.Joined.{join_same, map_join}
use Rattle.rules.proofs.Counted.{up_mem}

-- joins of lists of the same lengths
join_length : {A B C : Type 0} (f : A → List B) (g : A → List C) (xs : List A) → ((x : A) → length (f x) ≡ length (g x)) → length (join f xs) ≡ length (join g xs)
join_length f g [] h = refl
join_length f g (x ∷ xs) h =
    omega (arith, length-append (f x) (join f xs), length-append (g x) (join g xs), h x, join_length f g xs h)

cond_length : {A B : Type 0} (b : Bool) (xs : List A) (ys : List B) → length xs ≡ length ys → length (cond b xs []) ≡ length (cond b ys [])
cond_length true xs ys e = e
cond_length false xs ys e = refl

-- ---- how many

stations_at_length : (ws : Words) (s : ℕ) → length (stations_at ws s) ≡ length (leaf_entries ws s)
stations_at_length ws s =
    let part = part_at ws s in
    let places = up_from 0 (filled part) in
    cond_length (is_leaf ws s) (map (station_of part) places) (entries_at ws s)
    (length-map places (station_of part) ∙ up_length 0 (filled part) ∙ sym (entries_count ws s))

pub stations_length : (ws : Words) → length (stations ws) ≡ length (join (leaf_entries ws) slots)
unfolding stations
stations_length ws = join_length (stations_at ws) (leaf_entries ws) slots (stations_at_length ws)

-- ---- which

word_in : (ws : Words) → All IsWord ws → (i : ℕ) → IsWord (word ws i)
word_in [] a i = omega arith
word_in (w ∷ ws) a zero = a.0
word_in (w ∷ ws) a (suc i) = word_in ws a.1 i

station_entry : (part : Words) → All IsWord part → (i : ℕ) → station_of part i ≡ station_of_entry (entry_of part i)
unfolding entry_of
station_entry part fits i =
    let x = word_steps (word part (2 + ENTRY * i + 1)) (word_in part fits (2 + ENTRY * i + 1)) in
    let y = word_steps (word part (2 + ENTRY * i + 2)) (word_in part fits (2 + ENTRY * i + 2)) in
    rw (x, y)

map_same : {A B : Type 0} (f g : A → B) (xs : List A) → ((x : A) → f x ≡ g x) → map f xs ≡ map g xs
map_same f g xs h = ap (λ k. map k xs) (λ i x. h x i)

map_cond : {A B : Type 0} (f : A → B) (b : Bool) (xs : List A) → map f (cond b xs []) ≡ cond b (map f xs) []
map_cond f true xs = refl
map_cond f false xs = refl

stations_at_lem : (ws : Words) (s : ℕ) → All IsWord (part_at ws s) → stations_at ws s ≡ map station_of_entry (leaf_entries ws s)
unfolding page_at page_of
stations_at_lem ws s fits =
    let part = part_at ws s in
    let places = up_from 0 (filled part) in
    ap (λ l. cond (is_leaf ws s) l [])
    (map_same (station_of part) (λ i. station_of_entry (entry_of part i)) places (station_entry part fits)
    ∙ sym (map-map station_of_entry (entry_of part) places))
    ∙ sym (map_cond station_of_entry (is_leaf ws s) (entries_at ws s))

pub stations_leaves : (ws : Words) → ((s : ℕ) → s < SLOTS → All IsWord (part_at ws s)) → stations ws ≡ map station_of_entry (join (leaf_entries ws) slots)
unfolding stations
stations_leaves ws fits =
    join_same (stations_at ws) (λ s. map station_of_entry (leaf_entries ws s)) slots
    (λ s m. stations_at_lem ws s (fits s (up_mem s 0 SLOTS m).1))
    ∙ sym (map_join station_of_entry (leaf_entries ws) slots)
