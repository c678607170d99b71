-- A table holds one tree at most: the words of a page determine the page, so the words of the slots determine the tree from the root's slot down. By recursion on the level. Assumes nothing.
use Prim.Native.Nat.{ℕ, zero, suc, ◌-◌, ◌*◌, ◌<◌}
use native.Mathlib.Omega.{arith}
use native.Mathlib.Decide.{dec_lt}
use mathlib.Core.Path.{◌≡◌, refl, sym, ap, ◌∙◌}
use mathlib.Core.List.{List, [], ◌∷◌, ◌++◌, map, append_assoc}
use lib.IntN.{pos, pos-ne-negsuc}
use lib.ListN.{length, replicate}
use Rattle.axis.proofs.Axis.{span_ext}
use Rattle.words.specs.Word.{word_of, nat_of}
use Rattle.words.proofs.Words.{word_left, word_right}
use Rattle.grid.proofs.Rects.{rect_ext}
use Rattle.order.specs.Lists.{All}
use Rattle.table.specs.declared.node.Entry.{Entry}
use Rattle.figures.specs.Figures.{FAN, ENTRY}
use Rattle.table.specs.Words.{Words, part_at}
use Rattle.table.specs.Page.{page, entry_words, entries_words, page_words}
use Rattle.table.specs.Tree.{Tree, top_of, entry_of_tree, entries_of_tree, Stored, Holds}
use Rattle.table.proofs.Nodes.{entry_ext}
use Rattle.rules.proofs.Reading.{entry_reference, stored_part}

-- ---- words

word_only : (a b : ℕ) → word_of a ≡ word_of b → a ≡ b
word_only a b e = go (dec_lt a 2147483648) (dec_lt b 2147483648)
  where
    go : Dec (a < 2147483648) → Dec (b < 2147483648) → a ≡ b
    go (yes k) (yes m) =
        let p = word_left a k in
        let q = word_left b m in
        let r : 2147483647 - a ≡ 2147483647 - b = cc in
        omega arith
    go (yes k) (no m) =
        let p = word_left a k in
        let q = word_right b (omega arith) in
        absurd (pos-ne-negsuc (b - 2147483648) (2147483647 - a) (sym q ∙ sym e ∙ p))
    go (no k) (yes m) =
        let p = word_right a (omega arith) in
        let q = word_left b m in
        absurd (pos-ne-negsuc (a - 2147483648) (2147483647 - b) (sym p ∙ e ∙ q))
    go (no k) (no m) =
        let p = word_right a (omega arith) in
        let q = word_right b (omega arith) in
        let r : a - 2147483648 ≡ b - 2147483648 = cc in
        omega arith

-- ---- pages

-- five words in front determine an entry, and the rest is the rest
record Fives (e f : Entry) (xs ys : Words) : Type 0 where
  entry : e ≡ f
  rest : xs ≡ ys

fives : (e f : Entry) (xs ys : Words) → entry_words e ++ xs ≡ entry_words f ++ ys → Fives e f xs ys
unfolding entry_words
fives e f xs ys q =
    let a : e.reference ≡ f.reference = cc in
    let b : word_of e.rect.x.low ≡ word_of f.rect.x.low = cc in
    let c : word_of e.rect.y.low ≡ word_of f.rect.y.low = cc in
    let d : word_of e.rect.x.high ≡ word_of f.rect.x.high = cc in
    let g : word_of e.rect.y.high ≡ word_of f.rect.y.high = cc in
    record {
      entry = entry_ext a
          (rect_ext (span_ext (word_only e.rect.x.low f.rect.x.low b) (word_only e.rect.x.high f.rect.x.high d))
          (span_ext (word_only e.rect.y.low f.rect.y.low c) (word_only e.rect.y.high f.rect.y.high g)));
      rest = cc;
    }

entries_only : (es fs : List Entry) (xs ys : Words) → length es ≡ length fs → entries_words es ++ xs ≡ entries_words fs ++ ys → es ≡ fs
unfolding entries_words
entries_only [] [] xs ys n q = refl
entries_only [] (f ∷ fs) xs ys n q = absurd (omega arith)
entries_only (e ∷ es) [] xs ys n q = absurd (omega arith)
entries_only (e ∷ es) (f ∷ fs) xs ys n q =
    let r : entry_words e ++ (entries_words es ++ xs) ≡ entry_words f ++ (entries_words fs ++ ys) =
    sym (append_assoc (entry_words e) (entries_words es) xs) ∙ q ∙ append_assoc (entry_words f) (entries_words fs) ys in
    let s = fives e f (entries_words es ++ xs) (entries_words fs ++ ys) r in
    let here = s.entry in
    let more = entries_only es fs xs ys (omega arith) s.rest in
    cc

pub page_only : (k l : ℕ) (es fs : List Entry) → page_words (page k es) ≡ page_words (page l fs) → (k ≡ l) × (es ≡ fs)
unfolding page_words
page_only k l es fs q =
    let a : k ≡ l = cc in
    let n : length es ≡ length fs = cc in
    let zs : List Entry → Words = λ gs. replicate (ENTRY * (FAN - length gs)) (pos 0) in
    let r : entries_words es ++ zs es ≡ entries_words fs ++ zs fs = cc in
    (a, entries_only es fs (zs es) (zs fs) n r)

-- ---- trees

module _ (ws : Words) where
  stored_same : (k l : ℕ) (t : Tree k) (u : Tree l) → Stored k ws t → Stored l ws u → top_of k t ≡ top_of l u → (k ≡ l) × (entries_of_tree k t ≡ entries_of_tree l u)
  stored_same k l t u st su e =
      page_only k l (entries_of_tree k t) (entries_of_tree l u) (sym (stored_part ws k t st) ∙ ap (part_at ws) e ∙ stored_part ws l u su)

  -- children with the same entries are the same
  trees_only : (l : ℕ) → ((t u : Tree l) → Stored l ws t → Stored l ws u → top_of l t ≡ top_of l u → t ≡ u) → (ts us : List (Tree l))
      → All (Stored l ws) ts → All (Stored l ws) us → map (entry_of_tree l) ts ≡ map (entry_of_tree l) us → ts ≡ us
  trees_only l k [] [] a b e = refl
  trees_only l k [] (u ∷ us) a b e = absurd (omega (arith, ap length e))
  trees_only l k (t ∷ ts) [] a b e = absurd (omega (arith, ap length e))
  trees_only l k (t ∷ ts) (u ∷ us) a b e =
      let same : entry_of_tree l t ≡ entry_of_tree l u = cc in
      let here : t ≡ u =
      k t u a.0 b.0 (sym (entry_reference l t) ∙ ap (λ i. i.reference) same ∙ entry_reference l u) in
      let more : ts ≡ us = trees_only l k ts us a.1 b.1 (cc) in
      cc

  pub stored_only : (l : ℕ) (t u : Tree l) → Stored l ws t → Stored l ws u → top_of l t ≡ top_of l u → t ≡ u
  stored_only zero t u st su e =
      let f = (stored_same zero zero t u st su e).1 in
      λ i. record { slot = e i; items = f i }
  stored_only (suc l) t u st su e =
      let f = trees_only l (stored_only l) t.items u.items st.1 su.1 (stored_same (suc l) (suc l) t u st su e).1 in
      λ i. record { slot = e i; items = f i }

-- ---- the tree that a table holds

same_top : {ws : Words} {k l : ℕ} {t : Tree k} {u : Tree l} → Holds ws k t → Holds ws l u → top_of k t ≡ top_of l u
same_top h i = ap nat_of (sym h.root ∙ i.root)

pub held_level_only : {ws : Words} {k l : ℕ} {t : Tree k} {u : Tree l} → Holds ws k t → Holds ws l u → k ≡ l
held_level_only {ws} {k} {l} {t} {u} h i = (stored_same ws k l t u h.stored i.stored (same_top h i)).0

pub held_tree_only : {ws : Words} {l : ℕ} {t u : Tree l} → Holds ws l t → Holds ws l u → t ≡ u
held_tree_only {ws} {l} {t} {u} h i = stored_only ws l t u h.stored i.stored (same_top h i)
