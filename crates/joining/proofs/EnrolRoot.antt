-- The root after an insertion: the old node, or a new root above it and its new sibling in the lowest slot then free. Assumes nothing.
use Prim.Native.Nat.{ℕ, suc, ◌+◌, ◌≤◌, ◌<◌}
use native.Mathlib.Omega.{arith}
use native.Mathlib.Decide.{dec_lt}
use mathlib.Core.Path.{◌≡◌, refl, sym, ap, subst, ◌∙◌}
use mathlib.Core.Bool.{Bool, true}
use mathlib.Core.List.{List, [], ◌∷◌, map}
use lib.Dec.{eqb}
use lib.IntN.{ℤ, pos}
use lib.ListN.{length, set, length-set, length-map}
use lib.Seq.{get_or-set_same}
use Rattle.order.specs.Lists.{one, count, join, All}
use Rattle.order.proofs.Lists.{count_append}
use Rattle.table.specs.declared.node.Entry.{Entry}
use Rattle.figures.specs.Figures.{FAN, LEAST, SLOTS, LENGTH}
use Rattle.table.specs.Words.{Words, word, part_at}
use Rattle.table.specs.Page.{page, page_words}
use Rattle.table.specs.Slots.{is_free, put_page, lowest_free, entry_for}
use Rattle.table.specs.Tree.{Tree, bough, top_of, entry_of_tree, slots_of, leaves_of, Filled, least_of, Stored}
use Rattle.table.proofs.Slots.{put_here, put_long, put_other, header_part, lowest_free_lem}
use Rattle.rules.proofs.Reading.{stored_frame}
use Rattle.joining.specs.Within.{free_count}
use Rattle.joining.specs.Enrol.{Grown, rooted}
use Rattle.change.proofs.Frame.{times, times_self, times_one, times_other, put_frame, items_kept}
use Rattle.joining.proofs.EnrolFree.{free_part, some_free}
use Rattle.joining.proofs.EnrolNode.{Made, free_used, one_most, times_not}
use Rattle.joining.proofs.EnrolTree.{used, used_all}

pub stored_header : (l : ℕ) (ws : Words) (i : ℕ) (v : ℤ) (t : Tree l) → i < 2 → Stored l ws t → Stored l (set ws i v) t
stored_header l ws i v t h st = stored_frame ws (set ws i v) l t (λ s m. header_part ws i v h s) st

-- The table us has a tree whose slots are `old` and `taken`, which were free; its leaves hold `points`; every other slot is as in ws.
pub record Root (ws : Words) (old : List ℕ) (points : List Entry) (us : Words) : Type 0 where
  pub level : ℕ
  pub tree : Tree level
  pub taken : List ℕ
  pub long : length us ≡ LENGTH
  pub root : word us 0 ≡ pos (top_of level tree)
  pub stored : Stored level us tree
  pub filled : Filled (least_of level) level tree
  pub slots : (o : ℕ) → times o (slots_of level tree) ≡ times o taken + times o old
  pub leaves : (P : Entry → Bool) → count P (leaves_of level tree) ≡ count P points
  pub free : (o : ℕ) → 1 ≤ times o taken → (o < SLOTS) × (is_free ws o ≡ true)
  pub once : (o : ℕ) → times o taken ≤ 1
  pub kept : (o : ℕ) → times o old + times o taken ≡ 0 → part_at us o ≡ part_at ws o

module _ (l n : ℕ) (ws : Words) (s : ℕ) (old : List ℕ) (points : List Entry) (g : Grown) (k : Made (least_of l) l n ws s old points g)
    (long : length ws ≡ LENGTH) (root : word ws 0 ≡ pos s) (room : 0 < free_count g.words) (above : entry_for g.words s ≡ entry_of_tree l k.here) where
  long_now : length g.words ≡ LENGTH
  long_now = k.frame.long ∙ long

  -- the node stays alone
  root_same : k.new ≡ [] → Root ws old points g.words
  root_same e =
      let none : (o : ℕ) → times o (join (slots_of l) k.new) ≡ 0 = λ o. ap (λ xs. times o (join (slots_of l) xs)) e in
      record {
        level = l;
        tree = k.here;
        taken = k.taken;
        long = long_now;
        root = k.frame.header 0 (omega arith) ∙ root ∙ ap pos (sym k.top);
        stored = k.stored;
        filled = k.filled;
        slots = λ o. omega (arith, k.slots o, none o);
        leaves = λ P. omega (arith, k.leaves P, ap (λ xs. count P (join (leaves_of l) xs)) e);
        free = k.free;
        once = k.once;
        kept = λ o z. k.frame.kept o (omega (arith, z, count_append (eqb o) old k.taken));
      }

  -- it gets a sibling, and a root above both
  root_above : (b : Tree l) (bs : List (Tree l)) → k.new ≡ b ∷ bs → Root ws old points (rooted s l g.words (map (entry_of_tree l) (b ∷ bs)))
  root_above b bs e =
      let us = g.words in
      let f = lowest_free us in
      let low : f < SLOTS = some_free us room in
      let free : is_free us f ≡ true = lowest_free_lem us low in
      let xs = k.here ∷ b ∷ bs in
      let es = entry_for us s ∷ map (entry_of_tree l) (b ∷ bs) in
      let same : es ≡ map (entry_of_tree l) xs = ap (λ a. a ∷ map (entry_of_tree l) (b ∷ bs)) above in
      let two : length bs ≡ 0 = omega (arith, k.single, ap length e) in
      let few : length es ≤ FAN = omega (arith, length-map bs (entry_of_tree l)) in
      let vs = put_page us f (page (suc l) es) in
      let news : All (Stored l us) (b ∷ bs) = subst (λ ys. All (Stored l us) ys) e k.stored_new in
      let all : All (Stored l us) xs = (k.stored, news) in
      let holds : (o : ℕ) → times o (join (slots_of l) xs) ≡ times o k.taken + times o old = λ o.
      omega (
        arith,
        k.slots o,
        count_append (eqb o) (slots_of l k.here) (join (slots_of l) (b ∷ bs)),
        ap (λ ys. times o (join (slots_of l) ys)) e,
      ) in
      -- the new root's slot was free, so it is none of those below
      let below : (o : ℕ) → 1 ≤ times o (join (slots_of l) xs) → o ≡ f → ⊥ = λ o m h.
      free_used us f o free (used_all l us (used l us) xs all o m) (sym h) in
      let off : times f (join (slots_of l) xs) ≡ 0 = elim (dec_lt 0 (times f (join (slots_of l) xs))) [ yes m ↦ absurd (below f m refl) | no m ↦ omega arith ] in
      let now : All (Stored l vs) xs =
      items_kept (f ∷ []) us vs (put_frame (f ∷ []) us f long_now low (omega (arith, times_self f)) (page (suc l) es) few) (suc l) xs
      (λ o m. omega (arith, times_not o f (below o m))) all in
      record {
        level = suc l;
        tree = bough f xs;
        taken = f ∷ k.taken;
        long = length-set vs 0 (pos f) ∙ put_long us f (page (suc l) es) long_now low few ∙ long_now;
        root = get_or-set_same vs 0 (pos f) (pos 0) (omega (arith, put_long us f (page (suc l) es) long_now low few, long_now));
        stored = stored_header (suc l) vs 0 (pos f) (bough f xs) (omega arith)
            (put_here us f (page (suc l) es) long_now low few ∙ ap (λ fs. page_words (page (suc l) fs)) same, now);
        filled = ((omega arith, omega arith), (k.parted (omega (arith, ap length e)), subst (λ ys. All (Filled LEAST l) ys) e k.filled_new));
        slots = λ o. omega (arith, holds o);
        leaves = λ P. omega (
          arith,
          k.leaves P,
          count_append P (leaves_of l k.here) (join (leaves_of l) (b ∷ bs)),
          ap (λ ys. count P (join (leaves_of l) ys)) e,
        );
        free = λ o m.
            elim (dec_lt 0 (one (eqb o f))) [
              | yes p ↦
                  let h : o ≡ f = times_one o f (omega arith) in
                  let kept : part_at us f ≡ part_at ws f = k.frame.kept f (omega (arith, off, holds f, count_append (eqb f) old k.taken)) in
                  (omega arith, ap (is_free ws) h ∙ (sym (free_part us ws f kept) ∙ free))
              | no p ↦ k.free o (omega arith)
            ];
        once = λ o.
            elim (dec_lt 0 (one (eqb o f))) [
              | yes p ↦ omega (arith, ap (λ z. times z k.taken) (times_one o f (omega arith)), off, holds f, one_most (eqb o f))
              | no p ↦ omega (arith, k.once o)
            ];
        kept = λ o z.
            header_part vs 0 (pos f) (omega arith) o
            ∙ put_other us f (page (suc l) es) long_now low few o (times_other o f (omega arith))
            ∙ k.frame.kept o (omega (arith, z, count_append (eqb o) old k.taken));
      }

  pub root_made : Root ws old points (rooted s l g.words g.new)
  root_made = rw k.handed (go k.new refl)
    where
      go : (new : List (Tree l)) → k.new ≡ new → Root ws old points (rooted s l g.words (map (entry_of_tree l) new))
      go [] e = root_same e
      go (b ∷ bs) e = root_above b bs e
