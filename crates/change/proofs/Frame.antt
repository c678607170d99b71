-- What a change leaves alone, and what can be read where a tree is stored. Slots are told apart by counting them, so that every "not this slot" is a sum of counts. Assumes nothing.
use Prim.Native.Nat.{ℕ, zero, suc, ◌+◌, ◌≤◌, ◌<◌}
use native.Mathlib.Omega.{arith}
use mathlib.Core.Path.{◌≡◌, refl, sym, ap, subst, ◌∙◌}
use mathlib.Core.Bool.{Bool, not}
use mathlib.Core.List.{List, [], ◌∷◌}
use lib.Dec.{eqb}
use lib.ListN.{length}
use borrow.Author.Tests.{eqb-true, eq-eqb}
use Rattle.order.specs.Lists.{one, count, join, All}
use Rattle.order.proofs.Lists.{by_bool, all_mem, mem_all}
use Rattle.table.specs.declared.node.Entry.{Entry}
use Rattle.figures.specs.Figures.{FAN, SLOTS, LENGTH}
use Rattle.table.specs.Words.{Words, word, part_at}
use Rattle.table.specs.Page.{Page}
use Rattle.table.specs.Slots.{put_page, freed}
use Rattle.table.specs.Stations.{is_point}
use Rattle.table.specs.Tree.{Tree, slots_of, Stored}
use Rattle.table.proofs.Slots.{put_other, put_long, put_header, freed_other, freed_long, freed_header}
use Rattle.rules.proofs.Joined.{mem_join}
use Rattle.rules.proofs.Counted.{number_counted}
use Rattle.rules.proofs.Reading.{stored_frame}
use Rattle.change.proofs.Items.{Item, slots_of_item, StoredItem}

-- how often a slot stands in a list
abbrev pub times : ℕ → List ℕ → ℕ
times o ss = count (eqb o) ss

pub times_self : (s : ℕ) → one (eqb s s) ≡ 1
times_self s = ap one (eq-eqb s s refl)

pub times_other : (o s : ℕ) → one (eqb o s) ≡ 0 → o ≡ s → ⊥
times_other o s h e = omega (arith, h, ap one (eq-eqb o s e))

pub times_one : (o s : ℕ) → 1 ≤ times o (s ∷ []) → o ≡ s
times_one o s =
    by_bool (λ b. eqb o s ≡ b → 1 ≤ one b + 0 → o ≡ s) (eqb o s) (λ e f h. eqb-true o s e) (λ e f h. absurd (omega arith)) refl

-- the slots of the first list are none of the second
abbrev pub Apart : List ℕ → List ℕ → Type 0
Apart ts ss = (o : ℕ) → 1 ≤ times o ts → times o ss ≡ 0

-- a slot that is not in a list
pub apart_one : (ss : List ℕ) (s : ℕ) → times s ss ≡ 0 → Apart ss (s ∷ [])
apart_one ss s h o m =
    by_bool (λ b. eqb o s ≡ b → one b + 0 ≡ 0) (eqb o s)
    (λ e f. absurd (omega (arith, m, subst (λ k. times k ss ≡ 0) (sym (eqb-true o s e)) h))) (λ e f. omega arith) refl

-- ---- frames

-- every slot but those of the list keeps its words, and so does the header
pub record Frame (ss : List ℕ) (ws ws' : Words) : Type 0 where
  pub kept : (o : ℕ) → times o ss ≡ 0 → part_at ws' o ≡ part_at ws o
  pub long : length ws' ≡ length ws
  pub header : (i : ℕ) → i < 2 → word ws' i ≡ word ws i

pub frame_none : (ss : List ℕ) (ws : Words) → Frame ss ws ws
frame_none ss ws = record { kept = λ o z. refl; long = refl; header = λ i h. refl }

pub frame_wide : (ss ts : List ℕ) (ws ws' : Words) → ((o : ℕ) → times o ts ≡ 0 → times o ss ≡ 0) → Frame ss ws ws' → Frame ts ws ws'
frame_wide ss ts ws ws' h f = record { kept = λ o z. f.kept o (h o z); long = f.long; header = f.header }

pub frame_then : (ss : List ℕ) (ws ws' ws'' : Words) → Frame ss ws ws' → Frame ss ws' ws'' → Frame ss ws ws''
frame_then ss ws ws' ws'' f g = record {
  kept = λ o z. g.kept o z ∙ f.kept o z;
  long = g.long ∙ f.long;
  header = λ i h. g.header i h ∙ f.header i h;
}

module _ (ss : List ℕ) (ws : Words) (s : ℕ) (long : length ws ≡ LENGTH) (low : s < SLOTS) (among : 1 ≤ times s ss) where
  off : (o : ℕ) → times o ss ≡ 0 → o ≡ s → ⊥
  off o z e = omega (arith, among, subst (λ k. times k ss ≡ 0) e z)

  pub put_frame : (p : Page) → length p.entries ≤ FAN → Frame ss ws (put_page ws s p)
  put_frame p few = record {
    kept = λ o z. put_other ws s p long low few o (off o z);
    long = put_long ws s p long low few;
    header = put_header ws s p long low few;
  }

  pub freed_frame : Frame ss ws (freed ws s)
  freed_frame = record {
    kept = λ o z. freed_other ws s long low o (off o z);
    long = freed_long ws s long low;
    header = freed_header ws s long low;
  }

-- a tree apart from the change stays stored
module _ (ss : List ℕ) (ws ws' : Words) (f : Frame ss ws ws') where
  pub stored_kept : (l : ℕ) (t : Tree l) → Apart (slots_of l t) ss → Stored l ws t → Stored l ws' t
  stored_kept l t a st = stored_frame ws ws' l t (λ s m. f.kept s (a s (number_counted m))) st

  pub items_kept : (l : ℕ) (xs : List (Item l)) → Apart (join (slots_of_item l) xs) ss → All (StoredItem l ws) xs → All (StoredItem l ws') xs
  items_kept zero xs a st = st
  items_kept (suc l) xs a st =
      all_mem (Stored l ws') xs
      (λ c m.
      stored_frame ws ws' l c (λ s k. f.kept s (a s (number_counted (mem_join (slots_of l) xs m k)))) (mem_all (Stored l ws) xs st m))

-- ---- slots that are slots, and leaves that hold points

abbrev pub Inside : List ℕ → Type 0
Inside ss = (o : ℕ) → 1 ≤ times o ss → o < SLOTS

abbrev pub off_grid : Entry → Bool
off_grid e = not (is_point e)

abbrev pub Sited : List Entry → Type 0
Sited es = count off_grid es ≡ 0
