-- What the code may write after a removal: pages that fit, read back where they were put; the pages of two children that join; the page above them. Assumes nothing.
use Prim.Native.Nat.{ℕ, zero, suc, ◌+◌, ◌-◌, ◌/◌, ◌≤◌, ◌<◌, ◌^◌}
use native.Mathlib.Omega.{arith}
use native.Mathlib.Nat.{le_of_suc-le-suc}
use mathlib.Core.Path.{◌≡◌, refl, sym, ap, subst, ◌∙◌}
use mathlib.Core.Logic.{◌⊎◌, inl, inr, ⊎_elim}
use mathlib.Core.Bool.{cond}
use mathlib.Core.List.{List, [], ◌∷◌, ◌++◌, map}
use lib.Dec.{ltb}
use lib.ListN.{length, get_or, take, drop, length-append, length-map, length-set, length-take, length-drop}
use lib.Seq.{get_or-set_other}
use borrow.Author.Tests.{ltb-true, ltb-false, lt-ltb, le-ltb, le-leb, lt-leb}
use Rattle.grid.specs.Place.{RectOnGrid}
use Rattle.order.specs.Lists.{Mem, All, NoDup}
use Rattle.order.proofs.Lists.{by_bool, map_at, all_append, all_take, all_drop, all_set, all_at}
use Rattle.table.specs.declared.node.Entry.{Entry}
use Rattle.table.specs.declared.node.Node.{Node}
use Rattle.figures.specs.Figures.{FAN, LEAST, SLOTS, LENGTH}
use Rattle.table.specs.Words.{Words}
use Rattle.table.specs.Page.{Page, page, page_of, held, shown, Shows, without, EntryFits, PageFits, blank_entry}
use Rattle.table.specs.Slots.{page_at, level_at, entries_at, put_page, freed, entry_for}
use Rattle.table.proofs.Nodes.{page_ext, held_few, shown_page, shows_on}
use Rattle.table.proofs.Cover.{cover_entry_fits}
use Rattle.table.proofs.Slots.{put_here, put_other, put_long, freed_other, page_back, page_few}
use Rattle.rules.proofs.Reading.{at_mem}
use Rattle.change.specs.Choose.{entry_in}
use Rattle.change.specs.Share.{lined, first_share, other_share}
use Rattle.leaving.specs.Withdraw.{tight_at, joint_at, shared_out, merged, shared, joined, lower_place, mended, Child, MayShare, Mendable, Joinable}
use Rattle.change.proofs.Shares.{lined_length, first_all, other_all, first_length, other_length}

-- ---- pages that are put, and read again

module _ (ws : Words) (s : ℕ) (long : length ws ≡ LENGTH) (low : s < SLOTS) where
  pub put_read : (p : Page) → PageFits p → page_at (put_page ws s p) s ≡ p
  unfolding page_at
  put_read p f = ap page_of (put_here ws s p long low f.few) ∙ page_back p f

  pub put_apart : (p : Page) → PageFits p → (o : ℕ) → (o ≡ s → ⊥) → page_at (put_page ws s p) o ≡ page_at ws o
  unfolding page_at
  put_apart p f o n = ap page_of (put_other ws s p long low f.few o n)

  pub freed_apart : (o : ℕ) → (o ≡ s → ⊥) → page_at (freed ws s) o ≡ page_at ws o
  unfolding page_at
  freed_apart o n = ap page_of (freed_other ws s long low o n)

-- ---- the box above a child is made tight

pub tight_fits : (now : Words) (es : List Entry) (i : ℕ) → (entry_in es i).reference < SLOTS → All EntryFits (entries_at now (entry_in es i).reference)
    → All EntryFits es → All EntryFits (tight_at now es i)
unfolding entry_for
tight_fits now es i h a f =
    let c = (entry_in es i).reference in
    all_set EntryFits es i (entry_for now c) f (cover_entry_fits c (entries_at now c) (omega arith) a)

pub tight_length : (now : Words) (es : List Entry) (i : ℕ) → length (tight_at now es i) ≡ length es
tight_length now es i = length-set es i (entry_for now (entry_in es i).reference)

pub without_fits : (es : List Entry) (i : ℕ) → All EntryFits es → All EntryFits (without i es)
without_fits es i f = all_append EntryFits (take i es) (drop (i + 1) es) (all_take EntryFits i es f) (all_drop EntryFits (i + 1) es f)

pub without_length : (es : List Entry) (i : ℕ) → i < length es → length (without i es) + 1 ≡ length es
without_length es i h =
    omega (arith, length-append (take i es) (drop (i + 1) es), length-take i es, length-drop (i + 1) es)

-- ---- two entries of a page do not lead to the same slot

nodup_at : (xs : List ℕ) (i j d : ℕ) → i < j → j < length xs → NoDup xs → get_or xs i d ≡ get_or xs j d → ⊥
nodup_at [] i j d h k n e = omega arith
nodup_at (x ∷ xs) i zero d h k n e = omega arith
nodup_at (x ∷ xs) zero (suc j) d h k n e =
    n.0 (subst (λ y. Mem y xs) (sym e) (at_mem xs j d (le_of_suc-le-suc k)))
nodup_at (x ∷ xs) (suc i) (suc j) d h k n e = nodup_at xs i j d (le_of_suc-le-suc h) (le_of_suc-le-suc k) n.1 e

module _ (ws : Words) (s : ℕ) (p : Page) (a : ℕ) (j : Joinable ws s p a) where
  abbrev es : List Entry
  es = p.entries

  abbrev l : ℕ
  l = p.level - 1

  abbrev m : Mendable ws s p a
  m = j.mendable

  pub first_child : Child ws l (entry_in es a)
  first_child = all_at (Child ws l) es a blank_entry m.place m.children

  pub next_child : Child ws l (entry_in es (a + 1))
  next_child = all_at (Child ws l) es (a + 1) blank_entry j.next m.children

  pub apart_children : (entry_in es a).reference ≡ (entry_in es (a + 1)).reference → ⊥
  apart_children e =
      let f : Entry → ℕ = λ x. x.reference in
      nodup_at (map f es) a (a + 1) 0 (omega arith) (omega (arith, length-map es f, j.next)) m.apart
      (map_at f es blank_entry 0 a m.place ∙ e ∙ sym (map_at f es blank_entry 0 (a + 1) j.next))

  pub joint_fits : All EntryFits (joint_at ws es a)
  joint_fits =
      all_append EntryFits (entries_at ws (entry_in es a).reference) (entries_at ws (entry_in es (a + 1)).reference) first_child.fits next_child.fits

  pub joint_grid : All (λ e. RectOnGrid e.rect) (joint_at ws es a)
  joint_grid =
      all_append (λ e. RectOnGrid e.rect) (entries_at ws (entry_in es a).reference) (entries_at ws (entry_in es (a + 1)).reference)
      first_child.grid next_child.grid

  -- the level of the children
  pub level_low : l < 2 ^ 31
  level_low = omega (arith, m.fits.level)

  pub level_up : p.level ≡ suc l
  level_up = omega (arith, m.above)

  module _ (few : length (joint_at ws es a) ≤ FAN) where
    abbrev joint_page : Page
    joint_page = page l (joint_at ws es a)

    pub joint_page_fits : PageFits joint_page
    joint_page_fits = record { level = level_low; few = few; entries = joint_fits }

    abbrev put_one : Words
    put_one = put_page ws (entry_in es a).reference joint_page

    pub put_one_long : length put_one ≡ LENGTH
    put_one_long = put_long ws (entry_in es a).reference joint_page m.long first_child.inside few ∙ m.long

    abbrev merged_now : Words
    merged_now = freed put_one (entry_in es (a + 1)).reference

    merged_read : entries_at merged_now (entry_in es a).reference ≡ joint_at ws es a
    merged_read =
        ap (λ q. q.entries)
        (freed_apart put_one (entry_in es (a + 1)).reference put_one_long next_child.inside (entry_in es a).reference apart_children
        ∙ put_read ws (entry_in es a).reference m.long first_child.inside joint_page joint_page_fits)

    pub merged_fits : PageFits (page p.level (without (a + 1) (tight_at merged_now es a)))
    merged_fits = record {
      level = m.fits.level;
      few = omega (arith, m.fits.few, j.next, without_length (tight_at merged_now es a) (a + 1) (omega (arith, j.next, tight_length merged_now es a)), tight_length merged_now es a);
      entries = without_fits (tight_at merged_now es a) (a + 1)
          (tight_fits merged_now es a first_child.inside (subst (All EntryFits) (sym merged_read) joint_fits) m.fits.entries);
    }

  -- ---- nine or ten

  abbrev low_page : Page
  low_page = page l (first_share (joint_at ws es a))

  abbrev high_page : Page
  high_page = page l (other_share (joint_at ws es a))

  pub low_page_fits : PageFits low_page
  low_page_fits = record {
    level = level_low;
    few = omega (arith, first_length (joint_at ws es a), j.most);
    entries = first_all EntryFits (joint_at ws es a) joint_fits;
  }

  pub high_page_fits : PageFits high_page
  high_page_fits = record {
    level = level_low;
    few = omega (arith, other_length (joint_at ws es a), j.most);
    entries = other_all EntryFits (joint_at ws es a) joint_fits;
  }

  abbrev put_low : Words
  put_low = put_page ws (entry_in es a).reference low_page

  pub put_low_long : length put_low ≡ LENGTH
  put_low_long = put_long ws (entry_in es a).reference low_page m.long first_child.inside low_page_fits.few ∙ m.long

  abbrev shared_now : Words
  shared_now = put_page put_low (entry_in es (a + 1)).reference high_page

  low_read : entries_at shared_now (entry_in es a).reference ≡ first_share (joint_at ws es a)
  low_read =
      ap (λ q. q.entries)
      (put_apart put_low (entry_in es (a + 1)).reference put_low_long next_child.inside high_page high_page_fits (entry_in es a).reference apart_children
      ∙ put_read ws (entry_in es a).reference m.long first_child.inside low_page low_page_fits)

  high_read : entries_at shared_now (entry_in es (a + 1)).reference ≡ other_share (joint_at ws es a)
  high_read =
      ap (λ q. q.entries) (put_read put_low (entry_in es (a + 1)).reference put_low_long next_child.inside high_page high_page_fits)

  abbrev half_tight : List Entry
  half_tight = tight_at shared_now es a

  half_next : (entry_in half_tight (a + 1)).reference ≡ (entry_in es (a + 1)).reference
  half_next =
      ap (λ e. e.reference)
      (get_or-set_other es a (a + 1) (entry_for shared_now (entry_in es a).reference) blank_entry (λ e. omega arith))

  pub half_inside : (entry_in half_tight (a + 1)).reference < SLOTS
  half_inside = subst (λ o. o < SLOTS) (sym half_next) next_child.inside

  pub shared_fits : PageFits (page p.level (tight_at shared_now half_tight (a + 1)))
  shared_fits = record {
    level = m.fits.level;
    few = omega (arith, m.fits.few, tight_length shared_now half_tight (a + 1), tight_length shared_now es a);
    entries = tight_fits shared_now half_tight (a + 1) half_inside
        (subst (λ o. All EntryFits (entries_at shared_now o)) (sym half_next) (subst (All EntryFits) (sym high_read) high_page_fits.entries))
        (tight_fits shared_now es a first_child.inside (subst (All EntryFits) (sym low_read) low_page_fits.entries) m.fits.entries);
  }

-- ---- as nodes by value have it

-- a node that shows few entries has as many as its number says
pub few_count : (n : Node) → length n.entries ≡ 10 → length (held n) ≤ FAN → n.count ≡ length (held n)
few_count n f h = omega (arith, length-take n.count n.entries)

pub pair_room : (ws : Words) (s : ℕ) (n : Node) (a : ℕ) → length n.entries ≡ 10 → Joinable ws s (shown n) a → a + 1 < n.count
pair_room ws s n a f j = omega (arith, few_count n f j.mendable.fits.few, j.next)

-- a page that fits is what a node writes that shows it
pub shown_fits : {n : Node} {p : Page} → Shows n p → PageFits p → PageFits (shown n)
shown_fits {n} {p} s f = subst PageFits (sym (shown_page s)) f

module _ (ws : Words) (s : ℕ) (n : Node) (a : ℕ) (joint : Node) (j : Joinable ws s (shown n) a)
    (sh : Shows joint (page (n.level - 1) (joint_at ws (held n) a))) (le : joint.count ≤ FAN) where
  pub joint_few : length (joint_at ws (held n) a) ≤ FAN
  joint_few = omega (arith, sh.count)

  module _ (c d : ℕ) (ec : c ≡ (entry_in (held n) a).reference) (ed : d ≡ (entry_in (held n) (a + 1)).reference) (w1 w2 : Words)
      (e1 : w1 ≡ put_page ws c (shown joint)) where
    pub merge_one : w1 ≡ put_one ws s (shown n) a j joint_few
    merge_one = e1 ∙ ap (λ q. put_page ws c q) (shown_page sh) ∙ ap (λ o. put_page ws o (page (n.level - 1) (joint_at ws (held n) a))) ec

    module _ (e2 : w2 ≡ freed w1 d) where
      pub merge_two : w2 ≡ merged_now ws s (shown n) a j joint_few
      merge_two = e2 ∙ ap (λ w. freed w d) merge_one ∙ ap (freed (put_one ws s (shown n) a j joint_few)) ed

      -- the node above, its box tight and its other entry gone
      module _ (m r : Node) (em : Shows m (page n.level (tight_at w2 (held n) a))) (er : Shows r (page m.level (without (a + 1) (held m)))) where
        pub merge_top : Shows r (page n.level (without (a + 1) (tight_at (merged_now ws s (shown n) a j joint_few) (held n) a)))
        merge_top =
            subst (λ w. Shows r (page n.level (without (a + 1) (tight_at w (held n) a)))) merge_two
            (shows_on em r (without (a + 1)) er)

        pub merge_done : (w3 : Words) → w3 ≡ put_page w2 s (shown r) → w3 ≡ merged ws s (n.level - 1) (held n) a (joint_at ws (held n) a)
        merge_done w3 e3 =
            let now = merged_now ws s (shown n) a j joint_few in
            let es = without (a + 1) (tight_at now (held n) a) in
            e3 ∙ ap (put_page w2 s) (shown_page merge_top) ∙ ap (λ w. put_page w s (page n.level es)) merge_two
            ∙ ap (λ k. put_page now s (page k es)) (level_up ws s (shown n) a j)

-- ---- up to ten entries are shared between two slots

module _ (c d : ℕ) (joint : Node) (may : MayShare c d joint) where
  pub first_fits : PageFits (page joint.level (first_share (held joint)))
  first_fits = record {
    level = may.level;
    few = omega (arith, first_length (held joint), held_few joint, joint.room);
    entries = first_all EntryFits (held joint) may.fits;
  }

  pub other_fits : PageFits (page joint.level (other_share (held joint)))
  other_fits = record {
    level = may.level;
    few = omega (arith, other_length (held joint), held_few joint, joint.room);
    entries = other_all EntryFits (held joint) may.fits;
  }

  module _ (all : Node) (ea : Shows all (page joint.level (lined (held joint)))) where
    pub all_count : all.count ≡ length (held joint)
    all_count = ea.count ∙ lined_length (held joint)

    pub first_shows : (r : Node) → Shows r (page all.level (take (all.count / 2) (held all))) → Shows r (page joint.level (first_share (held joint)))
    unfolding first_share
    first_shows r e =
        subst (λ x. Shows r (page joint.level (take (x / 2) (lined (held joint))))) all_count (shows_on ea r (take (all.count / 2)) e)

    pub other_shows : (r : Node) → Shows r (page all.level (drop (all.count / 2) (held all))) → Shows r (page joint.level (other_share (held joint)))
    unfolding other_share
    other_shows r e =
        subst (λ x. Shows r (page joint.level (drop (x / 2) (lined (held joint))))) all_count (shows_on ea r (drop (all.count / 2)) e)

module _ (ws : Words) (s : ℕ) (n : Node) (a : ℕ) (joint : Node) (j : Joinable ws s (shown n) a)
    (sh : Shows joint (page (n.level - 1) (joint_at ws (held n) a))) where
  module _ (c d : ℕ) (ec : c ≡ (entry_in (held n) a).reference) (ed : d ≡ (entry_in (held n) (a + 1)).reference) where
    pub may_share : MayShare c d joint
    may_share =
        let q = shown_page sh in
        record {
          first = subst (λ o. o < SLOTS) (sym ec) (first_child ws s (shown n) a j).inside;
          other = subst (λ o. o < SLOTS) (sym ed) (next_child ws s (shown n) a j).inside;
          level = omega (arith, sh.level, level_low ws s (shown n) a j);
          fits = subst (All EntryFits) (sym sh.entries) (joint_fits ws s (shown n) a j);
          grid = subst (All (λ e. RectOnGrid e.rect)) (sym sh.entries) (joint_grid ws s (shown n) a j);
        }

    module _ (w : Words) (ew : w ≡ shared_out ws c d joint.level (held joint)) where
      pub share_now : w ≡ shared_now ws s (shown n) a j
      share_now =
          ew ∙ ap (λ q. shared_out ws c d q.level q.entries) (shown_page sh)
          ∙ ap (λ o. shared_out ws o d (n.level - 1) (joint_at ws (held n) a)) ec
          ∙ ap (λ o. shared_out ws (entry_in (held n) a).reference o (n.level - 1) (joint_at ws (held n) a)) ed

      module _ (m : Node) (em : Shows m (page n.level (tight_at w (held n) a))) where
        pub share_half : Shows m (page n.level (half_tight ws s (shown n) a j))
        share_half = subst (λ x. Shows m (page n.level (tight_at x (held n) a))) share_now em

        pub half_room : (a + 1 < m.count) × ((entry_in (held m) (a + 1)).reference < SLOTS)
        half_room =
            let k = tight_length (shared_now ws s (shown n) a j) (held n) a in (
              omega (arith, k, share_half.count, j.next),
              subst (λ es. (entry_in es (a + 1)).reference < SLOTS) (sym share_half.entries) (half_inside ws s (shown n) a j),
            )

        module _ (r : Node) (er : Shows r (page m.level (tight_at w (held m) (a + 1)))) where
          pub share_top : Shows r (page n.level (tight_at (shared_now ws s (shown n) a j) (half_tight ws s (shown n) a j) (a + 1)))
          share_top =
              subst (λ x. Shows r (page n.level (tight_at x (half_tight ws s (shown n) a j) (a + 1)))) share_now
              (shows_on share_half r (λ x. tight_at w x (a + 1)) er)

          pub share_done : (w' : Words) → w' ≡ put_page w s (shown r) → w' ≡ shared ws s (n.level - 1) (held n) a (joint_at ws (held n) a)
          share_done w' e =
              let now = shared_now ws s (shown n) a j in
              let top = tight_at now (half_tight ws s (shown n) a j) (a + 1) in
              e ∙ ap (put_page w s) (shown_page share_top) ∙ ap (λ x. put_page x s (page n.level top)) share_now
              ∙ ap (λ k. put_page now s (page k top)) (level_up ws s (shown n) a j)

-- ---- a child that has fallen to two joins a sibling

lower_in : (es : List Entry) (i : ℕ) → i < length es → 2 ≤ length es
    → (lower_place es i + 1 < length es) × ((lower_place es i ≡ i) ⊎ (lower_place es i + 1 ≡ i))
lower_in es i h k =
    by_bool (λ b. ltb (i + 1) (length es) ≡ b → (cond b i (i - 1) + 1 < length es) × ((cond b i (i - 1) ≡ i) ⊎ (cond b i (i - 1) + 1 ≡ i)))
    (ltb (i + 1) (length es)) (λ e f. (ltb-true (i + 1) (length es) e, inl refl))
    (λ e f. let z = ltb-false (i + 1) (length es) e in (omega arith, inr (omega arith))) refl

module _ (ws : Words) (s : ℕ) (p : Page) (i : ℕ) (d : Mendable ws s p i) where
  abbrev size : ℕ → ℕ
  size k = length (entries_at ws (entry_in p.entries k).reference)

  pub mend_joins : size i < LEAST → Joinable ws s p (lower_place p.entries i)
  mend_joins h =
      let a = lower_place p.entries i in
      let r = lower_in p.entries i d.place d.two in
      let n = length-append (entries_at ws (entry_in p.entries a).reference) (entries_at ws (entry_in p.entries (a + 1)).reference) in
      let u = page_few ws (entry_in p.entries a).reference in
      let v = page_few ws (entry_in p.entries (a + 1)).reference in
      record {
        mendable = record {
          long = d.long;
          inside = d.inside;
          above = d.above;
          fits = d.fits;
          place = omega (arith, r.0);
          two = d.two;
          children = d.children;
          apart = d.apart;
        };
        next = r.0;
        most = ⊎_elim (λ e. omega (arith, ap size e)) (λ e. omega (arith, ap size e)) r.1;
      }

  pub mend_child : Child ws (p.level - 1) (entry_in p.entries i)
  mend_child = all_at (Child ws (p.level - 1)) p.entries i blank_entry d.place d.children

  pub mend_fits : PageFits (page p.level (tight_at ws p.entries i))
  mend_fits = record {
    level = d.fits.level;
    few = omega (arith, tight_length ws p.entries i, d.fits.few);
    entries = tight_fits ws p.entries i mend_child.inside mend_child.fits d.fits.entries;
  }

  pub mend_level : p.level ≡ suc (p.level - 1)
  mend_level = omega (arith, d.above)

-- ---- the two nodes that are read

module _ (ws : Words) (s : ℕ) (n : Node) (a : ℕ) (j : Joinable ws s (shown n) a) (c d : ℕ) (ec : c ≡ (entry_in (held n) a).reference)
    (ed : d ≡ (entry_in (held n) (a + 1)).reference) where
  pub pair_inside : (c < SLOTS) × (d < SLOTS)
  pair_inside =
      (subst (λ o. o < SLOTS) (sym ec) (first_child ws s (shown n) a j).inside, subst (λ o. o < SLOTS) (sym ed) (next_child ws s (shown n) a j).inside)

  module _ (x y : Node) (ex : Shows x (page_at ws c)) (ey : Shows y (page_at ws d)) where
    pair_read : page x.level (held x ++ held y) ≡ page (n.level - 1) (joint_at ws (held n) a)
    pair_read =
        let k : x.level ≡ n.level - 1 = ex.level ∙ ap (level_at ws) ec ∙ (first_child ws s (shown n) a j).level in
        let u : held x ≡ entries_at ws (entry_in (held n) a).reference = ex.entries ∙ ap (entries_at ws) ec in
        let v : held y ≡ entries_at ws (entry_in (held n) (a + 1)).reference = ey.entries ∙ ap (entries_at ws) ed in
        page_ext k (ap (λ es. es ++ held y) u ∙ ap (λ es. entries_at ws (entry_in (held n) a).reference ++ es) v)

    pub pair_ten : x.count + y.count ≤ 10
    pair_ten =
        omega (
          arith,
          ex.count,
          ey.count,
          ap (λ o. length (entries_at ws o)) ec,
          ap (λ o. length (entries_at ws o)) ed,
          length-append (entries_at ws (entry_in (held n) a).reference) (entries_at ws (entry_in (held n) (a + 1)).reference),
          j.most,
        )

    pub pair_shows : (r : Node) → Shows r (page x.level (held x ++ held y)) → Shows r (page (n.level - 1) (joint_at ws (held n) a))
    pair_shows r e = subst (Shows r) pair_read e

-- which of the two a join is, and which a mending
module _ (ws : Words) (s l : ℕ) (es : List Entry) (a : ℕ) (w : Words) where
  pub join_merges : length (joint_at ws es a) ≤ FAN → w ≡ merged ws s l es a (joint_at ws es a) → w ≡ joined ws s l es a
  unfolding joined
  join_merges h e = rw (le-leb (length (joint_at ws es a)) FAN h) e

  pub join_shares : FAN < length (joint_at ws es a) → w ≡ shared ws s l es a (joint_at ws es a) → w ≡ joined ws s l es a
  unfolding joined
  join_shares h e = rw (lt-leb (length (joint_at ws es a)) FAN h) e

  pub mend_small : length (entries_at ws (entry_in es a).reference) < LEAST → (k : ℕ) → k ≡ lower_place es a → w ≡ joined ws s l es k → w ≡ mended ws s l es a
  unfolding mended
  mend_small h k ek e =
      rw (lt-ltb (length (entries_at ws (entry_in es a).reference)) LEAST h) (e ∙ ap (joined ws s l es) ek)

  pub mend_tight : LEAST ≤ length (entries_at ws (entry_in es a).reference) → w ≡ put_page ws s (page (suc l) (tight_at ws es a)) → w ≡ mended ws s l es a
  unfolding mended
  mend_tight h e = rw (le-ltb (length (entries_at ws (entry_in es a).reference)) LEAST h) e

-- the lower place, by a node's number
module _ (n : Node) (i : ℕ) (e : n.count ≡ length (held n)) where
  pub lower_is_next : i + 1 < n.count → i ≡ lower_place (held n) i
  lower_is_next h = sym (ap (λ b. cond b i (i - 1)) (lt-ltb (i + 1) (length (held n)) (omega arith)))

  pub lower_is_last : n.count ≤ i + 1 → i - 1 ≡ lower_place (held n) i
  lower_is_last h = sym (ap (λ b. cond b i (i - 1)) (le-ltb (i + 1) (length (held n)) (omega arith)))

-- a node to be mended has room for its place
pub mend_room : (ws : Words) (s : ℕ) (n : Node) (i : ℕ) → length n.entries ≡ 10 → Mendable ws s (shown n) i
    → (i < n.count) × (2 ≤ n.count)
mend_room ws s n i f d = omega (arith, few_count n f d.fits.few, d.place, d.two)
