-- What a node by value holds after it was ordered and shared, said of pages: the shares fit into slots, and the words and the entry handed up are those of the definition. Assumes nothing.
use Prim.Native.Nat.{ℕ, ◌≤◌, ◌<◌, ◌/◌, ◌^◌}
use native.Mathlib.Omega.{arith}
use mathlib.Core.Path.{◌≡◌, sym, ap, subst, ◌∙◌}
use mathlib.Core.List.{[], ◌∷◌}
use lib.ListN.{length, take, drop}
use borrow.Author.Tests.{le-leb, lt-leb}
use Rattle.grid.specs.declared.rect.Rect.{Rect}
use Rattle.order.specs.Lists.{All}
use Rattle.table.specs.declared.node.Node.{Node}
use Rattle.figures.specs.Figures.{FAN}
use Rattle.table.specs.Words.{Words}
use Rattle.table.specs.Page.{Page, page, held, shown, Shows, EntryFits, PageFits, cover_of}
use Rattle.table.specs.Slots.{put_page, lowest_free}
use Rattle.table.proofs.Nodes.{held_length, held_few, shown_page}
use Rattle.change.specs.Share.{lined, first_share, other_share}
use Rattle.joining.specs.Enrol.{Grown, split, settled}
use Rattle.joining.specs.Within.{MaySettle}
use Rattle.change.proofs.Shares.{first_length, other_length, first_all, other_all, lined_length}

pub shows_fits : {r : Node} {p : Page} → Shows r p → p.level < 2 ^ 31 → length p.entries ≤ FAN → All EntryFits p.entries → PageFits (shown r)
shows_fits s l f e = subst PageFits (sym (shown_page s)) (record { level = l; few = f; entries = e })

module _ {ws : Words} {s : ℕ} {n : Node} (may : MaySettle ws s n) (full : length n.entries ≡ 10) {all : Node}
    (ordered : Shows all (page n.level (lined (held n)))) where
  many : length (held n) ≡ n.count
  many = held_length n full

  pub ordered_count : all.count ≡ n.count
  ordered_count = ordered.count ∙ lined_length (held n) ∙ many

  module _ {first other : Node} (kept : Shows first (page all.level (take (n.count / 2) (held all)))) (rest : Shows other (page all.level (drop (n.count / 2) (held all)))) where
    pub kept_page : Shows first (page n.level (first_share (held n)))
    unfolding first_share
    kept_page =
        let e : take (n.count / 2) (held all) ≡ take (length (held n) / 2) (lined (held n)) = rw (ordered.entries, many) in
        record { level = kept.level ∙ ordered.level; count = kept.count ∙ ap length e; entries = kept.entries ∙ e }

    pub rest_page : Shows other (page n.level (other_share (held n)))
    unfolding other_share
    rest_page =
        let e : drop (n.count / 2) (held all) ≡ drop (length (held n) / 2) (lined (held n)) = rw (ordered.entries, many) in
        record { level = rest.level ∙ ordered.level; count = rest.count ∙ ap length e; entries = rest.entries ∙ e }

    pub kept_fits : PageFits (shown first)
    kept_fits =
        shows_fits kept_page may.level (omega (arith, first_length (held n), many, may.nine)) (first_all EntryFits (held n) may.fits)

    pub rest_fits : PageFits (shown other)
    rest_fits =
        shows_fits rest_page may.level (omega (arith, other_length (held n), many, may.nine)) (other_all EntryFits (held n) may.fits)

    pub split_words : (to : ℕ) (us vs : Words) (box : Rect) → to ≡ lowest_free ws → us ≡ put_page ws s (shown first) → vs ≡ put_page us to (shown other)
        → box ≡ cover_of (held other)
        → ◌≡◌ {A = Grown} (record { words = vs; new = record { reference = to; rect = box } ∷ [] }) (split ws s n.level (held n))
    split_words to us vs box et eu ev eb =
        let a = shown_page kept_page in
        let b = shown_page rest_page in
        let v : vs ≡ put_page (put_page ws s (page n.level (first_share (held n)))) (lowest_free ws) (page n.level (other_share (held n))) = cc in
        let x : box ≡ cover_of (other_share (held n)) = eb ∙ ap cover_of rest_page.entries in
        λ i. record { words = v i; new = record { reference = et i; rect = x i } ∷ [] }

-- ---- by the number of entries

module _ (ws : Words) (s : ℕ) (n : Node) where
  pub settled_kept : (us : Words) → n.count ≤ FAN → us ≡ put_page ws s (shown n)
      → ◌≡◌ {A = Grown} (record { words = us; new = [] }) (settled ws s n.level (held n))
  unfolding settled
  settled_kept us h e = rw (le-leb (length (held n)) FAN (omega (arith, held_few n))) (λ i. record { words = e i; new = [] })

  pub settled_split : (g : Grown) → length n.entries ≡ 10 → n.count ≤ 9 → FAN < n.count → g ≡ split ws s n.level (held n)
      → g ≡ settled ws s n.level (held n)
  unfolding settled
  settled_split g full nine h e = rw (lt-leb (length (held n)) FAN (omega (arith, held_length n full))) e
