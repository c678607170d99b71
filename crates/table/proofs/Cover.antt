-- Laws of the smallest rectangle that covers all of a list: it covers each, it is the least, only the members count, and it grows with the list. Assumes nothing.
use Prim.Native.Nat.{ℕ, ◌+◌, ◌<◌, ◌^◌}
use native.Mathlib.Omega.{arith}
use mathlib.Core.Path.{◌≡◌, refl, ap, ◌∙◌}
use mathlib.Core.Logic.{⊎_elim}
use mathlib.Core.List.Memᴰ
use mathlib.Core.List.{List, [], ◌∷◌, ◌++◌}
use native.Mathlib.Numerals.{add-one}
use lib.ListN.{length, take, get_or}
use lib.Seq.{take-suc}
use Rattle.axis.specs.declared.span.Span.{Span}
use Rattle.grid.specs.declared.rect.Rect.{Rect}
use Rattle.axis.specs.Axis.{SpanWithin}
use Rattle.grid.specs.Place.{RectOnGrid, Within, rect_grown}
use Rattle.axis.proofs.Axis.{span_ext}
use Rattle.grid.proofs.Rects.{rect_ext, grown_assoc, grown_grid, within_trans, within_left, within_right, within_least, within_refl}
use Rattle.order.specs.Lists.{Mem, All}
use Rattle.order.specs.Order.{Perm}
use Rattle.order.proofs.Perm.{psym, perm_length, perm_mem}
use Rattle.order.proofs.Lists.{all_mem}
use Rattle.table.specs.declared.node.Entry.{Entry}
use Rattle.table.specs.Page.{EntryFits, cover_from, cover_of}

-- ---- growing with the list

-- what grows first may as well grow last
pub from_grown : (r s : Rect) (es : List Entry) → cover_from (rect_grown r s) es ≡ rect_grown r (cover_from s es)
from_grown r s [] = refl
from_grown r s (e ∷ es) =
    ap (λ t. cover_from t es) (grown_assoc r s e.rect) ∙ from_grown r (rect_grown s e.rect) es

pub from_append : (r : Rect) (es fs : List Entry) → cover_from r (es ++ fs) ≡ cover_from (cover_from r es) fs
from_append r [] fs = refl
from_append r (e ∷ es) fs = from_append (rect_grown r e.rect) es fs

pub cover_append : (es fs : List Entry) → 0 < length es → 0 < length fs → cover_of (es ++ fs) ≡ rect_grown (cover_of es) (cover_of fs)
unfolding cover_of
cover_append [] fs h k = absurd (omega arith)
cover_append (e ∷ es) [] h k = absurd (omega arith)
cover_append (e ∷ es) (f ∷ fs) h k = from_append e.rect es (f ∷ fs) ∙ from_grown (cover_from e.rect es) f.rect fs

pub cover_one : (e : Entry) → cover_of (e ∷ []) ≡ e.rect
unfolding cover_of
cover_one e = refl

pub cover_snoc : (es : List Entry) (e : Entry) → 0 < length es → cover_of (es ++ e ∷ []) ≡ rect_grown (cover_of es) e.rect
cover_snoc es e h = cover_append es (e ∷ []) h (omega arith) ∙ rw cover_one

-- a loop over the entries, at each turn
pub from_step : (r : Rect) (es : List Entry) (k : ℕ) (d : Entry) → k < length es
    → cover_from r (take (k + 1) es) ≡ rect_grown (cover_from r (take k es)) (get_or es k d).rect
from_step r es k d h = rw (add-one, take-suc es k d h) (from_append r (take k es) (get_or es k d ∷ []))

-- ---- what holds of each, if it holds of what grows

module _ (P : Rect → Type 0) (grows : (r s : Rect) → P r → P s → P (rect_grown r s)) where
  from_closed : (r : Rect) (es : List Entry) → P r → All (λ e. P e.rect) es → P (cover_from r es)
  from_closed r [] h a = h
  from_closed r (e ∷ es) h a = from_closed (rect_grown r e.rect) es (grows r e.rect h a.0) a.1

  pub cover_closed : (es : List Entry) → 0 < length es → All (λ e. P e.rect) es → P (cover_of es)
  unfolding cover_of
  cover_closed [] h a = absurd (omega arith)
  cover_closed (e ∷ es) h a = from_closed e.rect es a.0 a.1

pub cover_least : (r : Rect) (es : List Entry) → 0 < length es → All (λ e. Within e.rect r) es → Within (cover_of es) r
cover_least r es h a = cover_closed (λ s. Within s r) (λ _ _ v w. within_least v w) es h a

pub cover_grid : (es : List Entry) → 0 < length es → All (λ e. RectOnGrid e.rect) es → RectOnGrid (cover_of es)
cover_grid es h a = cover_closed RectOnGrid (λ _ _ g k. grown_grid g k) es h a

-- ---- each is covered

from_base : (r : Rect) (es : List Entry) → Within r (cover_from r es)
from_base r [] = within_refl r
from_base r (e ∷ es) = within_trans (within_left r e.rect) (from_base (rect_grown r e.rect) es)

from_mem : (r : Rect) (es : List Entry) {e : Entry} → Mem e es → Within e.rect (cover_from r es)
from_mem r [] m = absurd (Memᴰ.not-nil m)
from_mem r (f ∷ es) {e} m =
    ⊎_elim
    (λ same. rw same (within_trans (within_right r f.rect) (from_base (rect_grown r f.rect) es)))
    (λ n. from_mem (rect_grown r f.rect) es n)
    (Memᴰ.cases_cons m)

pub cover_mem : (es : List Entry) {e : Entry} → Mem e es → Within e.rect (cover_of es)
unfolding cover_of
cover_mem [] m = absurd (Memᴰ.not-nil m)
cover_mem (f ∷ es) {e} m =
    ⊎_elim (λ same. rw same (from_base f.rect es)) (λ n. from_mem f.rect es n) (Memᴰ.cases_cons m)

-- ---- only the members count

span_antisym : {s t : Span} → SpanWithin s t → SpanWithin t s → s ≡ t
span_antisym v w = span_ext (omega arith) (omega arith)

pub within_antisym : {r s : Rect} → Within r s → Within s r → r ≡ s
within_antisym v w = rect_ext (span_antisym v.x w.x) (span_antisym v.y w.y)

pub cover_mono : (es fs : List Entry) → 0 < length es → ((e : Entry) → Mem e es → Mem e fs) → Within (cover_of es) (cover_of fs)
cover_mono es fs h f = cover_least (cover_of fs) es h (all_mem (λ e. Within e.rect (cover_of fs)) es (λ e m. cover_mem fs (f e m)))

pub cover_same : (es fs : List Entry) → length es ≡ length fs → ((e : Entry) → Mem e es → Mem e fs) → ((e : Entry) → Mem e fs → Mem e es)
    → cover_of es ≡ cover_of fs
cover_same [] [] l to from = refl
cover_same [] (f ∷ fs) l to from = absurd (omega arith)
cover_same (e ∷ es) [] l to from = absurd (omega arith)
cover_same (e ∷ es) (f ∷ fs) l to from =
    within_antisym (cover_mono (e ∷ es) (f ∷ fs) (omega arith) to) (cover_mono (f ∷ fs) (e ∷ es) (omega arith) from)

pub cover_perm : {es fs : List Entry} → Perm es fs → cover_of es ≡ cover_of fs
cover_perm {es} {fs} p = cover_same es fs (perm_length p) (λ e m. perm_mem p m) (λ e m. perm_mem (psym p) m)

-- ---- words hold it

-- a rectangle that four words can hold
pub record RectFits (r : Rect) : Type 0 where
  pub x_low : r.x.low < 2 ^ 32
  pub y_low : r.y.low < 2 ^ 32
  pub x_high : r.x.high < 2 ^ 32
  pub y_high : r.y.high < 2 ^ 32

pub grown_fits : {r s : Rect} → RectFits r → RectFits s → RectFits (rect_grown r s)
grown_fits f g = record { x_low = omega arith; y_low = omega arith; x_high = omega arith; y_high = omega arith }

pub cover_fits : (es : List Entry) → All (λ e. RectFits e.rect) es → RectFits (cover_of es)
unfolding cover_of
cover_fits [] a = record { x_low = omega arith; y_low = omega arith; x_high = omega arith; y_high = omega arith }
cover_fits (e ∷ es) a = cover_closed RectFits (λ _ _ f g. grown_fits f g) (e ∷ es) (omega arith) a

all_rects_fit : (es : List Entry) → All EntryFits es → All (λ e. RectFits e.rect) es
all_rects_fit [] a = tt
all_rects_fit (e ∷ es) a =
    let f = a.0 in
    (record { x_low = f.x_low; y_low = f.y_low; x_high = f.x_high; y_high = f.y_high }, all_rects_fit es a.1)

-- the entry that a node above has for a node of such entries
pub cover_entry_fits : (n : ℕ) (es : List Entry) → n < 2 ^ 31 → All EntryFits es → EntryFits (record { reference = n; rect = cover_of es })
cover_entry_fits n es h a =
    let f = cover_fits es (all_rects_fit es a) in
    record { reference = h; x_low = f.x_low; y_low = f.y_low; x_high = f.x_high; y_high = f.y_high }
