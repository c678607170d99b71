-- The cards of many stations, stretch by stretch: what is left of the numbers goes on from where the row stands. Assumes nothing.
use Prim.Native.Nat.{ℕ, suc, ◌+◌, ◌-◌, ◌≤◌, ◌<◌}
use native.Mathlib.Omega.{arith}
use native.Mathlib.Numerals.{add-one}
use mathlib.Core.Path.{◌≡◌, refl, sym, ap, ◌∙◌}
use mathlib.Core.Bool.{cond}
use mathlib.Core.List.{List, ◌++◌, append_assoc}
use lib.IntN.{ℤ, pos}
use lib.ListN.{length, take, drop, get_or, length-append, length-drop, take-append-drop}
use lib.Seq.{drop-cons, drop-drop, take_at, drop_at, length-take-le}
use borrow.Author.Tests.{lt-ltb, le-ltb}
use borrow.Rule.Slice.PartMut.{mid_of, post_of, put_mid}
use Rattle.order.proofs.Lists.{drop_all}
use Rattle.table.specs.Given.{Given, Done}
use Rattle.table.specs.Words.{Words}
use Rattle.audit.specs.Check.{check_gives}
use Rattle.desk.specs.Calls.{after_card}
use Rattle.export.specs.Cards.{cards_over, cards_after}
use Rattle.export.proofs.Telling.{check_refuses, check_passes}

module _ (ws : Words) (k : ℤ) (ns : List ℤ) (row : List ℕ) where
  -- after i numbers, which took the first `at` places of the row
  pub record Laid (i at : ℕ) (now : List ℕ) : Type 0 where
    pub goes : take at now ++ cards_over ws k (drop i ns) (drop at row) ≡ cards_over ws k ns row
    pub rest : drop at now ≡ drop at row
    pub within : at ≤ length row
    pub long : length now ≡ length row

  pub laid_none : Laid 0 0 row
  laid_none = record { goes = refl; rest = refl; within = omega arith; long = refl }

  -- one card more, in a whole stretch
  module _ (i at : ℕ) (now : List ℕ) (h : Laid i at now) (more : i < length ns) (room : at + 16 ≤ length row) where
    abbrev n : ℤ
    n = get_or ns i (pos 0)

    stretch : cards_over ws k (drop i ns) (drop at row) ≡ (after_card ws n k (take 16 (drop at row))).list ++ cards_over ws k (drop (i + 1) ns) (drop (at + 16) row)
    stretch =
        ap (λ l. cards_over ws k l (drop at row)) (drop-cons ns i (pos 0) more)
        ∙ ap (λ b. cond b (drop at row) ((after_card ws n k (take 16 (drop at row))).list ++ cards_over ws k (drop (suc i) ns) (drop 16 (drop at row))))
        (le-ltb (length (drop at row)) 16 (omega (arith, length-drop at row)))
        ∙ ap (λ l. (after_card ws n k (take 16 (drop at row))).list ++ cards_over ws k (drop (suc i) ns) l) (drop-drop 16 at row)
        ∙ ap (λ (j : ℕ). (after_card ws n k (take 16 (drop at row))).list ++ cards_over ws k (drop j ns) (drop (at + 16) row)) (sym (add-one i))

    laid_stretch : (last : List ℕ) → last ≡ (after_card ws n k (take 16 (drop at now))).list → length last ≡ 16
        → Laid (i + 1) (at + 16) (take at now ++ (last ++ drop (at + 16) now))
    laid_stretch last e long =
        let card = (after_card ws n k (take 16 (drop at row))).list in
        let same : last ≡ card = e ∙ ap (λ l. (after_card ws n k (take 16 l)).list) h.rest in
        let front = take at now in
        let front_long : length front ≡ at = length-take-le at now (omega (arith, h.within, h.long)) in
        let both : length (front ++ last) ≡ at + 16 = omega (arith, length-append front last) in
        let whole : front ++ (last ++ drop (at + 16) now) ≡ (front ++ last) ++ drop (at + 16) now = sym (append_assoc front last (drop (at + 16) now)) in
        let tail : drop (at + 16) now ≡ drop (at + 16) row = sym (drop-drop 16 at now) ∙ ap (drop 16) h.rest ∙ drop-drop 16 at row in
        record {
          goes =
              ap (λ l. take (at + 16) l ++ cards_over ws k (drop (i + 1) ns) (drop (at + 16) row)) whole
              ∙ ap (λ l. l ++ cards_over ws k (drop (i + 1) ns) (drop (at + 16) row)) (take_at (front ++ last) (drop (at + 16) now) (at + 16) both)
              ∙ append_assoc front last (cards_over ws k (drop (i + 1) ns) (drop (at + 16) row))
              ∙ ap (λ l. front ++ (l ++ cards_over ws k (drop (i + 1) ns) (drop (at + 16) row))) same
              ∙ ap (λ l. front ++ l) (sym stretch)
              ∙ h.goes;
          rest = ap (drop (at + 16)) whole ∙ drop_at (front ++ last) (drop (at + 16) now) (at + 16) both ∙ tail;
          within = omega arith;
          long = ap length whole ∙ omega (arith, length-append (front ++ last) (drop (at + 16) now), length-drop (at + 16) now, h.long);
        }

    -- as the code lends and takes back the part from `at` to `at + 16`
    abbrev width : ℕ
    width = at + 16 - at

    pub laid_next : (last : List ℕ) → last ≡ (after_card ws n k (mid_of at width now)).list → length last ≡ length (mid_of at width now) → Laid (i + 1) (at + 16) (put_mid at width now last)
    laid_next last e long =
        let w : width ≡ 16 = omega arith in
        let part : length (take 16 (drop at now)) ≡ 16 = length-take-le 16 (drop at now) (omega (arith, length-drop at now, h.long)) in
        let behind : post_of at width now ≡ drop (at + 16) now = ap (λ (m : ℕ). drop m (drop at now)) w ∙ drop-drop 16 at now in
        rw behind
        (laid_stretch last (e ∙ ap (λ (m : ℕ). (after_card ws n k (take m (drop at now))).list) w) (long ∙ ap (λ (m : ℕ). length (take m (drop at now))) w ∙ part))

  -- no whole stretch is left, or no number
  pub laid_short : (i at : ℕ) (now : List ℕ) → Laid i at now → i < length ns → length row < at + 16 → now ≡ cards_over ws k ns row
  laid_short i at now h more short =
      sym (take-append-drop at now)
      ∙ ap (λ l. take at now ++ l)
      (h.rest ∙ sym (ap (λ l. cards_over ws k l (drop at row)) (drop-cons ns i (pos 0) more)
      ∙ ap (λ b. cond b (drop at row) ((after_card ws (get_or ns i (pos 0)) k (take 16 (drop at row))).list ++ cards_over ws k (drop (suc i) ns) (drop 16 (drop at row))))
      (lt-ltb (length (drop at row)) 16 (omega (arith, length-drop at row, h.within)))))
      ∙ h.goes

  pub laid_all : (i at : ℕ) (now : List ℕ) → Laid i at now → length ns ≤ i → now ≡ cards_over ws k ns row
  laid_all i at now h done =
      sym (take-append-drop at now)
      ∙ ap (λ l. take at now ++ l) (h.rest ∙ sym (ap (λ l. cards_over ws k l (drop at row)) (drop_all i ns done)))
      ∙ h.goes

  -- by what the check gives
  module _ {g : Given} (e : g ≡ check_gives ws) where
    pub cards_refused : (g ≡ Done → ⊥) → row ≡ cards_after ws k ns row
    unfolding cards_after
    cards_refused d = check_refuses ws e d (cards_over ws k ns row) row

    pub cards_done : g ≡ Done → cards_over ws k ns row ≡ cards_after ws k ns row
    unfolding cards_after
    cards_done d = check_passes ws e d (cards_over ws k ns row) row
