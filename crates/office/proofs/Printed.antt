-- What has been printed of a sheet, and what is still to come. Assumes nothing.
use Rattle.std.proofs.Common.{◌≡◌, refl, sym, ap, subst, ◌∙◌, ℕ, ◌≤◌, List, [], ◌++◌, length, take, append_assoc, Option, None, Some}
use Rattle.std.proofs.lemmas.List.{append-nil}
use Rattle.std.specs.Io.KnownBytes.{Appends}
use Rattle.sheet.specs.Bytes.{Bytes}
use Rattle.clerk.specs.declared.run.Run.{Run}
use Rattle.clerk.specs.Sheet.{State}
use Rattle.clerk.specs.Running.{Stand, stand_at, rest_output, RanLines}
use Rattle.clerk.proofs.Whole.{line_by_line, run_prints}

-- the known bytes have grown by what the sheet prints but for the lines to come
pub record Printed (whole : Bytes) (sheet : Bytes) (s : Stand) (old new : Option (List ℕ)) : Type 0 where
  pub bytes : Bytes
  pub gained : Appends old new bytes
  pub left : whole ≡ bytes ++ rest_output sheet s

appends_none : (known : Option (List ℕ)) → Appends known known []
appends_none None = tt
appends_none (Some xs) = sym (append-nil xs)

appends_more : (old mid new : Option (List ℕ)) (first next : List ℕ) → Appends old mid first → Appends mid new next → Appends old new (first ++ next)
appends_more None mid new first next f g = tt
appends_more (Some xs) None new first next f g = elim f [ ]
appends_more (Some xs) (Some ys) None first next f g = elim g [ ]
appends_more (Some xs) (Some ys) (Some zs) first next f g = g ∙ ap (λ l. l ++ next) f ∙ append_assoc xs first next

pub printed_none : (sheet : Bytes) (s : Stand) (known : Option (List ℕ)) → Printed (rest_output sheet s) sheet s known known
printed_none sheet s known = record { bytes = []; gained = appends_none known; left = refl }

pub printed_more : {whole sheet : Bytes} {at number : ℕ} {before after : State} {out left : Bytes} {r : Run} (old mid new : Option (List ℕ))
    → Printed whole sheet (stand_at at number before) old mid → RanLines sheet at number before after out left r → Appends mid new (take r.filled left)
    → Printed whole sheet (stand_at r.at r.number after) old new
printed_more {whole} {sheet} {at} {number} {before} {after} {out} {left} {r} old mid new p ran more =
    record {
      bytes = p.bytes ++ take r.filled left;
      gained = appends_more old mid new p.bytes (take r.filled left) p.gained more;
      left = p.left ∙ ap (λ l. p.bytes ++ l) (run_prints sheet at number before after out left r ran)
          ∙ sym (append_assoc p.bytes (take r.filled left) (rest_output sheet (stand_at r.at r.number after)));
    }

pub printed_all : {whole sheet : Bytes} {s : Stand} {old new : Option (List ℕ)} → Printed whole sheet s old new → length sheet ≤ s.at → Appends old new whole
printed_all {whole} {sheet} {s} {old} {new} p h =
    subst (Appends old new) (sym (p.left ∙ ap (λ l. p.bytes ++ l) ((line_by_line sheet 0 s).ends h) ∙ append-nil p.bytes)) p.gained
