-- Line by line gives the whole: the bytes so far, and then those of the lines to come, stay the same with each line, so all runs together print what the sheet prints. Assumes nothing.
use Prim.Native.Nat.{ℕ, zero, suc, ◌+◌, ◌≤◌, ◌<◌}
use mathlib.Core.Path.{◌≡◌, refl, sym, ap, ◌∙◌}
use mathlib.Core.Bool.{true, cond}
use mathlib.Core.List.{[], ◌++◌, append_assoc}
use native.Mathlib.Omega.{arith}
use lib.Dec.{leb, ltb}
use lib.ListN.{length, take, replicate, length-replicate}
use borrow.Author.Tests.{ltb-true, ltb-false, le-ltb}
use Rattle.order.proofs.Lists.{by_bool, and_left}
use Rattle.figures.specs.Figures.{MOST}
use Rattle.table.specs.Empty.{empty_table}
use Rattle.sheet.specs.Bytes.{Bytes, FEED, LONGEST, lines_of}
use Rattle.sheet.specs.Marks.{line_of}
use Rattle.sheet.proofs.Parted.{lines_done, lines_more, next_beyond}
use Rattle.slip.proofs.Laid.{laid_front}
use Rattle.clerk.specs.declared.run.Run.{Run}
use Rattle.clerk.specs.Sheet.{State, line_output, lines_output, start, sheet_output}
use Rattle.clerk.specs.Running.{lent, longest_line, Stand, stand_at, line_run, goes_on, lines_run, run_from, LeftAt, rest_output, LineByLine, emptied, runs_output, RunPrints, WholeSheet}
use Rattle.clerk.proofs.Kept.{line_answers}
use Rattle.clerk.proofs.Going.{goes_on_lem}

module _ (sheet : Bytes) (room : ℕ) where
  -- the bytes so far, and then those of the lines to come
  abbrev whole : Stand → Bytes
  whole s = s.bytes ++ rest_output sheet s

  one_line : (s : Stand) → s.at < length sheet → whole (line_run sheet s) ≡ whole s
  one_line s h =
      append_assoc s.bytes (line_output s.number s.state (line_of sheet s.at)) (rest_output sheet (line_run sheet s)) ∙ ap (λ ls. s.bytes ++ lines_output s.number s.state ls) (sym (lines_more sheet s.at h))

  more_left : (s : Stand) → goes_on sheet room s ≡ true → s.at < length sheet
  more_left s e =
      ltb-true s.at (length sheet) (and_left (ltb s.at (length sheet)) (leb (length s.bytes + longest_line (length s.state.answers)) room) e)

  -- by whether a line follows, along a run
  along : (P : Stand → Type 0) → ((s : Stand) → s.at < length sheet → P s → P (line_run sheet s)) → (n : ℕ) (s : Stand) → P s → P (lines_run n sheet room s)
  along P more zero s p = p
  along P more (suc n) s p =
      by_bool (λ t. P (cond t (lines_run n sheet room (line_run sheet s)) s)) (goes_on sheet room s)
      (λ e. along P more n (line_run sheet s) (more s (more_left s e) p)) (λ _. p)

  run_whole : (n : ℕ) (s : Stand) → whole (lines_run n sheet room s) ≡ whole s
  run_whole n s = along (λ t. whole t ≡ whole s) (λ t h e. one_line t h ∙ e) n s refl

  run_answers : (n : ℕ) (s : Stand) → length (lines_run n sheet room s).state.answers ≡ length s.state.answers
  run_answers n s =
      along (λ t. length t.state.answers ≡ length s.state.answers) (λ t h e. line_answers t.state (line_of sheet t.at) ∙ e) n s refl

  run_onward : (a n : ℕ) (s : Stand) → a ≤ s.at → a ≤ (lines_run n sheet room s).at
  run_onward a n s h = along (λ t. a ≤ t.at) (λ t l e. omega (arith, next_beyond FEED sheet t.at l)) n s h

  -- a run with an empty buffer that has room for a line goes on
  run_first : (n : ℕ) (s : Stand) → 0 < n → goes_on sheet room s ≡ true → s.at < (lines_run n sheet room s).at
  run_first zero s h e = absurd (omega arith)
  run_first (suc n) s h e =
      rw e (run_onward (suc s.at) n (line_run sheet s) (omega (arith, next_beyond FEED sheet s.at (more_left s e))))

  pub line_by_line : (s : Stand) → LineByLine sheet room s
  unfolding run_from
  line_by_line s = record {
    goes = λ e. ap (λ b. b ++ rest_output sheet s) (sym e) ∙ sym (run_whole (length sheet) s);
    ends = λ h. ap (lines_output s.number s.state) (lines_done sheet s.at h);
  }

  -- as many runs as the sheet has bytes are enough
  pub runs_whole : (n : ℕ) (s : Stand) → s.bytes ≡ [] → length sheet ≤ n + s.at → longest_line (length s.state.answers) ≤ room
      → runs_output n sheet room s ≡ rest_output sheet s
  unfolding run_from
  runs_whole zero s b h fits = sym ((line_by_line s).ends (omega arith))
  runs_whole (suc n) s b h fits =
      let e = lines_run (length sheet) sheet room s in
      by_bool (λ t. cond t (e.bytes ++ runs_output n sheet room (emptied e)) [] ≡ rest_output sheet s) (ltb s.at (length sheet))
      (λ l.
      let far = ltb-true s.at (length sheet) l in
      let on = run_first (length sheet) s (omega arith) (goes_on_lem sheet room s far (omega (arith, ap length b))) in
      ap (λ bs. e.bytes ++ bs) (runs_whole n (emptied e) refl (omega arith) (omega (arith, run_answers (length sheet) s)))
      ∙ sym ((line_by_line s).goes b))
      (λ l. sym ((line_by_line s).ends (ltb-false s.at (length sheet) l)))

-- ---- by what the code promises

-- the front of the buffer is the bytes of the run
printed : {s : Stand} {after : State} {out left : Bytes} {r : Run} → LeftAt s after out left r → r.filled ≤ length out → take r.filled left ≡ s.bytes
printed {s} {after} {out} {left} {r} l h =
    let e : r.filled ≡ 0 + length s.bytes = omega (arith, l.filled) in
    ap (λ n. take n left) e ∙ ap (take (0 + length s.bytes)) l.laid ∙ laid_front out 0 s.bytes (omega (arith, e))

-- a run that goes on from there has the same lines to come
rest_there : (sheet : Bytes) {s : Stand} {after : State} {out left : Bytes} {r : Run} → LeftAt s after out left r
    → rest_output sheet s ≡ rest_output sheet (stand_at r.at r.number after)
rest_there sheet l = rw (l.at, l.number, l.state)

pub run_prints : RunPrints
run_prints sheet at number before after out left r ran =
    let s = stand_at at number before in
    (line_by_line sheet (length out) s).goes refl
    ∙ ap (λ bs. bs ++ rest_output sheet (run_from sheet (length out) s)) (sym (printed ran.exact ran.room))
    ∙ ap (λ bs. take r.filled left ++ bs) (rest_there sheet ran.exact)

-- ---- from the start

-- with an answer list of n
abbrev start_of : ℕ → State
start_of n = lent empty_table (replicate n 0)

start_runs : (n : ℕ) (sheet : Bytes) (room : ℕ) → longest_line n ≤ room
    → runs_output (length sheet) sheet room (stand_at 0 1 (start_of n)) ≡ rest_output sheet (stand_at 0 1 (start_of n))
start_runs n sheet room fits =
    runs_whole sheet room (length sheet) (stand_at 0 1 (start_of n)) refl (omega arith) (omega (arith, length-replicate {A = ℕ} n 0))

sheet_short : (sheet : Bytes) → length sheet ≤ LONGEST → lines_output 1 start (lines_of sheet) ≡ sheet_output sheet
unfolding sheet_output
sheet_short sheet short = rw (le-ltb LONGEST (length sheet) short)

pub whole_sheet : WholeSheet
whole_sheet sheet short =
    let starts : rest_output sheet (stand_at 0 1 start) ≡ sheet_output sheet = sheet_short sheet short in
    record { starts = starts; runs = λ room fits. start_runs MOST sheet room fits ∙ starts }
