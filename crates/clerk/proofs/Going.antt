-- How a run of lines goes: where it begins, one line more, and where it ends. By recursion on the lines that are left. Assumes nothing.
use Prim.Native.Nat.{ℕ, zero, suc, ◌+◌, ◌≤◌, ◌<◌}
use mathlib.Core.Path.{◌≡◌, refl, sym, ap, subst, ◌∙◌}
use mathlib.Core.Bool.{true, false, ◌&&◌}
use native.Mathlib.Omega.{arith}
use native.Mathlib.Decide.{dec_lt}
use lib.Dec.{leb, ltb}
use lib.ListN.{length}
use borrow.Author.Tests.{lt-ltb, le-ltb, le-leb, lt-leb}
use Rattle.order.proofs.Lists.{by_bool}
use Rattle.rules.specs.Rules.{Passing}
use Rattle.sheet.specs.Bytes.{Bytes, FEED}
use Rattle.sheet.specs.Marks.{line_of, next_of}
use Rattle.slip.specs.Output.{Laid}
use Rattle.sheet.proofs.Parted.{next_within, next_beyond}
use Rattle.slip.proofs.Laid.{laid_none, laid_then}
use Rattle.clerk.specs.declared.run.Run.{Run}
use Rattle.clerk.specs.Sheet.{State, ran_line, line_output}
use Rattle.clerk.specs.Running.{longest_line, RanOne, Stand, stand_at, line_run, goes_on, lines_run, run_from, LeftAt, RanLines}
use Rattle.clerk.proofs.Kept.{line_passing, line_most}

-- ---- whether there is one line more

module _ (sheet : Bytes) (room : ℕ) (s : Stand) where
  abbrev need : ℕ
  need = length s.bytes + longest_line (length s.state.answers)

  pub goes_on_lem : s.at < length sheet → need ≤ room → goes_on sheet room s ≡ true
  goes_on_lem a b = rw (lt-ltb s.at (length sheet) a, le-leb need room b)

  pub no_line : length sheet ≤ s.at → goes_on sheet room s ≡ false
  no_line a = rw (le-ltb s.at (length sheet) a)

  pub no_room : room < need → goes_on sheet room s ≡ false
  no_room b =
      by_bool (λ t. (t && leb need room) ≡ false) (ltb s.at (length sheet)) (λ _. lt-leb need room b) (λ _. refl)

  -- then the run stays where it stands
  pub run_stays : (n : ℕ) → goes_on sheet room s ≡ false → lines_run n sheet room s ≡ s
  run_stays zero e = refl
  run_stays (suc n) e = rw e

  pub run_more : (n : ℕ) → goes_on sheet room s ≡ true → lines_run (suc n) sheet room s ≡ lines_run n sheet room (line_run sheet s)
  run_more n e = rw e

  -- one line is left at least, and then one less
  one_less : {end : Stand} (n : ℕ) → s.at < length sheet → length sheet ≤ n + s.at → goes_on sheet room s ≡ true → lines_run n sheet room s ≡ end
      → (m : ℕ) × (n ≡ suc m) × (lines_run m sheet room (line_run sheet s) ≡ end)
  one_less zero a b e f = absurd (omega arith)
  one_less (suc n) a b e f = (n, refl, sym (run_more n e) ∙ f)

-- ---- one line more, as the code leaves it

module _ (sheet : Bytes) (s : Stand) {now after : State} {out left left' : Bytes} {r : Run} {next : ℕ} (l : LeftAt s now out left r)
    (ran : RanOne r.number (line_of sheet r.at) now after left r.filled left' next) where
  abbrev line : Bytes
  line = line_of sheet s.at

  same_line : line_of sheet r.at ≡ line
  same_line = ap (line_of sheet) l.at

  -- the line's promise, of the stand
  said : Laid left (length s.bytes) (line_output s.number s.state line) left' next
  said = rw (← l.filled, ← l.number, ← l.state, ← same_line) ran.laid

  pub left_more : length s.bytes + longest_line (length s.state.answers) ≤ length out
      → LeftAt (line_run sheet s) after out left' (record { at = next_of sheet r.at; number = r.number + 1; filled = next })
  left_more h =
      let bytes = line_output s.number s.state line in
      let first : Laid out 0 s.bytes left (length s.bytes) = record { laid = l.laid; behind = omega arith } in
      let both =
      laid_then out 0 s.bytes left (length s.bytes) bytes left' next (omega (arith, line_most s.number s.state line)) first said in
      record {
        at = ap (next_of sheet) l.at;
        number = ap (λ n. n + 1) l.number;
        filled = omega (arith, both.behind);
        state = ran.state ∙ ap (λ b. (ran_line now b).state) same_line ∙ ap (λ st. (ran_line st line).state) l.state;
        laid = both.laid;
      }

  -- the place behind the line's bytes
  pub next_place : (next ≡ r.filled + length (line_output s.number s.state line)) × (length (line_output s.number s.state line) ≤ longest_line (length s.state.answers))
  next_place = (said.behind ∙ ap (λ n. n + length (line_output s.number s.state line)) (sym l.filled), line_most s.number s.state line)

-- ---- how a run goes

pub record Going (sheet : Bytes) (at number : ℕ) (before : State) (out : Bytes) (now : State) (left : Bytes) (r : Run) : Type 0 where
  -- where it stands, and so many lines more bring it to its end
  pub stand : Stand
  pub lines : ℕ
  pub enough : length sheet ≤ lines + stand.at
  pub ends : lines_run lines sheet (length out) stand ≡ run_from sheet (length out) (stand_at at number before)
  pub here : LeftAt stand now out left r
  pub passing : Passing now.words
  pub places : length now.answers ≡ length before.answers
  pub onward : at ≤ r.at
  pub within : r.at ≤ length sheet
  pub numbered : r.number + at ≤ number + r.at
  pub room : r.filled ≤ length out
  -- nothing is laid before the first line has been passed
  pub begun : r.at ≤ at → r.filled ≡ 0

module _ (sheet : Bytes) (at number : ℕ) (before : State) (out : Bytes) where
  pub going_first : Passing before.words → at ≤ length sheet
      → Going sheet at number before out before out (record { at = at; number = number; filled = 0 })
  unfolding run_from
  going_first p h = record {
    stand = stand_at at number before;
    lines = length sheet;
    enough = omega arith;
    ends = refl;
    here = record { at = refl; number = refl; filled = refl; state = refl; laid = sym (laid_none out 0) };
    passing = p;
    places = refl;
    onward = omega arith;
    within = h;
    numbered = omega arith;
    room = omega arith;
    begun = λ _. refl;
  }

  module _ {now : State} {left : Bytes} {r : Run} (g : Going sheet at number before out now left r) where
    abbrev s : Stand
    s = g.stand

    -- what a line needs, by the answer list as it was at first
    needed : longest_line (length s.state.answers) ≡ longest_line (length before.answers)
    needed = ap (λ st. longest_line (length st.answers)) (sym g.here.state) ∙ ap longest_line g.places

    pub going_more : {after : State} {left' : Bytes} {next : ℕ} → r.at < length sheet → r.filled + longest_line (length before.answers) ≤ length out
        → RanOne r.number (line_of sheet r.at) now after left r.filled left' next → length after.answers ≡ length now.answers
        → Going sheet at number before out after left' (record { at = next_of sheet r.at; number = r.number + 1; filled = next })
    going_more {after} {left'} {next} more fits ran same =
        let h : length s.bytes + longest_line (length s.state.answers) ≤ length out = omega (arith, g.here.filled, needed) in
        let beyond : r.at < next_of sheet r.at = next_beyond FEED sheet r.at more in
        let place = next_place sheet s g.here ran in
        let far : s.at < length sheet = omega (arith, g.here.at) in
        let less = one_less sheet (length out) s g.lines far g.enough (goes_on_lem sheet (length out) s far h) g.ends in
        record {
          stand = line_run sheet s;
          lines = less.0;
          enough = omega (arith, less.1, next_beyond FEED sheet s.at far);
          ends = less.2;
          here = left_more sheet s g.here ran h;
          passing = subst Passing (sym (ap (λ st. st.words) ran.state)) (line_passing now g.passing (line_of sheet r.at));
          places = same ∙ g.places;
          onward = omega (arith, g.onward);
          within = next_within FEED sheet r.at g.within;
          numbered = omega (arith, g.numbered);
          room = omega (arith, place, needed);
          begun = λ b. absurd (omega (arith, g.onward));
        }

    -- it ends where no line goes on
    ended : goes_on sheet (length out) s ≡ false → run_from sheet (length out) (stand_at at number before) ≡ s
    ended e = sym g.ends ∙ run_stays sheet (length out) s g.lines e

    over : goes_on sheet (length out) s ≡ false → (at < length sheet → at < r.at) → RanLines sheet at number before now out left r
    over e further = record {
      exact = subst (λ t. LeftAt t now out left r) (sym (ended e)) g.here;
      passes = (g.passing.long, g.passing.rules);
      places = g.places;
      onward = g.onward;
      further = further;
      within = g.within;
      numbered = g.numbered;
      room = g.room;
    }

    pub going_end : length sheet ≤ r.at → RanLines sheet at number before now out left r
    going_end h = over (no_line sheet (length out) s (omega (arith, g.here.at))) (λ l. omega arith)

    pub going_full : longest_line (length before.answers) ≤ length out → length out < r.filled + longest_line (length before.answers)
        → RanLines sheet at number before now out left r
    going_full fits h =
        over (no_room sheet (length out) s (omega (arith, g.here.filled, needed))) (λ l. go (dec_lt at r.at))
      where
        go : Dec (at < r.at) → at < r.at
        go (yes k) = k
        go (no k) = absurd (omega (arith, g.begun (omega arith)))
