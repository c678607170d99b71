-- The lines of a query in their order: what the check refuses is refused, on a table that passes it the first line that holds is given, and the answer list decides last. By the tests of the lines. Assumes nothing.
use Prim.Native.Nat.{ℕ}
use native.Mathlib.Omega.{arith}
use mathlib.Core.Path.{◌≡◌, refl, sym, ap, ◌∙◌}
use mathlib.Core.Bool.{Bool, true, false, cond}
use mathlib.Core.List.{List, [], ◌∷◌, ◌++◌}
use lib.Dec.{ltb}
use lib.IntN.{ℤ}
use lib.ListN.{length}
use borrow.Author.Tests.{eq-eqb, le-ltb}
use Rattle.std.specs.Prelude.{Err}
use Rattle.words.specs.Word.{nat_of}
use Rattle.grid.specs.declared.site.Site.{Site}
use Rattle.order.specs.Lists.{All}
use Rattle.order.proofs.Lists.{by_bool}
use Rattle.table.specs.declared.given.Refusal.TheVariants.{WrongLength, OffGrid, NoSuchK, FewCandidates, ShortList}
use Rattle.figures.specs.Figures.{LENGTH}
use Rattle.table.specs.Words.{Words, points_of}
use Rattle.limits.specs.Limits.{off_grid, no_such_k}
use Rattle.rules.specs.Rules.{well_formed}
use Rattle.table.specs.Given.{Given, Done, Line, line, number_given, first_of}
use Rattle.audit.specs.Check.{wrong_length, malformed, check_gives, bad_at}
use Rattle.filter.specs.Query.{answers_found}
use Rattle.refusals.specs.Refusals.{query_gives}
use Rattle.refusals.proofs.Given.{passed_before}
use Rattle.refusals.proofs.CallOrder.{by_two}

-- ---- the order

module _ (ws : Words) (long : length ws ≡ LENGTH) (rules : well_formed ws ≡ true) (q : Site) (k : ℤ) (room places : ℕ) where
  pub query_4 : off_grid q ≡ true → query_gives ws q k room places ≡ Err OffGrid
  unfolding query_gives
  query_4 a = rw (eq-eqb (length ws) LENGTH long, rules, a)

  pub query_5 : off_grid q ≡ false → no_such_k k ≡ true → query_gives ws q k room places ≡ Err NoSuchK
  unfolding query_gives
  query_5 a b = rw (eq-eqb (length ws) LENGTH long, rules, a, b)

  pub query_9 : off_grid q ≡ false → no_such_k k ≡ false → ltb room (points_of ws) ≡ true → query_gives ws q k room places ≡ Err FewCandidates
  unfolding query_gives
  query_9 a b d = rw (eq-eqb (length ws) LENGTH long, rules, a, b, d)

  -- then the answer list decides
  pub query_last : off_grid q ≡ false → no_such_k k ≡ false → ltb room (points_of ws) ≡ false
      → query_gives ws q k room places ≡ cond (ltb places (length (answers_found ws q (nat_of k)))) (Err ShortList) Done
  unfolding query_gives
  query_last a b d = rw (eq-eqb (length ws) LENGTH long, rules, a, b, d)

-- ---- the lines before the last

abbrev before10 : Words → Site → ℤ → ℕ → List Line
before10 ws q k room =
    line (wrong_length ws) WrongLength
    ∷ line (malformed ws) (bad_at ws)
    ∷ line (off_grid q) OffGrid
    ∷ line (no_such_k k) NoSuchK
    ∷ line (ltb room (points_of ws)) FewCandidates
    ∷ []

-- what is refused before the last line is refused whatever that says
early : (ls : List Line) (b : Bool) {g : Given} → g ≡ first_of (ls ++ line false ShortList ∷ []) → (g ≡ Done → ⊥) → g ≡ first_of (ls ++ line b ShortList ∷ [])
early [] b e d = absurd (d e)
early (l ∷ ls) b {g} e d =
    by_bool (λ t. g ≡ cond t l.gives (first_of (ls ++ line false ShortList ∷ [])) → g ≡ cond t l.gives (first_of (ls ++ line b ShortList ∷ [])))
    l.holds (λ t h. h) (λ t h. early ls b h d) e

-- and what passes all before it, it decides
all_before : (ls ms : List Line) → All (λ l. l.holds ≡ false) ls → first_of (ls ++ ms) ≡ first_of ms
all_before [] ms h = refl
all_before (l ∷ ls) ms h = rw h.0 (all_before ls ms h.1)

-- how many answers there are
abbrev pub answers_told : Words → Site → ℤ → ℕ
answers_told ws q k = length (answers_found ws q (nat_of k))

module _ (ws : Words) (q : Site) (k : ℤ) (room : ℕ) where
  -- with room for all answers the last line is passed
  enough : query_gives ws q k room (answers_told ws q k) ≡ first_of (before10 ws q k room ++ line false ShortList ∷ [])
  unfolding query_gives
  enough = ap (λ b. first_of (before10 ws q k room ++ line b ShortList ∷ [])) (le-ltb (answers_told ws q k) (answers_told ws q k) (omega arith))

  module _ {g : Given} (e : g ≡ query_gives ws q k room (answers_told ws q k)) where
    pub query_early : (g ≡ Done → ⊥) → (places : ℕ) → g ≡ query_gives ws q k room places
    unfolding query_gives
    query_early d places = early (before10 ws q k room) (ltb places (answers_told ws q k)) (e ∙ enough) d

    pub not_few : g ≡ Err ShortList → ⊥
    not_few f =
        let h = (passed_before (Err ShortList) (before10 ws q k room) (line false ShortList ∷ []) refl (sym enough ∙ sym e ∙ f)).1 in
        let z : ◌≡◌ {A = ℕ} 0 10 = ap number_given h in
        omega arith

    pub query_late : g ≡ Done → (places : ℕ) → query_gives ws q k room places ≡ cond (ltb places (answers_told ws q k)) (Err ShortList) Done
    unfolding query_gives
    query_late d places =
        all_before (before10 ws q k room) (line (ltb places (answers_told ws q k)) ShortList ∷ [])
        (passed_before Done (before10 ws q k room) (line false ShortList ∷ []) refl (sym enough ∙ sym e ∙ d)).0

  -- what the check refuses, the query refuses
  pub query_first : {g : Given} → g ≡ check_gives ws → (g ≡ Done → ⊥) → (places : ℕ) → g ≡ query_gives ws q k room places
  unfolding check_gives query_gives
  query_first e d places = sym (by_two (Err WrongLength) (Err (bad_at ws)) (wrong_length ws) (malformed ws) e d _)
