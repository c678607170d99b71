-- Each slot of a stored tree is the top of a subtree, which is stored and good too. By recursion on the level. Assumes nothing.
use Prim.Native.Nat.{ℕ, zero, suc, ◌≤◌}
use native.Mathlib.Omega.{arith}
use mathlib.Core.Path.{◌≡◌, refl, sym}
use mathlib.Core.Logic.{◌⊎◌, inl, inr, ⊎_elim}
use mathlib.Core.List.Memᴰ
use Rattle.order.specs.Lists.{Mem}
use Rattle.figures.specs.Figures.{LEAST}
use Rattle.table.specs.Words.{Words}
use Rattle.table.specs.Tree.{Tree, top_of, slots_of, Stored}
use Rattle.rules.proofs.Joined.{join_mem}
use Rattle.rules.proofs.Reading.{Good, good_child, stored_child, child_mem}

-- the subtree of t whose top is in slot s
pub record Subtree (ws : Words) (lo l : ℕ) (t : Tree l) (s : ℕ) : Type 0 where
  pub level : ℕ
  pub tree : Tree level
  pub top : top_of level tree ≡ s
  pub least : ℕ
  pub good : Good least level tree
  pub stored : Stored level ws tree
  pub within : (r : ℕ) → Mem r (slots_of level tree) → Mem r (slots_of l t)
  -- it is t itself, or a node of three items at least
  pub place : ((s ≡ top_of l t) × (least ≡ lo) × (level ≡ l)) ⊎ (LEAST ≤ least)

module _ (ws : Words) where
  itself : {lo l : ℕ} {t : Tree l} {s : ℕ} → Good lo l t → Stored l ws t → s ≡ top_of l t → Subtree ws lo l t s
  itself {lo} {l} {t} g st e =
      record {
        level = l;
        tree = t;
        top = sym e;
        least = lo;
        good = g;
        stored = st;
        within = λ r m. m;
        place = inl (e, refl, refl);
      }

  pub subtree : {lo l : ℕ} {t : Tree l} → Good lo l t → Stored l ws t → (s : ℕ) → Mem s (slots_of l t) → Subtree ws lo l t s
  subtree {l = zero} g st s m = itself g st (Memᴰ.eq_of_singleton m)
  subtree {lo} {l = suc l} {t} g st s m =
      ⊎_elim {C = Subtree ws lo (suc l) t s}
      (λ e. itself g st e)
      (λ n.
      let c = join_mem (slots_of l) t.items n in
      let r : Subtree ws LEAST l c.0 s = subtree {lo = LEAST} {l = l} {t = c.0} (good_child g c.1) (stored_child ws l t st c.1) s c.2 in
      record {
        level = r.level;
        tree = r.tree;
        top = r.top;
        least = r.least;
        good = r.good;
        stored = r.stored;
        within = λ k j. child_mem l t c.1 (r.within k j);
        place = ⊎_elim (λ p. inr (omega (arith, p.1))) (λ p. inr p) r.place;
      })
      (Memᴰ.cases_cons m)
