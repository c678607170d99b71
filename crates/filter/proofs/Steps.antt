-- What a part of the walk does to the candidates, for a table that holds a tree: by recursion on the tree. Candidates are only added behind, each point that the part passes is added or has k candidates as near, and no more nodes are opened than there are. Assumes nothing.
use Prim.Native.Nat.{ℕ, zero, suc, ◌+◌, ◌≤◌}
use native.Mathlib.Omega.{arith}
use mathlib.Core.Path.{◌≡◌, refl, sym, ap, subst, ◌∙◌}
use mathlib.Core.Bool.{true, cond}
use mathlib.Core.List.Memᴰ
use mathlib.Core.List.{List, [], ◌∷◌, ◌++◌, map, append-nil, append_assoc}
use lib.ListN.{length, length-append}
use borrow.Author.Tests.{leb-true}
use Rattle.grid.specs.declared.place.Place.{Place}
use Rattle.grid.specs.Place.{Inside, Within, least_square}
use Rattle.grid.specs.AsNear.{as_near_to, corners_as_near}
use Rattle.grid.proofs.Rects.{within_trans, inside_within}
use Rattle.grid.proofs.AsNear.{half_plane}
use Rattle.order.specs.Lists.{count, join, Mem, All}
use Rattle.order.specs.Order.{sort_by, Perm, ptrans}
use Rattle.order.proofs.Perm.{prefl, perm_length, perm_before, perm_behind, perm_turn, perm_append, perm_mem}
use Rattle.order.proofs.Lists.{by_bool, count_append, count_mono, all_mem, mem_all, all_perm, all_append, join_in, perm_join}
use Rattle.order.proofs.Order.{sort_perm, sort_map}
use Rattle.table.specs.declared.node.Entry.{Entry}
use Rattle.table.specs.Words.{Words}
use Rattle.figures.specs.Figures.{LEAST}
use Rattle.table.specs.Stations.{is_point}
use Rattle.table.specs.Tree.{Tree, top_of, entry_of_tree, slots_of, leaves_of, Stored}
use Rattle.table.proofs.Cover.{cover_mem}
use Rattle.rules.proofs.Joined.{all_left}
use Rattle.rules.proofs.Reading.{Point, point, Good, good_child, good_children, entry_reference, stored_child, stored_entries}
use Rattle.filter.proofs.RowLaws.{map_same}
use Rattle.filter.specs.Walk.{Found, spot_in, each, nearest_first, point_hidden, box_hidden, with_candidate, with_opened, visited, entered, walk}

-- ---- lists

-- the inner two of four change places
perm_inner : {A : Type 0} (a b c d : List A) → Perm ((a ++ b) ++ (c ++ d)) ((a ++ c) ++ (b ++ d))
perm_inner a b c d =
    simp append_assoc (perm_before a (simp (← append_assoc) (perm_behind (perm_turn b c) d)))

-- ---- a point lies in the boxes above it

pub leaf_within : (l : ℕ) (t : Tree l) (e : Entry) → Mem e (leaves_of l t) → Within e.rect (entry_of_tree l t).rect
leaf_within zero t e m = cover_mem t.items m
leaf_within (suc l) t e m =
    join_in (leaves_of l) (λ b. Within b.rect (entry_of_tree (suc l) t).rect) t.items
    (λ c mc b mb. within_trans (leaf_within l c b mb) (cover_mem (map (entry_of_tree l) t.items) (Memᴰ.map (entry_of_tree l) mc)))
    e m

-- the place of a point lies in its box
point_inside : {e : Entry} → Point e → Inside (spot_in e) e.rect
point_inside p = record { x = record { low = omega arith; high = omega arith }; y = record { low = omega arith; high = omega arith } }

pub leaf_inside : {lo l : ℕ} {t : Tree l} → Good lo l t → (e : Entry) → Mem e (leaves_of l t) → Inside (spot_in e) (entry_of_tree l t).rect
leaf_inside {l = l} {t = t} g e m =
    inside_within (point_inside (point e (mem_all (λ e. is_point e ≡ true) (leaves_of l t) g.points m))) (leaf_within l t e m)

-- ---- what a part of the walk does

module _ (q : Place) (k : ℕ) where
  -- at least k candidates are as near to the point as q, or nearer
  abbrev pub Hidden : List Entry → Entry → Type 0
  Hidden found e = k ≤ count (λ c. as_near_to (spot_in e) (spot_in c) q) found

  hidden_more : (a b : List Entry) (e : Entry) → Hidden a e → Hidden (a ++ b) e
  hidden_more a b e h = omega (arith, count_append (λ c. as_near_to (spot_in e) (spot_in c) q) a b)

  -- from a to b, over the points S and the nodes T
  pub record Step (S : List Entry) (T : List ℕ) (a b : Found) : Type 0 where
    pub new : List Entry
    pub rest : List Entry
    pub grown : b.candidates ≡ a.candidates ++ new
    pub split : Perm (new ++ rest) S
    pub hidden : All (Hidden b.candidates) rest
    pub opened : b.opened ≤ a.opened + length T

module _ (q : Place) (k : ℕ) where
  step_skip : (S : List Entry) (T : List ℕ) (a : Found) → All (Hidden q k a.candidates) S → Step q k S T a a
  step_skip S T a h = record {
    new = [];
    rest = S;
    grown = sym (append-nil a.candidates);
    split = prefl S;
    hidden = h;
    opened = omega arith;
  }

  step_add : (e : Entry) (a : Found) → Step q k (e ∷ []) [] a (with_candidate q k e a)
  step_add e a = record { new = e ∷ []; rest = []; grown = refl; split = prefl (e ∷ []); hidden = tt; opened = omega arith }

  step_join : (S R : List Entry) (T U : List ℕ) (a b c : Found) → Step q k S T a b → Step q k R U b c → Step q k (S ++ R) (T ++ U) a c
  step_join S R T U a b c f g = record {
    new = f.new ++ g.new;
    rest = f.rest ++ g.rest;
    grown = g.grown ∙ ap (λ l. l ++ g.new) f.grown ∙ append_assoc a.candidates f.new g.new;
    split = ptrans (perm_inner f.new g.new f.rest g.rest) (perm_append f.split g.split);
    hidden =
        all_append (Hidden q k c.candidates) f.rest g.rest
        (all_mem (Hidden q k c.candidates) f.rest
        (λ e m. subst (λ l. Hidden q k l e) (sym g.grown) (hidden_more q k b.candidates g.new e (mem_all (Hidden q k b.candidates) f.rest f.hidden m))))
        g.hidden;
    opened = omega (arith, f.opened, g.opened, length-append T U);
  }

  step_order : (S R : List Entry) (T U : List ℕ) (a b : Found) → Perm S R → length T ≡ length U → Step q k S T a b → Step q k R U a b
  step_order S R T U a b p e f = record {
    new = f.new;
    rest = f.rest;
    grown = f.grown;
    split = ptrans f.split p;
    hidden = f.hidden;
    opened = omega (arith, f.opened);
  }

  step_open : (S : List Entry) (T : List ℕ) (s : ℕ) (a b : Found) → Step q k S T (with_opened q k a) b → Step q k S (s ∷ T) a b
  step_open S T s a b f = record {
    new = f.new;
    rest = f.rest;
    grown = f.grown;
    split = f.split;
    hidden = f.hidden;
    opened = omega (arith, f.opened);
  }

  steps : {A : Type 0} (S : A → List Entry) (T : A → List ℕ) (g : A → Entry) (f : Entry → Found → Found) (xs : List A)
      → All (λ x. (now : Found) → Step q k (S x) (T x) now (f (g x) now)) xs
      → (now : Found) → Step q k (join S xs) (join T xs) now (each f (map g xs) now)
  steps S T g f [] h now = step_skip [] [] now tt
  steps S T g f (x ∷ xs) h now =
      step_join (S x) (join S xs) (T x) (join T xs) now (f (g x) now) (each f (map g xs) (f (g x) now)) (h.0 now) (steps S T g f xs h.1 (f (g x) now))

  step_visit : (e : Entry) (now : Found) → Step q k (e ∷ []) [] now (visited q k e now)
  unfolding point_hidden
  step_visit e now =
      by_bool (λ b. Step q k (e ∷ []) [] now (cond b now (with_candidate q k e now))) (point_hidden q k now.candidates e)
      (λ h. step_skip (e ∷ []) [] now (leb-true k _ h, tt))
      (λ h. step_add e now)

  step_enter : (S : List Entry) (T : List ℕ) (opening : ℕ → Found → Found) (e : Entry) (now : Found)
      → All (λ p. Inside (spot_in p) e.rect) S → Step q k S T now (opening e.reference now)
      → Step q k S T now (entered q k opening e now)
  unfolding box_hidden
  step_enter S T opening e now w f =
      by_bool (λ b. Step q k S T now (cond b now (opening e.reference now))) (box_hidden q k now.candidates e)
      (λ h. step_skip S T now
      (all_mem (Hidden q k now.candidates) S
      (λ p m. omega (arith, leb-true k _ h, count_mono (λ c. corners_as_near e.rect (spot_in c) q) (λ c. as_near_to (spot_in p) (spot_in c) q) (λ c t. half_plane (spot_in c) q t (mem_all (λ p. Inside (spot_in p) e.rect) S w m)) now.candidates))))
      (λ h. f)

-- ---- what is known of the candidates after it

module _ {q : Place} {k : ℕ} {S : List Entry} {T : List ℕ} {a b : Found} (f : Step q k S T a b) where
  -- at most one more for each point
  pub step_few : length b.candidates ≤ length a.candidates + length S
  step_few = omega (arith, ap length f.grown, length-append a.candidates f.new, length-append f.new f.rest, perm_length f.split)

  -- a fact that holds of the points holds of the candidates
  pub step_all : (Q : Entry → Type 0) → All Q a.candidates → All Q S → All Q b.candidates
  step_all Q before points =
      rw f.grown (all_append Q a.candidates f.new before (all_left Q f.new f.rest (all_perm Q f.split points)))

-- ---- the walk over a stored tree

join_none : {A B : Type 0} (xs : List A) → join {A = A} {B = B} (λ x. []) xs ≡ []
join_none [] = refl
join_none (x ∷ xs) = join_none xs

module _ (q : Place) (k : ℕ) (ws : Words) where
  step_leaf : (es : List Entry) (now : Found) → Step q k es [] now (each (visited q k) (nearest_first q k es) now)
  unfolding nearest_first
  step_leaf es now =
      let key : Entry → ℕ = λ e. least_square e.rect q in
      let sorted = sort_by key es in
      let f : Step q k (join (λ e. e ∷ []) sorted) (join (λ e. []) sorted) now (each (visited q k) (map (λ e. e) sorted) now) =
      steps q k (λ e. e ∷ []) (λ e. []) (λ e. e) (visited q k) sorted
      (all_mem (λ e. (n : Found) → Step q k (e ∷ []) [] n (visited q k e n)) sorted (λ e m n. step_visit q k e n)) now in
      step_order q k _ es _ [] now _ (sort_perm key es) (ap length (join_none sorted)) (rw (map_same sorted) at f)

  -- what opening a tree does
  abbrev pub Opens : (l : ℕ) → Tree l → Type 0
  Opens l t = (now : Found) → Step q k (leaves_of l t) (slots_of l t) now (walk q k l ws (top_of l t) now)

  step_child : {lo l : ℕ} {t : Tree l} → Good lo l t → Opens l t → (now : Found)
      → Step q k (leaves_of l t) (slots_of l t) now (entered q k (walk q k l ws) (entry_of_tree l t) now)
  step_child {lo} {l} {t} g f now =
      step_enter q k (leaves_of l t) (slots_of l t) (walk q k l ws) (entry_of_tree l t) now
      (all_mem (λ e. Inside (spot_in e) (entry_of_tree l t).rect) (leaves_of l t) (leaf_inside g))
      (rw (entry_reference l t) (f now))

  step_above : (l : ℕ) (ts : List (Tree l)) → All (Good LEAST l) ts → All (Opens l) ts → (now : Found)
      → Step q k (join (leaves_of l) ts) (join (slots_of l) ts) now (each (entered q k (walk q k l ws)) (nearest_first q k (map (entry_of_tree l) ts)) now)
  unfolding nearest_first
  step_above l ts gs fs now =
      let key : Tree l → ℕ = λ c. least_square (entry_of_tree l c).rect q in
      let sorted = sort_by key ts in
      let p : Perm sorted ts = sort_perm key ts in
      let Turn : Tree l → Type 0 = λ c. (n : Found) → Step q k (leaves_of l c) (slots_of l c) n (entered q k (walk q k l ws) (entry_of_tree l c) n) in
      let f : Step q k (join (leaves_of l) sorted) (join (slots_of l) sorted) now (each (entered q k (walk q k l ws)) (map (entry_of_tree l) sorted) now) =
      steps q k (leaves_of l) (slots_of l) (entry_of_tree l) (entered q k (walk q k l ws)) sorted
      (all_mem Turn sorted
      (λ c m. step_child (mem_all (Good LEAST l) ts gs (perm_mem p m)) (mem_all (Opens l) ts fs (perm_mem p m)))) now in
      step_order q k _ _ _ _ now _ (perm_join (leaves_of l) p) (perm_length (perm_join (slots_of l) p))
      (rw (sort_map (entry_of_tree l) (λ e. least_square e.rect q) ts) at f)

  pub step_walk : {lo : ℕ} (l : ℕ) (t : Tree l) → Good lo l t → Stored l ws t → Opens l t
  step_walk zero t g st now =
      rw (stored_entries ws {t = t} g st) (step_open q k t.items [] t.slot now _ (step_leaf t.items (with_opened q k now)))
  step_walk (suc l) t g st now =
      rw (stored_entries ws {t = t} g st)
      (step_open q k _ _ t.slot now _
      (step_above l t.items (good_children g)
      (all_mem (Opens l) t.items (λ c m. step_walk l c (good_child g m) (stored_child ws l t st m)))
      (with_opened q k now)))
