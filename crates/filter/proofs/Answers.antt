-- The answers of the walk are the stations that answer: a point that is no candidate has k candidates as near as the query or nearer, and these are others. Assumes nothing.
use Prim.Native.Nat.{ℕ, ◌+◌, ◌-◌, ◌≤◌, ◌<◌, ◌^◌}
use native.Mathlib.Decide.{dec_lt}
use native.Mathlib.Omega.{arith}
use mathlib.Core.Path.{◌≡◌, refl, sym, ap, subst, ◌∙◌}
use mathlib.Core.Bool.{Bool, true, false}
use mathlib.Core.List.Memᴰ
use mathlib.Core.List.{List, [], ◌∷◌, ◌++◌, map, map-append, append-nil}
use lib.Dec.{eqb}
use lib.IntN.{ℤ, pos, negsuc}
use lib.ListN.{length}
use borrow.Author.Tests.{eqb-true, eqb-false, eq-eqb, ne_eqb, le-ltb}
use Rattle.words.specs.Word.{IsWord, nat_of}
use Rattle.grid.specs.declared.site.Site.{Site}
use Rattle.grid.specs.Site.{place_of, distance²}
use Rattle.grid.specs.AsNear.{as_near, as_near_to}
use Rattle.words.proofs.Words.{word_is, steps_word}
use Rattle.grid.proofs.Rects.{place_ext}
use Rattle.grid.proofs.Sites.{SiteWords, SiteOnGrid, site_words, dist_sites}
use Rattle.order.specs.Lists.{count, one, filter, every, join, Mem, All, NoDup}
use Rattle.order.specs.Order.{Perm, ptrans}
use Rattle.order.proofs.Perm.{psym, perm_map}
use Rattle.order.proofs.Lists.{by_bool, count_append, perm_count, count_mem, all_mem, mem_all, all_perm, perm_nodup, all_then, and_left, and_right}
use Rattle.table.specs.declared.node.Entry.{Entry}
use Rattle.table.specs.Words.{Words, word, is_minus_one, points_of, part_at}
use Rattle.table.specs.Page.{page_of}
use Rattle.table.specs.Slots.{slots, is_free, page_at}
use Rattle.table.specs.Stations.{Station, stations_at, stations, is_point, station_of_entry}
use Rattle.figures.specs.Figures.{LENGTH}
use Rattle.rules.specs.Rules.{is_empty, well_formed}
use Rattle.table.specs.Tree.{Tree, top_of, slots_of, leaves_of, Sound, Holds}
use Rattle.filter.specs.Meaning.{as_near_other, answers_to, rising, answer}
use Rattle.filter.specs.Walk.{Found, spot_in, walk}
use Rattle.filter.specs.Query.{nothing, found, answers_found}
use Rattle.filter.proofs.Rising.{filter_append, filter_none, perm_filter, rising_same}
use Rattle.filter.proofs.Steps.{Hidden, Step, step_few, step_all, step_walk}
use Rattle.rules.proofs.Tests.{by_test}
use Rattle.rules.proofs.Joined.{nodup_left, nodup_apart}
use Rattle.rules.proofs.Reading.{Point, point, good_root, stored_level, held_points}
use Rattle.rules.proofs.Held.{held_stations, not_empty}
use Rattle.rules.proofs.WellFormed.{well_formed_tree}

-- ---- a leaf's entry as a station

-- its place in steps is that of its station
pub point_site : (e : Entry) → Point e → SiteWords (station_of_entry e).site × (place_of (station_of_entry e).site ≡ spot_in e)
point_site e p =
    let bx : e.rect.x.low < 2 ^ 32 = omega (arith, p.x.grid) in
    let by : e.rect.y.low < 2 ^ 32 = omega (arith, p.y.grid) in
    (record { x = word_is _ bx; y = word_is _ by }, place_ext (steps_word _ bx) (steps_word _ by))

-- as near in steps is as near on the ground
pub as_near_site : (q : Site) → SiteOnGrid q → (c e : Entry) → Point c → Point e
    → as_near_to (spot_in e) (spot_in c) (place_of q) ≡ as_near (distance² (station_of_entry c).site (station_of_entry e).site) (distance² q (station_of_entry e).site)
unfolding as_near_to
as_near_site q g c e pc pe =
    let sc = point_site c pc in
    let se = point_site e pe in
    rw (← se.1, ← sc.1, dist_sites sc.0 se.0, dist_sites (site_words g) se.0)

-- ---- hidden points do not answer

one_into : (a b : Bool) → (a ≡ true → b ≡ true) → one a ≤ one b
one_into true b h = rw (h refl) (omega arith)
one_into false b h = omega arith

count_into : {A B : Type 0} (P : A → Bool) (Q : B → Bool) (f : A → B) (xs : List A) → All (λ x. P x ≡ true → Q (f x) ≡ true) xs
    → count P xs ≤ count Q (map f xs)
count_into P Q f [] h = omega arith
count_into P Q f (x ∷ xs) h = omega (arith, one_into (P x) (Q (f x)) h.0, count_into P Q f xs h.1)

-- each that passes P passes Q, but for those that R excepts
one_but : (a b c : Bool) → (a ≡ true → c ≡ false → b ≡ true) → one a ≤ one b + one c
one_but true b true h = omega arith
one_but true b false h = rw (h refl refl) (omega arith)
one_but false b c h = omega arith

count_but : {A B C : Type 0} (P : A → Bool) (Q : B → Bool) (R : C → Bool) (f : A → B) (g : A → C) (xs : List A)
    → All (λ x. P x ≡ true → R (g x) ≡ false → Q (f x) ≡ true) xs → count P xs ≤ count Q (map f xs) + count R (map g xs)
count_but P Q R f g [] h = omega arith
count_but P Q R f g (x ∷ xs) h = omega (arith, one_but (P x) (Q (f x)) (R (g x)) h.0, count_but P Q R f g xs h.1)

-- where no number stands twice, each stands at most once
once_most : (n : ℕ) (ns : List ℕ) → NoDup ns → count (eqb n) ns ≤ 1
once_most n [] d = omega arith
once_most n (m ∷ ns) d =
    let in_rest : 1 ≤ count (eqb n) ns → Mem n ns = count_mem eqb eqb-true (λ a. eq-eqb a a refl) n ns in
    by_bool (λ t. one t + count (eqb n) ns ≤ 1) (eqb n m)
    (λ e. elim (dec_lt (count (eqb n) ns) 1) [
      | yes h ↦ omega arith
      | no h ↦ absurd (d.0 (Memᴰ.cast (sym (eqb-true n m e)) (in_rest (omega arith))))
    ])
    (λ e. omega (arith, once_most n ns d.1))

abbrev pub number_of : Entry → ℕ
number_of e = e.reference

module _ (q : Site) (g : SiteOnGrid q) (k : ℕ) where
  -- candidates of other numbers that are as near in steps are others that are as near
  other_as_near_lem : (c e : Entry) → Point c → Point e → (c.reference ≡ e.reference → ⊥)
      → as_near_to (spot_in e) (spot_in c) (place_of q) ≡ true → as_near_other q (station_of_entry e) (station_of_entry c) ≡ true
  unfolding as_near_other
  other_as_near_lem c e pc pe ne h = rw (ne_eqb c.reference e.reference ne) (sym (as_near_site q g c e pc pe) ∙ h)

  hidden_out : (all : List Station) (b rest : List Entry) → Perm all (map station_of_entry (b ++ rest)) → All Point (b ++ rest)
      → NoDup (map number_of (b ++ rest)) → (e : Entry) → Mem e rest → Hidden (place_of q) k b e
      → answers_to all q k (station_of_entry e) ≡ false
  unfolding answers_to
  hidden_out all b rest p ps d e m h =
      let near = as_near_other q (station_of_entry e) in
      let pe : Point e = mem_all Point (b ++ rest) ps (Memᴰ.append_right b m) in
      let apart : (c : Entry) → Mem c b → c.reference ≡ e.reference → ⊥ = λ c mc s.
      nodup_apart (map number_of b) (map number_of rest) (rw (map-append number_of b rest) at d) (Memᴰ.map number_of mc) (Memᴰ.cast s (Memᴰ.map number_of m)) in
      let least : count (λ c. as_near_to (spot_in e) (spot_in c) (place_of q)) b ≤ count near (map station_of_entry b) =
      count_into (λ c. as_near_to (spot_in e) (spot_in c) (place_of q)) near station_of_entry b
      (all_mem (λ c. as_near_to (spot_in e) (spot_in c) (place_of q) ≡ true → near (station_of_entry c) ≡ true) b
      (λ c mc. other_as_near_lem c e (mem_all Point (b ++ rest) ps (Memᴰ.append_left rest mc)) pe (apart c mc))) in
      le-ltb (count near all) k (omega (arith, perm_count p near, ap (count near) (map-append station_of_entry b rest), count_append near (map station_of_entry b) (map station_of_entry rest)))

  -- a point with more than k candidates as near does not answer: at most one of these is the point itself.
  crowded_out : (all : List Station) (b rest : List Entry) → Perm all (map station_of_entry (b ++ rest)) → All Point (b ++ rest)
      → NoDup (map number_of (b ++ rest)) → (e : Entry) → Point e → k < count (λ c. as_near_to (spot_in e) (spot_in c) (place_of q)) b
      → answers_to all q k (station_of_entry e) ≡ false
  unfolding answers_to
  crowded_out all b rest p ps d e pe h =
      let near = as_near_other q (station_of_entry e) in
      let once : NoDup (map number_of b) = nodup_left (map number_of b) (map number_of rest) (rw (map-append number_of b rest) at d) in
      let least : count (λ c. as_near_to (spot_in e) (spot_in c) (place_of q)) b ≤ count near (map station_of_entry b) + count (eqb e.reference) (map number_of b) =
      count_but (λ c. as_near_to (spot_in e) (spot_in c) (place_of q)) near (eqb e.reference) station_of_entry number_of b
      (all_mem (λ c. as_near_to (spot_in e) (spot_in c) (place_of q) ≡ true → eqb e.reference c.reference ≡ false → near (station_of_entry c) ≡ true) b
      (λ c mc t ne. other_as_near_lem c e (mem_all Point (b ++ rest) ps (Memᴰ.append_left rest mc)) pe (λ s. eqb-false e.reference c.reference ne (sym s)) t)) in
      le-ltb (count near all) k
      (omega (arith, once_most e.reference (map number_of b) once, perm_count p near, ap (count near) (map-append station_of_entry b rest), count_append near (map station_of_entry b) (map station_of_entry rest)))

-- ---- a walk from nothing over all points

module _ (q : Site) (g : SiteOnGrid q) (k : ℕ) (all : List Station) (S : List Entry) (T : List ℕ) (b : Found)
    (f : Step (place_of q) k S T nothing b) (flat : Perm all (map station_of_entry S)) (ps : All Point S) (d : NoDup (map number_of S)) where
  -- the candidates, and behind them the points that are none
  split_found : Perm (b.candidates ++ f.rest) S
  split_found = rw f.grown f.split

  -- the stations are those of the candidates, and behind them those of the others
  flat_found : Perm all (map station_of_entry (b.candidates ++ f.rest))
  flat_found = ptrans flat (perm_map station_of_entry (psym split_found))

  others_out : filter (answers_to all q k) (map station_of_entry f.rest) ≡ []
  others_out =
      let P : Station → Type 0 = λ p. answers_to all q k p ≡ false in
      filter_none (answers_to all q k) (map station_of_entry f.rest)
      (all_mem P (map station_of_entry f.rest)
      (λ p m. let o = Memᴰ.of_map station_of_entry f.rest m in
      subst P o.2
      (hidden_out q g k all b.candidates f.rest flat_found
      (all_perm Point split_found ps)
      (perm_nodup (perm_map number_of (psym split_found)) d)
      o.0 o.1 (mem_all (Hidden (place_of q) k b.candidates) f.rest f.hidden o.1))))

  kept : Perm (filter (answers_to all q k) all) (filter (answers_to all q k) (map station_of_entry b.candidates))
  kept =
      let A = answers_to all q k in
      subst (λ l. Perm (filter A all) l)
      (ap (filter A) (map-append station_of_entry b.candidates f.rest)
      ∙ filter_append A (map station_of_entry b.candidates) (map station_of_entry f.rest)
      ∙ ap (λ l. filter A (map station_of_entry b.candidates) ++ l) others_out
      ∙ append-nil (filter A (map station_of_entry b.candidates)))
      (perm_filter A flat_found)

  pub answers_all : rising (map (λ p. p.number) (filter (answers_to all q k) (map station_of_entry b.candidates))) ≡ answer all q k
  unfolding answer
  answers_all = rising_same (perm_map (λ (p : Station). p.number) (psym kept))

  pub crowded : (e : Entry) → Point e → k < count (λ c. as_near_to (spot_in e) (spot_in c) (place_of q)) b.candidates → answers_to all q k (station_of_entry e) ≡ false
  crowded e pe h =
      crowded_out q g k all b.candidates f.rest flat_found (all_perm Point split_found ps) (perm_nodup (perm_map number_of (psym split_found)) d) e pe h

-- ---- a table that holds a tree

module _ (ws : Words) (l : ℕ) (t : Tree l) (h : Holds ws l t) (s : Sound l t) (q : Site) (g : SiteOnGrid q) (k : ℕ) where
  pub found_walk : found ws q k ≡ walk (place_of q) k l ws (top_of l t) nothing
  unfolding found
  found_walk =
      rw (not_empty h s) (rw h.root (rw (stored_level ws {t = t} (good_root s) h.stored)))

  pub found_step : Step (place_of q) k (leaves_of l t) (slots_of l t) nothing (found ws q k)
  found_step = rw found_walk (step_walk (place_of q) k ws l t (good_root s) h.stored nothing)

  points : All Point (leaves_of l t)
  points = all_then (λ e. is_point e ≡ true) Point point (leaves_of l t) s.points

  -- demand 2: the answers of the walk are the answer
  pub answers_right : answers_found ws q k ≡ answer (stations ws) q k
  unfolding answers_found
  answers_right =
      answers_all q g k (stations ws) (leaves_of l t) (slots_of l t) (found ws q k) found_step (held_stations h s) points s.once

  -- a point with more than k candidates as near does not answer
  pub candidates_crowded : (e : Entry) → Point e → k < count (λ c. as_near_to (spot_in e) (spot_in c) (place_of q)) (found ws q k).candidates
      → answers_to (stations ws) q k (station_of_entry e) ≡ false
  candidates_crowded = crowded q g k (stations ws) (leaves_of l t) (slots_of l t) (found ws q k) found_step (held_stations h s) points s.once

  -- no more candidates than points
  pub candidates_few : length (found ws q k).candidates ≤ length (leaves_of l t)
  candidates_few = omega (arith, step_few found_step)

  -- each is a leaf's entry
  pub candidates_leaves : (e : Entry) → Mem e (found ws q k).candidates → Mem e (leaves_of l t)
  candidates_leaves e m =
      let Q : Entry → Type 0 = λ c. Mem c (leaves_of l t) in
      mem_all Q (found ws q k).candidates (step_all found_step Q tt (all_mem Q (leaves_of l t) (λ c n. n))) m

  -- so a point
  pub candidates_points : All (λ e. is_point e ≡ true) (found ws q k).candidates
  candidates_points = step_all found_step (λ e. is_point e ≡ true) tt s.points

  -- no number stands twice
  pub candidates_once : NoDup (map number_of (found ws q k).candidates)
  candidates_once =
      let b = (found ws q k).candidates in
      let r = found_step.rest in
      let p : Perm (b ++ r) (leaves_of l t) = rw found_step.grown found_step.split in
      nodup_left (map number_of b) (map number_of r) (rw (map-append number_of b r) at (perm_nodup (perm_map number_of (psym p)) s.once))

  -- no more nodes are opened than there are
  pub opened_few : (found ws q k).opened ≤ length (slots_of l t)
  opened_few = omega (arith, found_step.opened)

-- ---- the empty table

none_not_leaf : (z : ℤ) → is_minus_one z ≡ true → eqb (nat_of z) 0 ≡ false
none_not_leaf (pos n) e = let z : ◌≡◌ {A = ℕ} 0 1 = cc in absurd (omega arith)
none_not_leaf (negsuc n) e = ne_eqb (4294967295 - n) 0 (λ f. omega (arith, eqb-true n 0 e))

-- no stations in free slots
free_stations : (ws : Words) (s : ℕ) → is_free ws s ≡ true → stations_at ws s ≡ []
unfolding is_free page_at page_of
free_stations ws s e = rw (none_not_leaf (word (part_at ws s) 0) e)

all_free : (ws : Words) (ns : List ℕ) → every (is_free ws) ns ≡ true → join (stations_at ws) ns ≡ []
all_free ws [] e = refl
all_free ws (n ∷ ns) e = rw (free_stations ws n (and_left _ _ e)) (all_free ws ns (and_right (is_free ws n) _ e))

pub stations_empty : (ws : Words) → is_empty ws ≡ true → stations ws ≡ []
unfolding stations is_empty
stations_empty ws e = all_free ws slots (and_right (eqb (points_of ws) 0) _ (and_right (is_minus_one (word ws 0)) _ e))

module _ (ws : Words) (e : is_empty ws ≡ true) (q : Site) (k : ℕ) where
  pub found_empty : found ws q k ≡ nothing
  unfolding found
  found_empty = rw e

  pub answers_empty : answers_found ws q k ≡ []
  unfolding answers_found rising
  answers_empty = rw found_empty

  pub answer_empty : answer (stations ws) q k ≡ []
  unfolding answer rising
  answer_empty = rw (stations_empty ws e)

-- ---- every well-formed table

module _ (ws : Words) (long : length ws ≡ LENGTH) (fits : All IsWord ws) (w : well_formed ws ≡ true) (q : Site) (g : SiteOnGrid q) (k : ℕ) where
  -- the candidates are points
  pub found_points : All (λ e. is_point e ≡ true) (found ws q k).candidates
  found_points =
      by_test (is_empty ws) (λ e. rw (found_empty ws e q k) tt)
      (λ e. let t = well_formed_tree ws long fits w e in candidates_points ws t.level t.tree t.holds t.sound q g k)

  -- no more than there are
  pub found_few : length (found ws q k).candidates ≤ points_of ws
  found_few =
      by_test (is_empty ws) (λ e. rw (found_empty ws e q k) (omega arith))
      (λ e.
      let t = well_formed_tree ws long fits w e in
      omega (arith, candidates_few ws t.level t.tree t.holds t.sound q g k, held_points t.holds))

  -- a point with more than k candidates as near does not answer
  pub found_crowded : (e : Entry) → is_point e ≡ true → k < count (λ c. as_near_to (spot_in e) (spot_in c) (place_of q)) (found ws q k).candidates
      → answers_to (stations ws) q k (station_of_entry e) ≡ false
  found_crowded e p h =
      by_test (is_empty ws) (λ n. absurd (omega (arith, h, ap (λ (b : Found). count (λ c. as_near_to (spot_in e) (spot_in c) (place_of q)) b.candidates) (found_empty ws n q k))))
      (λ n. let t = well_formed_tree ws long fits w n in candidates_crowded ws t.level t.tree t.holds t.sound q g k e (point e p) h)

  -- the answers are those of the meaning
  pub query_right : answers_found ws q k ≡ answer (stations ws) q k
  query_right =
      by_test (is_empty ws) (λ e. answers_empty ws e q k ∙ sym (answer_empty ws e q k))
      (λ e. let t = well_formed_tree ws long fits w e in answers_right ws t.level t.tree t.holds t.sound q g k)
