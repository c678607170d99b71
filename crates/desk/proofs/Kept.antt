-- What one call keeps: a table that passes the check passes it afterwards, and holds the points that the call says. By the theorems of enrolment and withdrawal on trees; a refused call leaves the table. Assumes nothing.
use Prim.Native.Nat.{ℕ}
use native.Mathlib.Omega.{arith}
use native.Mathlib.Decide.{dec_le}
use mathlib.Core.Path.{◌≡◌, refl, sym, ap, subst, ◌∙◌}
use mathlib.Core.Bool.{Bool, true, false, not, ◌||◌, false≢true}
use mathlib.Core.List.Memᴰ
use mathlib.Core.List.{List, [], ◌∷◌, map}
use lib.Dec.{eqb}
use lib.IntN.{ℤ}
use lib.ListN.{length}
use borrow.Author.Tests.{eqb-true, eq-eqb, ne_eqb}
use Rattle.words.specs.Word.{nat_of, steps_of, word_of, on_grid}
use Rattle.grid.specs.declared.site.Site.{Site}
use Rattle.words.proofs.Words.{word_steps, steps_test, grid_word}
use Rattle.grid.proofs.Sites.{SiteOnGrid}
use Rattle.order.specs.Lists.{filter, some, has, Mem, All, NoDup}
use Rattle.order.specs.Order.{Perm, pnil, pskip, ptrans}
use Rattle.order.proofs.Perm.{prefl, psym, perm_map, perm_mem, perm_length}
use Rattle.order.proofs.Lists.{by_bool, mem_front, all_mem, perm_nodup}
use Rattle.table.specs.declared.node.Entry.{Entry}
use Rattle.figures.specs.Figures.{HIGHEST}
use Rattle.table.specs.Given.{Done}
use Rattle.table.specs.Words.{Words}
use Rattle.table.specs.Stations.{Station, station_of_entry, stations, span_is_spot, is_point}
use Rattle.table.specs.Empty.{empty_table}
use Rattle.table.specs.Tree.{bough, leaves_of}
use Rattle.rules.specs.Rules.{Passing}
use Rattle.rules.proofs.Tests.{both_true, true_between}
use Rattle.rules.proofs.Reading.{held_points}
use Rattle.rules.proofs.Held.{held_stations}
use Rattle.rules.proofs.WellFormed.{Held, empty_stations}
use Rattle.joining.specs.Enrol.{enrolled}
use Rattle.leaving.specs.Withdraw.{withdrawn}
use Rattle.rules.proofs.EmptyTable.{empty_blank}
use Rattle.joining.proofs.Enrolled.{enrolled_holds, first_sound, first_holds}
use Rattle.leaving.proofs.Withdrawn.{mem_some, withdrawn_last, withdrawn_tree}
use Rattle.filter.proofs.Rising.{perm_filter}
use Rattle.filter.proofs.Meaning.{filter_all}
use Rattle.refusals.specs.Refusals.{is_enrolled, enrol_gives, withdraw_gives}
use Rattle.desk.specs.Calls.{point_entry, after_enrol, after_withdraw}
use Rattle.desk.specs.Demands.{Call, enrol, withdraw, look, table_after, without, points_after}
use Rattle.refusals.proofs.Given.{by_done}
use Rattle.desk.proofs.Granted.{Within, EnrolGranted, enrol_granted, withdraw_granted}
use Rattle.desk.proofs.Passing.{empty_passing, held_passing, by_table, numbers, leaf_numbers, held_numbers}

-- the table passes the check, and holds these points
pub record Kept (us : Words) (ps : List Station) : Type 0 where
  pub passing : Passing us
  pub points : Perm (stations us) ps

-- ---- whether a number is enrolled

some_mem : {A : Type 0} (P : A → Bool) (xs : List A) → some P xs ≡ true → (x : A) × Mem x xs × (P x ≡ true)
some_mem P [] e = absurd (false≢true e)
some_mem {A} P (x ∷ xs) e =
    by_bool (λ b. P x ≡ b → (b || some P xs) ≡ true → (y : A) × Mem y (x ∷ xs) × (P y ≡ true)) (P x)
    (λ t h d. (x, Memᴰ.head refl, h))
    (λ f h d. let o = some_mem P xs d in (o.0, Memᴰ.tail o.1, o.2)) refl e

pub enrolled_number : (ws : Words) (n : ℤ) → is_enrolled ws n ≡ true → Mem (nat_of n) (numbers (stations ws))
enrolled_number ws n e =
    let o = some_mem (eqb (nat_of n)) (numbers (stations ws)) e in
    Memᴰ.cast (eqb-true (nat_of n) o.0 o.2) o.1

pub number_enrolled : (ws : Words) (n : ℤ) → Mem (nat_of n) (numbers (stations ws)) → is_enrolled ws n ≡ true
number_enrolled ws n m = mem_some (eqb (nat_of n)) (numbers (stations ws)) m (eq-eqb (nat_of n) (nat_of n) refl)

-- ---- an enrolment

abbrev pub station_at : ℤ → Site → Station
station_at n p = record { number = nat_of n; site = p }

spot_span : (z : ℤ) → on_grid z ≡ true → span_is_spot (record { low = steps_of z; high = steps_of z }) ≡ true
spot_span z g = both_true (eq-eqb (steps_of z) (steps_of z) refl) (steps_test z ∙ g)

-- the entry of a point that may be enrolled
pub point_entry_lem : (n : ℤ) (p : Site) → Within 1 HIGHEST (nat_of n) → SiteOnGrid p → is_point (point_entry n p) ≡ true
point_entry_lem n p w g =
    both_true (true_between 1 HIGHEST (nat_of n) w.least w.most) (both_true (spot_span p.x g.x) (spot_span p.y g.y))

pub entry_station : (n : ℤ) (p : Site) → SiteOnGrid p → station_of_entry (point_entry n p) ≡ station_at n p
entry_station n p g =
    let x : word_of (steps_of p.x) ≡ p.x = word_steps p.x (grid_word p.x g.x) in
    let y : word_of (steps_of p.y) ≡ p.y = word_steps p.y (grid_word p.y g.y) in
    λ i. record { number = nat_of n; site = record { x = x i; y = y i } }

-- a tree with one more point
one_more : {us : Words} (h : Held us) (e : Entry) (es : List Entry) (ps : List Station) → Perm (leaves_of h.level h.tree) (e ∷ es)
    → Perm ps (map station_of_entry es) → Kept us (station_of_entry e ∷ ps)
one_more h e es ps more old = record {
  passing = held_passing h;
  points = ptrans (held_stations h.holds h.sound) (ptrans (perm_map station_of_entry more) (pskip (station_of_entry e) (psym old)));
}

module _ (n : ℤ) (p : Site) where
  abbrev new : Entry
  new = point_entry n p

  enrol_entry : {ws : Words} → Passing ws → EnrolGranted ws n p → Kept (enrolled ws new) (station_of_entry new ∷ stations ws)
  enrol_entry {ws} =
      by_table (λ us. EnrolGranted us n p → Kept (enrolled us new) (station_of_entry new ∷ stations us))
      (λ g.
      let point = point_entry_lem n p g.number g.grid in
      one_more
      (record {
        level = 0;
        tree = bough 0 (new ∷ []);
        holds = first_holds empty_table new empty_blank point;
        sound = first_sound empty_table new empty_blank point;
      })
      new [] (stations empty_table) (prefl (new ∷ [])) (subst (λ ps. Perm ps []) (sym empty_stations) pnil))
      (λ us h g.
      let es = leaves_of h.level h.tree in
      let r = enrolled_holds us h.level h.tree new h.holds h.sound (point_entry_lem n p g.number g.grid)
      (λ m. false≢true (sym g.new ∙ number_enrolled us n (perm_mem (psym (held_numbers h)) m)))
      (omega (arith, held_points h.holds, g.room)) in
      one_more (record { level = r.level; tree = r.tree; holds = r.holds; sound = r.sound }) new es (stations us) r.points (held_stations h.holds h.sound))
      ws

pub enrol_kept : {ws : Words} → Passing ws → (n : ℤ) (p : Site) → enrol_gives ws n p ≡ Done → Kept (enrolled ws (point_entry n p)) (station_at n p ∷ stations ws)
enrol_kept {ws} passing n p d =
    let g = enrol_granted ws n p d in
    subst (λ s. Kept (enrolled ws (point_entry n p)) (s ∷ stations ws)) (entry_station n p g.grid) (enrol_entry n p passing g)

-- ---- a withdrawal

-- without the one entry of a number, the others are left
without_rest : (e : Entry) (n : ℕ) (es : List Entry) (ps : List Station) → e.reference ≡ n → Perm ps (map station_of_entry (e ∷ es))
    → NoDup (leaf_numbers (e ∷ es)) → Perm (without n ps) (map station_of_entry es)
without_rest e n es ps is p d =
    let P : Station → Bool = λ s. not (eqb s.number n) in
    let gone : P (station_of_entry e) ≡ false = ap not (eq-eqb e.reference n is) in
    let stay : All (λ s. P s ≡ true) (map station_of_entry es) =
    all_mem (λ s. P s ≡ true) (map station_of_entry es)
    (λ s m.
    let o = Memᴰ.of_map station_of_entry es m in
    ap not (ne_eqb s.number n (λ z. d.0 (Memᴰ.cast (is ∙ sym z ∙ sym (ap (λ (x : Station). x.number) o.2)) (Memᴰ.map (λ (x : Entry). x.reference) o.1))))) in
    let kept : filter P (map station_of_entry (e ∷ es)) ≡ map station_of_entry es = rw gone (filter_all P (map station_of_entry es) stay) in
    subst (Perm (without n ps)) kept (perm_filter P p)

no_more : {A : Type 0} (xs : List A) → length xs ≡ 0 → xs ≡ []
no_more [] h = refl
no_more (x ∷ xs) h = absurd (omega arith)

module _ {ws : Words} (h : Held ws) (n : ℕ) where
  abbrev leaves : List Entry
  leaves = leaves_of h.level h.tree

  -- the stations that are left, where the entry that goes and those that stay are known
  left : (e : Entry) (es : List Entry) → e.reference ≡ n → Perm (e ∷ es) leaves → Perm (without n (stations ws)) (map station_of_entry es)
  left e es is p =
      without_rest e n es (stations ws) is (ptrans (held_stations h.holds h.sound) (perm_map station_of_entry (psym p)))
      (perm_nodup (perm_map (λ (x : Entry). x.reference) (psym p)) h.sound.once)

  withdraw_entry : (e : Entry) → Mem e leaves → e.reference ≡ n → Kept (withdrawn ws n) (without n (stations ws))
  withdraw_entry e m is =
      let f = mem_front m in
      elim (dec_le 2 (length leaves)) [
        | yes two ↦
            let r = withdrawn_tree ws h.level h.tree h.holds h.sound e n m is two in
            let k : Held (withdrawn ws n) = record { level = r.level; tree = r.tree; holds = r.holds; sound = r.sound } in
            record {
              passing = held_passing k;
              points = ptrans (held_stations r.holds r.sound) (psym (left e (leaves_of r.level r.tree) is r.leaves));
            }
        | no last ↦
            let len = perm_length f.1 in
            let none : f.0 ≡ [] = no_more f.0 (omega arith) in
            let gone : withdrawn ws n ≡ empty_table = withdrawn_last ws h.level h.tree h.holds h.sound e n m is (omega arith) in
            subst (λ us. Kept us (without n (stations ws))) (sym gone)
            (record {
              passing = empty_passing;
              points =
                  subst (λ ss. Perm ss (without n (stations ws))) (sym empty_stations)
                  (psym (left e [] is (subst (λ es. Perm (e ∷ es) leaves) none f.1)));
            })
      ]

pub withdraw_kept : {ws : Words} → Passing ws → (n : ℤ) → withdraw_gives ws n ≡ Done → Kept (withdrawn ws (nat_of n)) (without (nat_of n) (stations ws))
withdraw_kept {ws} passing n d =
    by_table (λ us. is_enrolled us n ≡ true → Kept (withdrawn us (nat_of n)) (without (nat_of n) (stations us)))
    (λ i. absurd (false≢true (sym (ap (λ ps. has (nat_of n) (numbers ps)) empty_stations) ∙ i)))
    (λ us h i.
    let o = Memᴰ.of_map (λ (x : Entry). x.reference) (leaves_of h.level h.tree) (perm_mem (held_numbers h) (enrolled_number us n i)) in
    withdraw_entry h (nat_of n) o.0 o.1 o.2) ws passing (withdraw_granted ws n d).enrolled

-- ---- any call

pub call_kept : {ws : Words} → Passing ws → (c : Call) → Kept (table_after ws c) (points_after ws c (stations ws))
unfolding after_enrol after_withdraw
call_kept {ws} passing (enrol n p) = by_done (enrol_gives ws n p) Kept (enrol_kept passing n p) (record { passing = passing; points = prefl (stations ws) })
call_kept {ws} passing (withdraw n) = by_done (withdraw_gives ws n) Kept (withdraw_kept passing n) (record { passing = passing; points = prefl (stations ws) })
call_kept {ws} passing look = record { passing = passing; points = prefl (stations ws) }
