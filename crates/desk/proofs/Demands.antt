-- The mission's three demands, and what a granted card lists. The first by the cases of what a call gives, the second by the walk's theorem, the third call by call. Assumes nothing.
use Prim.Native.Nat.{ℕ, suc}
use mathlib.Core.Path.{◌≡◌, refl, sym, ap, ◌∙◌}
use mathlib.Core.Logic.{inl, inr, ⊎_elim}
use mathlib.Core.Bool.{Bool, true, false, cond, not}
use mathlib.Core.List.{List, [], ◌∷◌}
use lib.Dec.{eqb}
use lib.ListN.{length}
use native.Mathlib.Omega.{arith}
use Rattle.limits.proofs.Refused.{if_refused}
use Rattle.words.specs.Word.{nat_of}
use Rattle.order.specs.Order.{Perm, pskip, ptrans}
use Rattle.order.proofs.Perm.{prefl}
use Rattle.order.specs.Lists.{All}
use Rattle.table.specs.Given.{Given, Done, Line, number_given, first_of, if_done}
use Rattle.audit.specs.Check.{check_lines, check_gives}
use Rattle.table.specs.Words.{Words}
use Rattle.table.specs.Stations.{Station, stations}
use Rattle.rules.specs.Rules.{Passing}
use Rattle.joining.specs.Enrol.{enrolled}
use Rattle.leaving.specs.Withdraw.{withdrawn}
use Rattle.filter.specs.Query.{Counts, counts_of, records_found, answers_found, laid_over}
use Rattle.filter.proofs.Rising.{perm_filter}
use Rattle.card.specs.Card.{names_for}
use Rattle.refusals.specs.Refusals.{enrol_lines, enrol_gives, withdraw_lines, withdraw_gives, query_lines, query_gives, card_lines, card_gives}
use Rattle.refusals.specs.Cases.{if_short_list}
use Rattle.desk.specs.Calls.{point_entry, after_enrol, after_withdraw, after_query, zero_counts, only_n, after_card}
use Rattle.desk.specs.Demands.{First, Exactly, Demand1, Demand2, GrantedCards, Call, enrol, withdraw, look, table_after, points_after, points_after_all, Demand3, AnyCalls}
use Rattle.refusals.proofs.Given.{if_not_few, by_done}
use Rattle.desk.proofs.Granted.{full_points, card_granted}
use Rattle.desk.proofs.CallCard.{number_station, names_of_it}
use Rattle.desk.proofs.Passing.{passing_points, passing_few, passing_once, passing_nodes, passing_levels}
use Rattle.desk.proofs.Kept.{call_kept}
use Rattle.desk.proofs.Finds.{granted_answers}

-- ---- demand 1

-- a test holds or it does not
by_test : {Q : Type 0} (b : Bool) → (b ≡ true → Q) → (b ≡ false → Q) → Q
by_test true t f = t refl
by_test false t f = f refl

refused_only_lem : (ls : List Line) (h : Given) → (h ≡ Done → ⊥) → first_of ls ≡ h → First ls h
refused_only_lem [] h not0 e = not0 (sym e)
refused_only_lem (l ∷ ls) h not0 e =
    by_test l.holds
    (λ t. inl (t, sym (ap (λ b. cond b l.gives (first_of ls)) t) ∙ e))
    (λ f. inr (f, refused_only_lem ls h not0 (sym (ap (λ b. cond b l.gives (first_of ls)) f) ∙ e)))

refused_then_lem : (ls : List Line) (h : Given) → First ls h → first_of ls ≡ h
refused_then_lem [] h f = absurd f
refused_then_lem (l ∷ ls) h f =
    ⊎_elim
    (λ a. ap (λ b. cond b l.gives (first_of ls)) a.0 ∙ a.1)
    (λ a. ap (λ b. cond b l.gives (first_of ls)) a.0 ∙ refused_then_lem ls h a.1)
    f

-- no line gives 0
abbrev Refusing : List Line → Type 0
Refusing ls = All (λ l. l.gives ≡ Done → ⊥) ls

done_only_lem : (ls : List Line) → Refusing ls → first_of ls ≡ Done → All (λ l. l.holds ≡ false) ls
done_only_lem [] r e = tt
done_only_lem (l ∷ ls) r e =
    by_test l.holds
    (λ t. absurd (r.0 (sym (ap (λ b. cond b l.gives (first_of ls)) t) ∙ e)))
    (λ f. (f, done_only_lem ls r.1 (sym (ap (λ b. cond b l.gives (first_of ls)) f) ∙ e)))

done_then_lem : (ls : List Line) → All (λ l. l.holds ≡ false) ls → first_of ls ≡ Done
done_then_lem [] a = refl
done_then_lem (l ∷ ls) a = ap (λ b. cond b l.gives (first_of ls)) a.0 ∙ done_then_lem ls a.1

exactly : (ls : List Line) → Refusing ls → Exactly ls (first_of ls)
exactly ls r = record {
  refused_only = refused_only_lem ls;
  refused_then = λ h not0 f. refused_then_lem ls h f;
  done_only = done_only_lem ls r;
  done_then = done_then_lem ls;
}

-- the number of a refusal is not 0
nonzero : {g : Given} {n : ℕ} → number_given g ≡ suc n → g ≡ Done → ⊥
nonzero {g} {n} e d =
    let z : 0 ≡ suc n = sym (ap number_given d) ∙ e in
    absurd (omega arith)

pub demand1 : Demand1
unfolding check_gives enrol_gives withdraw_gives query_gives card_gives after_enrol after_withdraw after_query after_card
demand1 = record {
  check = λ ws. exactly (check_lines ws) (nonzero refl, (nonzero refl, tt));
  enrol = λ ws n p. exactly (enrol_lines ws n p) (nonzero refl, (nonzero refl, (nonzero refl, (nonzero refl, (nonzero refl, (nonzero refl, tt))))));
  withdraw = λ ws n. exactly (withdraw_lines ws n) (nonzero refl, (nonzero refl, (nonzero refl, (nonzero refl, tt))));
  query = λ ws q k cs out.
      exactly (query_lines ws q k (length cs) (length out)) (nonzero refl, (nonzero refl, (nonzero refl, (nonzero refl, (nonzero refl, (nonzero refl, tt))))));
  card = λ ws n k list. exactly (card_lines ws n k (length list)) (nonzero refl, (nonzero refl, (nonzero refl, (nonzero refl, (nonzero refl, (nonzero refl, tt))))));
  enrol_refused = λ ws n p no. if_refused (enrol_gives ws n p) no (enrolled ws (point_entry n p)) ws;
  withdraw_refused = λ ws n no. if_refused (withdraw_gives ws n) no (withdrawn ws (nat_of n)) ws;
  query_refused = λ ws q k cs out no more.
      let g = query_gives ws q k (length cs) (length out) in
      let counts = counts_of ws q (nat_of k) in
      let records = laid_over (records_found ws q (nat_of k)) cs in (
        if_refused g no counts (if_short_list g (only_n counts) zero_counts) ∙ if_not_few g more (only_n counts) zero_counts,
        if_refused g no records (if_short_list g records cs) ∙ if_not_few g more records cs,
        if_refused g no (laid_over (answers_found ws q (nat_of k)) out) out,
      );
  short = λ ws q k cs out ten.
      let counts = counts_of ws q (nat_of k) in
      let records = laid_over (records_found ws q (nat_of k)) cs in (
        ap (λ g. if_done g counts (if_short_list g (only_n counts) zero_counts)) ten,
        ap (λ g. if_done g records (if_short_list g records cs)) ten,
        ap (λ g. if_done g (laid_over (answers_found ws q (nat_of k)) out) out) ten,
      );
  card_refused = λ ws n k list no more.
      let g = card_gives ws n k (length list) in
      let card = names_for (stations ws) (nat_of n) (nat_of k) in (
        if_refused g no (length card) (if_short_list g (length card) 0) ∙ if_not_few g more (length card) 0,
        if_refused g no (laid_over card list) list,
      );
  card_short = λ ws n k list ten.
      let card = names_for (stations ws) (nat_of n) (nat_of k) in (
        ap (λ g. if_done g (length card) (if_short_list g (length card) 0)) ten,
        ap (λ g. if_done g (laid_over card list) list) ten,
      );
}

-- ---- demand 2

pub demand2 : Demand2
unfolding after_query
demand2 ws words q k cs out done =
    let counts = counts_of ws q (nat_of k) in
    let records = laid_over (records_found ws q (nat_of k)) cs in
    let few : (g : Given) → Counts = λ g. if_short_list g (only_n counts) zero_counts in
    let found-is = granted_answers ws words q k (length cs) (length out) done in
    let c = ap (λ g. if_done g counts (few g)) done in
    record {
      answers = ap (λ g. if_done g (laid_over (answers_found ws q (nat_of k)) out) out) done ∙ ap (λ a. laid_over a out) found-is;
      n = ap (λ (x : Counts). x.n) c ∙ ap length found-is;
      candidates = ap (λ g. if_done g records (if_short_list g records cs)) done;
      m = ap (λ (x : Counts). x.m) c;
      o = ap (λ (x : Counts). x.o) c;
    }

-- ---- the card

pub granted_cards : GrantedCards
unfolding after_card
granted_cards ws words n k list done =
    let ready = (card_granted ws n k (length list) done).0 in
    let once = passing_once (record { long = ready.long; words = words; rules = ready.rules }) in
    let card = names_for (stations ws) (nat_of n) (nat_of k) in
    record {
      enrolled = number_station (nat_of n) (stations ws) ready.enrolled;
      list = λ p m e. ap (λ g. if_done g (laid_over card list) list) done ∙ ap (λ l. laid_over l list) (names_of_it (stations ws) once (nat_of n) (nat_of k) p m e);
      names = λ p m e. ap (λ g. if_done g (length card) (if_short_list g (length card) 0)) done ∙ ap length (names_of_it (stations ws) once (nat_of n) (nat_of k) p m e);
    }

-- ---- demand 3

-- the same points in another order lead to the same points in another order
points_order : (ws : Words) (c : Call) {ps rs : List Station} → Perm ps rs → Perm (points_after ws c ps) (points_after ws c rs)
points_order ws (enrol n p) o = by_done (enrol_gives ws n p) Perm (λ d. pskip (record { number = nat_of n; site = p }) o) o
points_order ws (withdraw n) o = by_done (withdraw_gives ws n) Perm (λ d. perm_filter (λ s. not (eqb s.number (nat_of n))) o) o
points_order ws look o = o

points_order_all : (ws : Words) (cs : List Call) {ps rs : List Station} → Perm ps rs → Perm (points_after_all ws cs ps) (points_after_all ws cs rs)
points_order_all ws [] o = o
points_order_all ws (c ∷ cs) o = points_order_all (table_after ws c) cs (points_order ws c o)

-- what a table that passes the check has, after no further call
pub no_calls : {ws : Words} → Passing ws → Demand3 ws []
no_calls {ws} p = record {
  sound = p;
  points = prefl (stations ws);
  nodes = passing_nodes p;
  levels = passing_levels p;
  room = λ n s full. omega (arith, full_points ws n s full, passing_few p, passing_points p);
}

pub demand3 : AnyCalls
demand3 ws p [] = no_calls p
demand3 ws p (c ∷ cs) =
    let k = call_kept p c in
    let rest = demand3 (table_after ws c) k.passing cs in
    record {
      sound = rest.sound;
      points = ptrans rest.points (points_order_all (table_after ws c) cs k.points);
      nodes = rest.nodes;
      levels = rest.levels;
      room = rest.room;
    }
