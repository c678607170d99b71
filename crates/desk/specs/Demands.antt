-- The three demands of the mission, as statements about the calls of `Calls.antt`.
use Rattle.std.specs.Prelude.{ℕ, ◌≤◌, ◌<◌, ◌≡◌, true, false, not, List, [], ◌∷◌, map, ◌⊎◌, eqb, ℤ, length, Err}
use Rattle.words.specs.Word.{IsWord, nat_of}
use Rattle.grid.specs.declared.site.Site.{Site}
use Rattle.order.specs.Order.{Perm}
use Rattle.order.specs.Lists.{count, filter, Mem, All}
use Rattle.table.specs.declared.given.Refusal.TheVariants.{Full, ShortList}
use Rattle.table.specs.Given.{Given, Done, Line, if_done}
use Rattle.figures.specs.Figures.{MOST, SLOTS}
use Rattle.table.specs.Words.{Words}
use Rattle.table.specs.Slots.{slots, is_free, level_at}
use Rattle.table.specs.Stations.{Station, stations}
use Rattle.rules.specs.Rules.{Passing}
use Rattle.filter.specs.Meaning.{answer}
use Rattle.audit.specs.Check.{check_lines, check_gives}
use Rattle.record.specs.declared.Candidate.{Candidate}
use Rattle.filter.specs.Query.{found, record_of, records_found, counts_of, laid_over}
use Rattle.card.specs.Card.{names_of, names_for}
use Rattle.refusals.specs.Refusals.{enrol_lines, enrol_gives, withdraw_lines, withdraw_gives, query_lines, card_lines}
use Rattle.desk.specs.Calls.{after_enrol, after_withdraw, Queried, after_query, zero_counts, only_n, Listed, after_card}

-- ---- demand 1: every call gives the number of the first line of 01 and 02 that holds, and a refusal changes nothing, but for 10 of the query and of the card.
-- 02 §4 amends "zero counts" for refusal 2 only: its answer carries the rule and the slot where the table is bad

-- a line with this answer holds, and no earlier line does
abbrev pub First : List Line → Given → Type 0
First [] g = ⊥
First (l ∷ ls) g = ((l.holds ≡ true) × (l.gives ≡ g)) ⊎ ((l.holds ≡ false) × First ls g)

-- a refusal is given exactly when its line holds and no earlier one does, and 0 exactly when none holds
pub record Exactly (ls : List Line) (g : Given) : Type 0 where
  pub refused_only : (h : Given) → (h ≡ Done → ⊥) → g ≡ h → First ls h
  pub refused_then : (h : Given) → (h ≡ Done → ⊥) → First ls h → g ≡ h
  pub done_only : g ≡ Done → All (λ l. l.holds ≡ false) ls
  pub done_then : All (λ l. l.holds ≡ false) ls → g ≡ Done

pub record Demand1 : Type 0 where
  -- the number that each call gives
  pub check : (ws : Words) → Exactly (check_lines ws) (check_gives ws)
  pub enrol : (ws : Words) (n : ℤ) (p : Site) → Exactly (enrol_lines ws n p) (enrol_gives ws n p)
  pub withdraw : (ws : Words) (n : ℤ) → Exactly (withdraw_lines ws n) (withdraw_gives ws n)
  pub query : (ws : Words) (q : Site) (k : ℤ) (cs : List Candidate) (out : List ℕ)
      → Exactly (query_lines ws q k (length cs) (length out)) (after_query ws q k cs out).given
  pub card : (ws : Words) (n k : ℤ) (list : List ℕ) → Exactly (card_lines ws n k (length list)) (after_card ws n k list).given
  -- a refused enrolment or withdrawal leaves the table as it was
  pub enrol_refused : (ws : Words) (n : ℤ) (p : Site) → (enrol_gives ws n p ≡ Done → ⊥) → after_enrol ws n p ≡ ws
  pub withdraw_refused : (ws : Words) (n : ℤ) → (withdraw_gives ws n ≡ Done → ⊥) → after_withdraw ws n ≡ ws
  -- a refused query: zero counts, and both lists as they were
  pub query_refused : (ws : Words) (q : Site) (k : ℤ) (cs : List Candidate) (out : List ℕ)
      → ((after_query ws q k cs out).given ≡ Done → ⊥) → ((after_query ws q k cs out).given ≡ Err ShortList → ⊥)
      → ((after_query ws q k cs out).counts ≡ zero_counts) × ((after_query ws q k cs out).candidates ≡ cs) × ((after_query ws q k cs out).answers ≡ out)
  -- but for 10: it gives n, leaves the candidate list as a success would, and the answer list as it was
  pub short : (ws : Words) (q : Site) (k : ℤ) (cs : List Candidate) (out : List ℕ) → (after_query ws q k cs out).given ≡ Err ShortList
      → ((after_query ws q k cs out).counts ≡ only_n (counts_of ws q (nat_of k)))
      × ((after_query ws q k cs out).candidates ≡ laid_over (records_found ws q (nat_of k)) cs)
      × ((after_query ws q k cs out).answers ≡ out)
  -- a refused card: no names, and the list as it was
  pub card_refused : (ws : Words) (n k : ℤ) (list : List ℕ) → ((after_card ws n k list).given ≡ Done → ⊥) → ((after_card ws n k list).given ≡ Err ShortList → ⊥)
      → ((after_card ws n k list).names ≡ 0) × ((after_card ws n k list).list ≡ list)
  -- but for 10: it gives the card's length, and leaves the list
  pub card_short : (ws : Words) (n k : ℤ) (list : List ℕ) → (after_card ws n k list).given ≡ Err ShortList
      → ((after_card ws n k list).names ≡ length (names_for (stations ws) (nat_of n) (nat_of k))) × ((after_card ws n k list).list ≡ list)

-- ---- demand 2: a granted query lists, rising, exactly the stations that have fewer than k others as near as the place or nearer (02 §2); its candidates and
-- its count of opened nodes are those of 01's filter walk, with the two tests that 02 §2 amends

pub record Granted (ws : Words) (q : Site) (k : ℕ) (cs : List Candidate) (out : List ℕ) (r : Queried) : Type 0 where
  -- the answers, by the meaning alone: no tree and no walk
  pub answers : r.answers ≡ laid_over (answer (stations ws) q k) out
  pub n : r.counts.n ≡ length (answer (stations ws) q k)
  -- the walk's candidates, as records in the order found, and the nodes that it opened
  pub candidates : r.candidates ≡ laid_over (map (record_of q) (found ws q k).candidates) cs
  pub m : r.counts.m ≡ length (found ws q k).candidates
  pub o : r.counts.o ≡ (found ws q k).opened

abbrev pub Demand2 : Type 0
Demand2 = (ws : Words) → All IsWord ws → (q : Site) (k : ℤ) (cs : List Candidate) (out : List ℕ)
    → (after_query ws q k cs out).given ≡ Done → Granted ws q (nat_of k) cs out (after_query ws q k cs out)

-- ---- 02 §1: a granted card lists the card of the station with that number, which is enrolled

pub record CardGranted (ws : Words) (n : ℤ) (k : ℕ) (old : List ℕ) (r : Listed) : Type 0 where
  pub enrolled : (p : Station) × Mem p (stations ws) × (p.number ≡ nat_of n)
  pub list : (p : Station) → Mem p (stations ws) → p.number ≡ nat_of n → r.list ≡ laid_over (names_of (stations ws) p k) old
  pub names : (p : Station) → Mem p (stations ws) → p.number ≡ nat_of n → r.names ≡ length (names_of (stations ws) p k)

abbrev pub GrantedCards : Type 0
GrantedCards = (ws : Words) → All IsWord ws → (n k : ℤ) (list : List ℕ) → (after_card ws n k list).given ≡ Done
    → CardGranted ws n (nat_of k) list (after_card ws n k list)

-- ---- demand 3: what the table is and holds after any calls

pub data Call : Type 0 where
  enrol : ℤ → Site → Call
  withdraw : ℤ → Call
  -- a check, a query or a card
  look : Call

abbrev pub table_after : Words → Call → Words
table_after ws (enrol n p) = after_enrol ws n p
table_after ws (withdraw n) = after_withdraw ws n
table_after ws look = ws

abbrev pub table_after_all : Words → List Call → Words
table_after_all ws [] = ws
table_after_all ws (c ∷ cs) = table_after_all (table_after ws c) cs

abbrev pub without : ℕ → List Station → List Station
without n ps = filter (λ p. not (eqb p.number n)) ps

-- the points that a call says, out of those before it
abbrev pub points_after : Words → Call → List Station → List Station
points_after ws (enrol n p) ps = if_done (enrol_gives ws n p) (record { number = nat_of n; site = p } ∷ ps) ps
points_after ws (withdraw n) ps = if_done (withdraw_gives ws n) (without (nat_of n) ps) ps
points_after ws look ps = ps

abbrev pub points_after_all : Words → List Call → List Station → List Station
points_after_all ws [] ps = ps
points_after_all ws (c ∷ cs) ps = points_after_all (table_after ws c) cs (points_after ws c ps)

pub record Demand3 (ws : Words) (calls : List Call) : Type 0 where
  pub sound : Passing (table_after_all ws calls)
  -- exactly the points that the start and the granted calls say
  pub points : Perm (stations (table_after_all ws calls)) (points_after_all ws calls (stations ws))
  -- at most 248 nodes on 6 levels
  pub nodes : count (λ s. not (is_free (table_after_all ws calls) s)) slots ≤ 248
  pub levels : (s : ℕ) → s < SLOTS → is_free (table_after_all ws calls) s ≡ false → level_at (table_after_all ws calls) s ≤ 5
  -- refused for room only at 500
  pub room : (n : ℤ) (p : Site) → enrol_gives (table_after_all ws calls) n p ≡ Err Full → length (stations (table_after_all ws calls)) ≡ MOST

abbrev pub AnyCalls : Type 0
AnyCalls = (ws : Words) → Passing ws → (calls : List Call) → Demand3 ws calls
