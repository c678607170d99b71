-- What a query finds on a table that passes the check: no more candidates or answers than points, so that lists of 500 are never short; point numbers; 248 opened nodes at most; and the answers are those of the meaning. By the walk's theorems on trees, and the empty table. Assumes nothing.
use Prim.Native.Nat.{ℕ, ◌≤◌}
use native.Mathlib.Omega.{arith}
use mathlib.Core.Path.{◌≡◌, sym, ap, subst, ◌∙◌}
use mathlib.Core.Bool.{true}
use mathlib.Core.List.{List, [], map}
use lib.IntN.{ℤ}
use lib.ListN.{length, length-map}
use Rattle.words.specs.Word.{IsWord, nat_of}
use Rattle.grid.specs.declared.site.Site.{Site}
use Rattle.grid.proofs.Sites.{SiteOnGrid}
use Rattle.order.specs.Lists.{filter, All}
use Rattle.order.proofs.Lists.{length_filter, filter_mem, all_mem, mem_all, all_perm, all_then, all_map, count_most}
use Rattle.order.proofs.Order.{sort_perm, sort_length}
use Rattle.figures.specs.Figures.{MOST, HIGHEST}
use Rattle.table.specs.Words.{Words, points_of}
use Rattle.table.specs.Stations.{Station, stations, is_point, station_of_entry}
use Rattle.table.specs.Given.{Done, first_of, if_done}
use Rattle.table.specs.Empty.{empty_table}
use Rattle.rules.specs.Rules.{Passing}
use Rattle.rules.proofs.Size.{sound_bounds}
use Rattle.rules.proofs.Reading.{Point, point, held_points}
use Rattle.rules.proofs.WellFormed.{empty_is_empty}
use Rattle.record.specs.declared.Candidate.{Candidate}
use Rattle.filter.specs.Meaning.{answers_to, rising, answer}
use Rattle.filter.specs.Walk.{Found}
use Rattle.filter.specs.Query.{record_of, found, records_found, answers_found, laid_over}
use Rattle.filter.proofs.Answers.{answers_right, candidates_few, candidates_points, opened_few, found_empty, answers_empty, answer_empty}
use Rattle.filter.proofs.Meaning.{few_all_answer}
use Rattle.filter.proofs.RowLaws.{laid_length}
use Rattle.refusals.specs.Refusals.{numbers_of, query_gives}
use Rattle.refusals.specs.Cases.{if_short_list}
use Rattle.desk.specs.Calls.{after_query}
use Rattle.refusals.proofs.Given.{by_given}
use Rattle.desk.proofs.Granted.{Within, query_granted, query_short, query_lines, passing_query}
use Rattle.desk.proofs.Passing.{by_table, passing_points, passing_few}

-- what is to be known of the walk's findings
pub record Finds (ws : Words) (b : Found) : Type 0 where
  -- no more candidates than points
  pub few : length b.candidates ≤ points_of ws
  -- each a point
  pub points : All Point b.candidates
  -- no more nodes opened than a table has
  pub opened : b.opened ≤ 248

module _ (q : Site) (g : SiteOnGrid q) (k : ℕ) where
  pub passing_finds : {ws : Words} → Passing ws → Finds ws (found ws q k)
  passing_finds {ws} =
      by_table (λ us. Finds us (found us q k))
      (subst (Finds empty_table) (sym (found_empty empty_table empty_is_empty q k)) (record { few = omega arith; points = tt; opened = omega arith }))
      (λ us h. record {
        few = omega (arith, candidates_few us h.level h.tree h.holds h.sound q g k, held_points h.holds);
        points = all_then (λ e. is_point e ≡ true) Point point (found us q k).candidates (candidates_points us h.level h.tree h.holds h.sound q g k);
        opened = omega (arith, opened_few us h.level h.tree h.holds h.sound q g k, (sound_bounds h.level h.tree h.sound).1);
      })
      ws

  -- the answers are those of the meaning
  pub passing_answers : {ws : Words} → Passing ws → answers_found ws q k ≡ answer (stations ws) q k
  passing_answers {ws} =
      by_table (λ us. answers_found us q k ≡ answer (stations us) q k)
      (answers_empty empty_table empty_is_empty q k ∙ sym (answer_empty empty_table empty_is_empty q k))
      (λ us h. answers_right us h.level h.tree h.holds h.sound q g k)
      ws

  -- no more answers than points
  pub answers_few : {ws : Words} → Passing ws → length (answers_found ws q k) ≤ points_of ws
  unfolding answers_found rising
  answers_few {ws} p =
      let cs = map station_of_entry (found ws q k).candidates in
      let A = answers_to (stations ws) q k in
      omega (
        arith,
        sort_length (λ n. n) (map (λ (s : Station). s.number) (filter A cs)),
        length-map (filter A cs) (λ (s : Station). s.number),
        length_filter A cs,
        count_most A cs,
        length-map (found ws q k).candidates station_of_entry,
        (passing_finds p).few,
      )

  -- each a point number
  pub answers_numbers : {ws : Words} → Passing ws → All (Within 1 HIGHEST) (answers_found ws q k)
  unfolding answers_found rising
  answers_numbers {ws} p =
      let es = (found ws q k).candidates in
      let cs = map station_of_entry es in
      let A = answers_to (stations ws) q k in
      let W : Station → Type 0 = λ s. Within 1 HIGHEST s.number in
      let all : All W cs = all_map W station_of_entry es
      (all_mem (λ e. Within 1 HIGHEST e.reference) es
      (λ e m. let t = mem_all Point es (passing_finds p).points m in record { least = t.least; most = t.most })) in
      all_perm (Within 1 HIGHEST) (sort_perm (λ n. n) (map (λ (s : Station). s.number) (filter A cs)))
      (all_map (Within 1 HIGHEST) (λ (s : Station). s.number) (filter A cs)
      (all_mem W (filter A cs) (λ s m. mem_all W cs all (filter_mem A cs m).0)))

-- lists of 500 are never short
pub lists_enough : {ws : Words} → Passing ws → (q : Site) (k : ℤ) (room places : ℕ) → MOST ≤ room → MOST ≤ places
    → query_gives ws q k room places ≡ first_of (query_lines q k [])
lists_enough p q k room places a b =
    passing_query p q k room places (omega (arith, passing_few p)) (λ g. omega (arith, passing_few p, answers_few q g (nat_of k) p))

-- ---- a granted query

module _ (ws : Words) (words : All IsWord ws) (q : Site) (k : ℤ) (room places : ℕ) (done : query_gives ws q k room places ≡ Done) where
  granted_passing : Passing ws
  granted_passing =
      let g = (query_granted ws q k room places done).0 in
      record { long = g.long; words = words; rules = g.rules }

  -- the numbers of all points that answer, rising
  pub granted_answers : answers_found ws q (nat_of k) ≡ answer (stations ws) q (nat_of k)
  granted_answers = passing_answers q (query_granted ws q k room places done).0.grid (nat_of k) granted_passing

  -- with k or fewer points enrolled, all of them
  pub few_found : points_of ws ≤ nat_of k → answers_found ws q (nat_of k) ≡ rising (numbers_of ws)
  few_found few = granted_answers ∙ few_all_answer (stations ws) q (nat_of k) (omega (arith, passing_points granted_passing))

-- ---- the two lists after a query

-- both are as long as before
pub query_lengths : {ws : Words} → Passing ws → (q : Site) (k : ℤ) (cs : List Candidate) (out : List ℕ)
    → (length (after_query ws q k cs out).candidates ≡ length cs) × (length (after_query ws q k cs out).answers ≡ length out)
unfolding after_query
query_lengths {ws} p q k cs out =
    let room = length cs in
    let places = length out in
    let g = query_gives ws q k room places in
    let new = records_found ws q (nat_of k) in
    let records = laid_over new cs in
    let answers = laid_over (answers_found ws q (nat_of k)) out in
    let fits : SiteOnGrid q → points_of ws ≤ room → length records ≡ room = λ grid enough.
    laid_length new cs (omega (arith, length-map (found ws q (nat_of k)).candidates (record_of q), (passing_finds q grid (nat_of k) p).few)) in
    by_given g
    (λ e.
    let h = query_granted ws q k room places e in (
      ap (λ d. length (if_done d records (if_short_list d records cs))) e ∙ fits h.0.grid h.0.candidates,
      ap (λ d. length (if_done d answers out)) e ∙ laid_length (answers_found ws q (nat_of k)) out h.1,
    ))
    (λ e.
    let h = query_short ws q k room places e in (
      ap (λ d. length (if_done d records (if_short_list d records cs))) e ∙ fits h.0.grid h.0.candidates,
      ap (λ d. length (if_done d answers out)) e,
    ))
    (λ r. (
      ap length (r.done records (if_short_list g records cs) ∙ r.few records cs),
      ap length (r.done answers out),
    ))
