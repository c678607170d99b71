-- A newcomer with the highest number is named exactly on the cards of the stations that answer the query at its place: by what an enrolment keeps, and the law of the card. Assumes nothing.
use Prim.Native.Nat.{◌<◌}
use native.Mathlib.Omega.{arith}
use mathlib.Core.Path.{◌≡◌, refl}
use mathlib.Core.Bool.{false}
use mathlib.Core.List.Memᴰ
use mathlib.Core.List.{◌∷◌}
use lib.IntN.{ℤ}
use Rattle.words.specs.Word.{nat_of}
use Rattle.grid.specs.declared.site.Site.{Site}
use Rattle.order.proofs.Lists.{by_bool, mem_all, has_mem}
use Rattle.table.specs.Given.{Done}
use Rattle.table.specs.Words.{Words}
use Rattle.table.specs.Stations.{stations}
use Rattle.rules.specs.Rules.{Passing}
use Rattle.card.specs.Laws.{Newcomer}
use Rattle.card.proofs.Newcomer.{named_answers, answers_named}
use Rattle.refusals.specs.Refusals.{numbers_of, is_enrolled, enrol_gives}
use Rattle.refusals.proofs.CallOrder.{enrol_0}
use Rattle.desk.specs.Calls.{after_enrol}
use Rattle.desk.specs.Newcomer.{CanJoin, NewcomerNamed}
use Rattle.desk.proofs.Passing.{passing_once}
use Rattle.desk.proofs.Kept.{Kept, station_at, enrol_kept}

module _ (ws : Words) (pass : Passing ws) (n : ℤ) (q : Site) (can : CanJoin ws n q) where
  -- a number above every enrolled one is not enrolled
  is_new : is_enrolled ws n ≡ false
  is_new =
      by_bool (λ b. is_enrolled ws n ≡ b → b ≡ false) (is_enrolled ws n)
      (λ t e.
      let p = Memᴰ.of_map (λ p. p.number) (stations ws) (has_mem (nat_of n) (numbers_of ws) e) in
      absurd (omega (arith, mem_all (λ p. p.number < nat_of n) (stations ws) can.above p.1, p.2)))
      (λ t e. refl) refl

  granted : enrol_gives ws n q ≡ Done
  granted = enrol_0 ws pass.long pass.rules n q can.number can.grid is_new can.room

  after : Kept (after_enrol ws n q) (station_at n q ∷ stations ws)
  unfolding after_enrol
  after = rw granted (enrol_kept pass n q granted)

  joins : Newcomer (stations ws) (stations (after_enrol ws n q)) (station_at n q)
  joins = record { joined = after.points; once = passing_once after.passing; above = can.above }

pub newcomer_named : NewcomerNamed
newcomer_named ws pass n q can p m k = record {
  granted = granted ws pass n q can;
  named = answers_named (stations ws) (stations (after_enrol ws n q)) (station_at n q) p (joins ws pass n q can) m k;
  answers = named_answers (stations ws) (stations (after_enrol ws n q)) (station_at n q) p (joins ws pass n q can) m k;
}
