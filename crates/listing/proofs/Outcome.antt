-- The records made of the rows that a query leaves are those of the candidates that it found. Assumes nothing.
use Prim.Native.Nat.{ℕ, ◌≤◌}
use native.Mathlib.Omega.{arith}
use mathlib.Core.Path.{◌≡◌, sym, ap, ◌∙◌}
use mathlib.Core.List.{List, map, map-map}
use Rattle.grid.specs.declared.site.Site.{Site}
use Rattle.grid.specs.Site.{place_of}
use Rattle.grid.proofs.Sites.{SiteOnGrid, place_grid}
use Rattle.order.specs.Order.{up_from}
use Rattle.table.specs.Words.{Words, points_of}
use Rattle.rules.specs.Rules.{Passing}
use Rattle.filter.specs.Query.{found, record_of, records_found, laid_over}
use Rattle.filter.specs.Rows.{entry_in, listed, laid_in, Kept}
use Rattle.filter.proofs.RowLaws.{kept_standing}
use Rattle.record.specs.declared.Candidate.{Candidate}
use Rattle.asking.specs.declared.answer.Reply.{Reply}
use Rattle.asking.specs.Slate.{Slate, Wide, slate_after}
use Rattle.asking.specs.Asked.{Replied}
use Rattle.asking.proofs.Outcome.{few, rows_back, rows_hold}
use Rattle.listing.specs.Records.{candidates_in, Readable}
use Rattle.listing.specs.Listed.{Listed}

module _ {ws : Words} (t : Passing ws) (q : Site) (g : SiteOnGrid q) (k : ℕ) {before after : Slate} {old new : List ℕ} {r : Reply} (wide : Wide (points_of ws) before) (a : Replied ws q k before after old new r) where
  abbrev made : List Candidate
  made = candidates_in q after.noted.numbers after.noted.xs after.noted.ys r.m

  noted_after : after.noted ≡ laid_in (place_of q) (found ws q k).candidates before.noted
  unfolding slate_after
  noted_after = ap (λ (s : Slate). s.noted) a.slate

  made_are : made ≡ records_found ws q k
  unfolding candidates_in listed
  made_are =
      sym (map-map (record_of q) (entry_in (place_of q) after.noted) (up_from 0 r.m))
      ∙ ap (map (record_of q)) (ap (listed (place_of q) after.noted) a.m ∙ rows_back t q g k wide.noted noted_after)

  pub readable : Readable q after.noted.numbers after.noted.xs after.noted.ys r.m
  readable =
      let h : Kept (place_of q) after.noted r.m = rw a.m (rows_hold t q g k wide.noted noted_after) in
      let st = kept_standing (place_grid g) h in
      record { place = place_grid g; room_number = h.room.numbers; room_x = st.room_x; room_y = st.room_y; grid = st.grid }

  pub listed_few : r.m ≤ points_of ws
  listed_few = omega (arith, a.m, few t q g k)

  pub lists : (list list' : List Candidate) → list' ≡ laid_over made list → Listed ws q k list list' old new r
  lists list list' e = record {
    n = a.n;
    m = a.m;
    o = a.o;
    candidates = e ∙ ap (λ (l : List Candidate). laid_over l list) made_are;
    answers = a.answers;
  }
