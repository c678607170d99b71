-- 01, "The query's meaning", as 02 §2 amends it: it speaks of the enrolled stations, and knows nothing of trees.
use Rattle.std.specs.Prelude.{ℕ, Bool, not, ◌&&◌, List, map, eqb, ltb}
use Rattle.grid.specs.declared.site.Site.{Site}
use Rattle.grid.specs.Site.{distance²}
use Rattle.grid.specs.AsNear.{as_near}
use Rattle.order.specs.Order.{sort_by}
use Rattle.order.specs.Lists.{count, filter}
use Rattle.table.specs.Stations.{Station}

-- "other" means another point number
abbrev pub is_other : Station → Station → Bool
is_other p c = not (eqb c.number p.number)

-- c is another point, and as near to p as the place q is, or nearer
unfoldable pub as_near_other : Site → Station → Station → Bool
as_near_other q p c = is_other p c && as_near (distance² c.site p.site) (distance² q p.site)

-- p answers the query (q, k): fewer than k other points are as near to p as q is, or nearer
unfoldable pub answers_to : List Station → Site → ℕ → Station → Bool
answers_to all q k p = ltb (count (as_near_other q p) all) k

-- numbers in rising order
unfoldable pub rising : List ℕ → List ℕ
rising ns = sort_by (λ n. n) ns

-- the answer: the numbers of all points that answer, rising
unfoldable pub answer : List Station → Site → ℕ → List ℕ
answer all q k = rising (map (λ p. p.number) (filter (answers_to all q k) all))
