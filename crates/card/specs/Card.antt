-- 02 §1, "The card itself": the card of an enrolled station, that is its k nearest other holders by squared distance, equal distances by lower number;
-- fewer if fewer are enrolled. It speaks of the enrolled stations, and knows nothing of trees.
use Rattle.std.specs.Prelude.{ℕ, List, [], ◌∷◌, map, eqb, take}
use Rattle.grid.specs.Site.{distance²}
use Rattle.order.specs.Order.{sort_by}
use Rattle.order.specs.Lists.{filter}
use Rattle.table.specs.Stations.{Station}
use Rattle.filter.specs.Meaning.{is_other}

-- all others, by squared distance to p, equal distances by lower number: the second order keeps the first where distances are equal
unfoldable pub in_card_order : List Station → Station → List Station
in_card_order all p = sort_by (λ c. distance² c.site p.site) (sort_by (λ c. c.number) (filter (is_other p) all))

-- the card of p: the first k of all others in that order
unfoldable pub card_of : List Station → Station → ℕ → List Station
card_of all p k = take k (in_card_order all p)

-- the numbers that it names, in card order
unfoldable pub names_of : List Station → Station → ℕ → List ℕ
names_of all p k = map (λ c. c.number) (card_of all p k)

-- what the first of a list has on its card
abbrev pub names_of_first : List Station → ℕ → List Station → List ℕ
names_of_first all k [] = []
names_of_first all k (p ∷ ps) = names_of all p k

-- the names on the card of the station with a number: no two stations have the same, and who is not enrolled has no card
unfoldable pub names_for : List Station → ℕ → ℕ → List ℕ
names_for all n k = names_of_first all k (filter (λ p. eqb p.number n) all)
