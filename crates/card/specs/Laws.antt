-- What a reader wants of a card, whatever the list of stations is.
use Rattle.std.specs.Prelude.{ℕ, ◌<◌, min, ◌≡◌, ◌⊎◌, true, List, ◌∷◌, map, length}
use Rattle.grid.specs.Site.{distance²}
use Rattle.order.specs.Lists.{count, Mem, NoDup, All}
use Rattle.order.specs.Order.{Perm}
use Rattle.table.specs.Stations.{Station}
use Rattle.filter.specs.Meaning.{is_other}
use Rattle.card.specs.Card.{card_of, names_of}

-- d comes before c on the card of p: it is nearer, or as near with a lower number
abbrev pub Before : Station → Station → Station → Type 0
Before p d c =
    (distance² d.site p.site < distance² c.site p.site)
    ⊎ ((distance² d.site p.site ≡ distance² c.site p.site) × (d.number < c.number))

pub record CardLaws (all : List Station) (p : Station) (k : ℕ) : Type 0 where
  -- its length is the lesser of k and the others
  pub long : length (card_of all p k) ≡ min k (count (is_other p) all)
  -- it names enrolled stations, and never its own
  pub enrolled : (c : Station) → Mem c (card_of all p k) → Mem c all
  pub not_itself : Mem p.number (names_of all p k) → ⊥
  -- no name twice, as no number is enrolled twice
  pub none_twice : NoDup (map (λ c. c.number) all) → NoDup (names_of all p k)
  -- whoever is not named is no nearer than any name, so not than the last; at an equal distance it has a higher number
  pub others : (c : Station) → Mem c all → is_other p c ≡ true → (Mem c.number (names_of all p k) → ⊥)
      → (d : Station) → Mem d (card_of all p k) → Before p d c

abbrev pub AnyCard : Type 0
AnyCard = (all : List Station) (p : Station) (k : ℕ) → CardLaws all p k

-- 02 §2: a newcomer joins those enrolled, with a number above every one of theirs; no number stands twice
pub record Newcomer (all more : List Station) (new : Station) : Type 0 where
  pub joined : Perm more (new ∷ all)
  pub once : NoDup (map (λ c. c.number) more)
  pub above : All (λ c. c.number < new.number) all
