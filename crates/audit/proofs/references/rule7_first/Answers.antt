-- `references::rule7_first` meets its contract. Assumes nothing.
use native.Mathlib.Omega.{arith}
use mathlib.Core.Path.{◌≡◌, subst}
use Rattle.std.proofs.Common.{rules}
use borrow.Author.Tests.{tests}
use Rattle.order.specs.Lists.{join}
use Rattle.order.specs.Order.{up_from}
use Rattle.audit.specs.Seen.{Tally}
use Rattle.figures.specs.Figures.{SLOTS}
use Rattle.rules.specs.Rules.{refs_at, rule5, rule7}
use Rattle.rules.proofs.Counted.{every_below}
use Rattle.audit.proofs.Every.{lowest_of}
use Rattle.audit.proofs.Tallied.{none_tallied}
use Rattle.audit.proofs.references.rule7_first.Goals as goal

pub loop-slot-init : goal.loop-slot-init
loop-slot-init c = none_tallied

pub count_at-requires : goal.count_at-requires
count_at-requires c =
    record {
      children = (omega arith, every_below (rule5 c.args.table.now) SLOTS c.requires c.loop-slot.slot (omega arith));
      so_far = c.loop-slot.invariant;
    }

pub first_broken-requires : goal.first_broken-requires
first_broken-requires c =
    let e : c.loop-slot.slot ≡ SLOTS = omega arith in
    let all = subst (λ n. Tally c.loop-slot.times (join (refs_at c.args.table.now) (up_from 0 n))) e c.loop-slot.invariant in
    λ slot h _ _ _ _ _. (h, all)

pub returns : goal.returns
returns c = lowest_of (rule7 c.args.table.now) (λ k b h a. search (rules, tests)) c.first_broken.ensures
