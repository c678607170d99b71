-- `slip::Slip::decimal` meets its contract. The loop's invariant: the digits of the rest, laid in front of those that stand, give the whole number; the slip's place and its buffer stay the same. Assumes nothing.
use Prim.Native.Nat.{ℕ, suc, ◌-◌}
use mathlib.Core.Path.{◌≡◌, refl, sym, ap, ◌∙◌}
use native.Mathlib.Omega.{arith}
use lib.ListN.{length-set}
use Rattle.slip.specs.Output.{laid_at}
use Rattle.slip.proofs.Laid.{laid_none}
use Rattle.slip.proofs.Decimal.{digits_in, digits_laid, decimal_digits, decimal_most}
use Rattle.slip.proofs.Slip.decimal.Goals as goal

pub loop-i-init : goal.loop-i-init
loop-i-init c =
    let before = c.args.self.now in
    (rw c.digit_count-count.ensures (ap (laid_at before.out.now before.at) (sym (decimal_digits c.args.n))), refl, refl, refl)

pub overflow_add-self-in-loop-i : goal.overflow_add-self-in-loop-i
overflow_add-self-in-loop-i c = omega (arith, decimal_most c.args.n)

pub bounds-self-self : goal.bounds-self-self
bounds-self-self c = omega (arith, decimal_most c.args.n)

pub loop-i-preserved : goal.loop-i-preserved
loop-i-preserved c =
    let l = c.loop-i in
    let out = l.self.out.now in
    let at = c.args.self.now.at in
    let more : suc (l.i - 1) ≡ l.i = omega arith in
    let place : l.self.at ≡ at = l.invariant.2 in
    let digits =
    digits_laid out at (l.i - 1) l.rest (omega (arith, decimal_most c.args.n))
    ∙ ap (λ (k : ℕ). laid_at out at (digits_in k l.rest)) more
    ∙ l.invariant.0 in (
      rw place digits,
      simp length-set l.invariant.1,
      l.invariant.2,
      l.invariant.3,
    )

pub overflow_add-self-2 : goal.overflow_add-self-2
overflow_add-self-2 c = omega (arith, decimal_most c.args.n)

pub returns-clause-laid : goal.returns-clause-laid
returns-clause-laid c =
    let l = c.loop-i in
    let before = c.args.self.now in
    let none : 0 ≡ l.i = omega arith in
    record {
      laid = sym (laid_none l.self.out.now before.at) ∙ ap (λ (k : ℕ). laid_at l.self.out.now before.at (digits_in k l.rest)) none ∙ l.invariant.0;
      behind = omega (arith, l.invariant.2, c.digit_count-count.ensures);
    }
