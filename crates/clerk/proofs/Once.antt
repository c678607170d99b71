-- Any two outcomes that a promise permits are equal: each is what is said. Assumes nothing.
use mathlib.Core.Path.{◌≡◌, sym, ◌∙◌}
use Rattle.clerk.specs.declared.run.Run.{Run}
use Rattle.clerk.specs.Running.{OneOutcome}

run_ext : {r s : Run} → r.at ≡ s.at → r.number ≡ s.number → r.filled ≡ s.filled → r ≡ s
run_ext a n f = λ i. record { at = a i; number = n i; filled = f i }

pub one_outcome : OneOutcome
one_outcome = record {
  line = λ number line before after after' out at left left' next next' s t t' p u q v. (
    p.state ∙ sym q.state,
    p.laid.laid ∙ sym q.laid.laid,
    p.laid.behind ∙ sym q.laid.behind,
    u ∙ sym v,
  );
  lines = λ sheet at number before after after' out left left' r r' p q.
      let a = p.exact in
      let b = q.exact in (
        a.state ∙ sym b.state,
        a.laid ∙ sym b.laid,
        run_ext (a.at ∙ sym b.at) (a.number ∙ sym b.number) (a.filled ∙ sym b.filled),
      );
}
