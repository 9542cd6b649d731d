-- Question 23 asks that the argument is finite and not below zero, which are the code's two tests; past both, the answer is the root, which is the
-- nearest f64 since an argument fits 64 bits. Assumes nothing.
use mathlib.Core.Path.{◌≡◌, sym, ◌∙◌}
use mathlib.Core.Bool.{true}
use lib.Ieee.{Float, lt}
use lib.Ieee.Scale.{finite}
use Rattle.fields.specs.Real.{zero64}
use Rattle.root.specs.Root.{rootable}
use Rattle.root.specs.Answer.{refused, root_answer}
use Rattle.root.proofs.AnswerLaws.{answer_is_root}
use Rattle.root.proofs.root.Goals as goal
use Rattle.root.proofs.root.Goals.{then-not-is_finite-via-then-not-is_finite, then-not-is_finite-via-else-not-is_finite+then-x}

-- the second half of question 23's no
below_zero : (x : Float) → finite x ≡ true → lt x zero64 ≡ true → refused 23 ≡ root_answer x
unfolding root_answer rootable
below_zero x f l = rw (f, l)

pub returns-then-not-is_finite-clause-result_value : goal.returns-then-not-is_finite-clause-result_value
unfolding root_answer rootable
returns-then-not-is_finite-clause-result_value c = elim c.then-not-is_finite.branch [
  | then-not-is_finite-via-then-not-is_finite w ↦ rw (sym c.is_finite.ensures ∙ w.if-not-is_finite.true)
  | then-not-is_finite-via-else-not-is_finite+then-x w ↦ below_zero c.args.x (sym c.is_finite.ensures ∙ w.if-not-is_finite.false) w.if-x.true
]

pub returns-clause-result_value : goal.returns-clause-result_value
unfolding root_answer rootable
returns-clause-result_value c = rw (c.root_of.ensures, sym c.is_finite.ensures ∙ c.if-not-is_finite.false, c.if-x.false)

pub returns-clause-root : goal.returns-clause-root
returns-clause-root c v is = answer_is_root c.args.x v (rw c.well_formed.0.1 tt) (sym is ∙ returns-clause-result_value c)
