-- A turn takes the next digit as 1 where the trial is at most what is kept, and as 0 where it is not; both choices of the code are this one test. What is
-- kept, its double and the trial fit. Assumes nothing.
use native.Mathlib.Omega.{arith}
use Rattle.whole_root.proofs.LaterDigits.{begun, one_digit, zero_digit, kept_fits, trial_fits, finished}
use Rattle.whole_root.proofs.later_digits.Goals as goal
use Rattle.whole_root.proofs.later_digits.Goals.{then-trial-twice_rest, else-trial-twice_rest, then-trial-twice_rest-2, else-trial-twice_rest-2}

pub loop-unit-init : goal.loop-unit-init
loop-unit-init c = begun c.args.first.root c.args.first.rest c.args.low c.requires

pub overflow_add-trial : goal.overflow_add-trial
overflow_add-trial c = omega (arith, trial_fits c.loop-unit.invariant)

pub overflow_mul-taken : goal.overflow_mul-taken
overflow_mul-taken c = omega (arith, trial_fits c.loop-unit.invariant)

pub overflow_add-twice_root : goal.overflow_add-twice_root
overflow_add-twice_root c = omega (arith, trial_fits c.loop-unit.invariant)

pub overflow_mul-twice_rest-in-loop-unit : goal.overflow_mul-twice_rest-in-loop-unit
overflow_mul-twice_rest-in-loop-unit c = omega (arith, kept_fits c.loop-unit.invariant)

pub loop-unit-preserved : goal.loop-unit-preserved
loop-unit-preserved c = elim c.if-trial-twice_rest.branch [
  | then-trial-twice_rest w ↦ elim c.if-trial-twice_rest-2.branch [
    | then-trial-twice_rest-2 v ↦ rw (w.taken-is, v.twice_root-is) (one_digit c.loop-unit.invariant (omega (arith, c.loop-unit-test.true)) w.if-trial-twice_rest.true)
    | else-trial-twice_rest-2 v ↦ absurd (omega (arith, w.if-trial-twice_rest.true, v.if-trial-twice_rest-2.false))
  ]
  | else-trial-twice_rest w ↦ elim c.if-trial-twice_rest-2.branch [
    | then-trial-twice_rest-2 v ↦ absurd (omega (arith, w.if-trial-twice_rest.false, v.if-trial-twice_rest-2.true))
    | else-trial-twice_rest-2 v ↦ rw (w.taken-is, v.twice_root-is) (zero_digit c.loop-unit.invariant (omega (arith, c.loop-unit-test.true)) w.if-trial-twice_rest.false)
  ]
]

pub returns : goal.returns
returns c = finished c.loop-unit.invariant c.loop-unit-test.false
