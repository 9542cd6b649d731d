use native.Mathlib.Omega.{arith}
use lib.Ieee.Scale.{finite}
use Rattle.fields.specs.Finite.{finite_at}
use Rattle.loops.proofs.All.{all_at}
use Rattle.loops.proofs.Counting.{counted_unless, counting_none, counting_more}
use Rattle.job.specs.Format.{r_in}
use Rattle.value_questions.proofs.below_zero.Goals as goal

pub loop-r-init : goal.loop-r-init
loop-r-init c = counting_none _

pub f64_at-requires : goal.f64_at-requires
unfolding finite_at
f64_at-requires c = (omega arith, all_at (λ r. finite (r_in c.args.friction.now r)) c.loop-r.r _ c.requires (omega arith))

pub loop-r-preserved : goal.loop-r-preserved
loop-r-preserved c = counting_more _ c.loop-r.invariant (rw (← c.f64_at.ensures) (counted_unless _ c.from-low.ensures).1)
