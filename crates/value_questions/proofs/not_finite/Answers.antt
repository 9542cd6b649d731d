use Rattle.fields.specs.Finite.{finite_at}
use Rattle.loops.proofs.Counting.{counting_none, counting_more}
use Rattle.value_questions.proofs.not_finite.Goals as goal

pub loop-k-init : goal.loop-k-init
loop-k-init c = counting_none _

pub loop-k-preserved : goal.loop-k-preserved
unfolding finite_at
loop-k-preserved c = counting_more _ c.loop-k.invariant c.not_finite_at-bad.ensures.1
