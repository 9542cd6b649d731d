-- `value_questions::below_zero` meets its contract: each R is finite, so that it may be compared, and a turn adds 1 for one that is below zero.
use Rattle.loops.proofs.Counting.{Counting}
use Rattle.job.specs.Format.{r_in}
use Rattle.job.specs.Questions.{not_below_zero}
use Rattle.value_questions.proofs.below_zero.Given as goal

abbrev pub invariant-loop-r : goal.invariant-loop-r
invariant-loop-r l = Counting (λ r. not_below_zero (r_in l.friction r)) l.r l.low
