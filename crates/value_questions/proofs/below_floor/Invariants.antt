-- `value_questions::below_floor` meets its contract: each section is finite, so that its head may be compared, and a turn adds 1 for a head below its floor.
use Rattle.loops.proofs.Counting.{Counting}
use Rattle.job.specs.Format.{section_in}
use Rattle.job.specs.QuestionParts.{not_below_floor}
use Rattle.value_questions.proofs.below_floor.Given as goal

abbrev pub invariant-loop-s : goal.invariant-loop-s
invariant-loop-s l = Counting (λ s. not_below_floor (section_in l.fn.initial s)) l.s l.low
