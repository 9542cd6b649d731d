-- `value_questions::out_of_range` meets its contract: each entry is finite, so that it may be compared, and a turn adds 1 for one below 0 or above 1.
use Prim.Native.Nat.{◌+◌}
use Rattle.loops.proofs.Counting.{Counting}
use Rattle.job.specs.Format.{entry_in}
use Rattle.job.specs.QuestionParts.{from0_to1}
use Rattle.value_questions.proofs.out_of_range.Given as goal

abbrev pub invariant-loop-i : goal.invariant-loop-i
invariant-loop-i l = Counting (λ i. from0_to1 (entry_in l.schedules (l.place + i))) l.i l.out
