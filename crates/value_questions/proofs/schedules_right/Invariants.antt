-- `value_questions::schedules_right` meets its contract: a turn asks question 15 of one node's entries and stops at the first no. The place carried is the sum
-- of the counts before the node, which only grows, so a schedule that ends past the table tells that the table is too short; past the last node the place is
-- the number of all entries.
use mathlib.Core.Path.{◌≡◌}
use mathlib.Core.Bool.{true}
use Rattle.loops.specs.Loops.{all_below}
use Rattle.job.specs.Questions.{schedule_fits}
use Rattle.job.proofs.Places.{SumBefore}
use Rattle.value_questions.proofs.schedules_right.Given as goal

abbrev pub invariant-loop-node : goal.invariant-loop-node
invariant-loop-node l = SumBefore l.nodes l.counts l.node l.place × all_below (schedule_fits l.nodes l.counts l.schedules) l.node ≡ true
