-- `step_check::first_fault`: the pipes before this one have shown no fault.
use Rattle.std.proofs.Common.{◌≡◌, ℕ}
use Rattle.wave.specs.declared.Node.{Node}
use Rattle.loops.specs.Loops.{first_below}
use Rattle.job.specs.Format.{initial_table}
use Rattle.recurrence.specs.Scan.{none, earlier}
use Rattle.section.specs.Faults.{fault_at}
use Rattle.pipe_layout.specs.EachPipe.{Along}
use Rattle.node_sums.specs.FromRows.{new_section}
use Rattle.spare_ends.specs.Spare.{EndsIn}
use Rattle.step_check.proofs.first_fault.Given as goal

abbrev pub invariant-loop-l : goal.invariant-loop-l
invariant-loop-l v =
    Along v.job v.l-iterator.job.now v.l-iterator.count
    × ((nodes : ℕ → Node) → EndsIn v.job nodes v.heads v.flows v.spare
    → first_below earlier none (fault_at (initial_table v.job) (new_section v.job nodes v.heads v.flows)) v.l-iterator.at.section ≡ none)
