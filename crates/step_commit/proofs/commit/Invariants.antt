-- `step_commit::commit` meets its contract: the four rows are overwritten up to the first section of the pipe at hand, and so from there on heads and
-- flows are as they were.
use Prim.Native.Nat.{ℕ}
use Rattle.wave.specs.declared.Node.{Node}
use Rattle.section.proofs.RowLaws.{SteppedTo}
use Rattle.pipe_layout.specs.EachPipe.{Along}
use Rattle.node_sums.specs.FromRows.{new_section}
use Rattle.spare_ends.specs.Spare.{EndsIn}
use Rattle.step_commit.proofs.commit.Given as goal

abbrev pub invariant-loop-l : goal.invariant-loop-l
invariant-loop-l v =
    Along v.job v.l-iterator.job.now v.l-iterator.count
    × ((nodes : ℕ → Node) → EndsIn v.job nodes v.fn.heads v.fn.flows v.spare
    → SteppedTo (new_section v.job nodes v.fn.heads v.fn.flows) 0 v.l-iterator.at.section v.fn.heads v.fn.flows v.fn.highest v.fn.lowest v.heads v.flows v.highest v.lowest)
