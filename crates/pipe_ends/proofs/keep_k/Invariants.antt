-- `pipe_ends::keep_k` meets its contract: after p pipes the row has B over the first p laid pipes, and T, the spare has K of their ends and is
-- as it was from pipe p on.
use mathlib.Core.Path.{◌≡◌}
use Prim.Native.Nat.{◌*◌}
use lib.ListN.{take, drop}
use Rattle.job.specs.Job.{laid}
use Rattle.job.specs.Format.{job_of}
use Rattle.recurrence.specs.Step.{k_at_start, k_at_finish}
use Rattle.pipe_layout.specs.EachPipe.{Along}
use Rattle.node_sums.specs.FromRows.{along_rows}
use Rattle.node_sums.proofs.NodeSums.{summed, with_t}
use Rattle.spare_ends.specs.Spare.{KTo}
use Rattle.pipe_ends.proofs.keep_k.Given as goal

abbrev pub invariant-loop-l : goal.invariant-loop-l
invariant-loop-l v =
    let rows = along_rows v.job v.heads v.flows in
    let p = v.l-iterator.at.pipe in
    Along v.job v.l-iterator.job.now v.l-iterator.count
    × (v.sums ≡ summed (with_t v.job) (k_at_start rows) (k_at_finish rows) (take p (laid (job_of v.job))))
    × (KTo v.job v.heads v.flows v.spare p) × (drop (p * 4) v.spare ≡ drop (p * 4) v.fn.spare)
