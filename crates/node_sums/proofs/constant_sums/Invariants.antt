-- `node_sums::constant_sums` meets its contract: after p pipes the row has T over the first p laid pipes, and +0 for B.
use mathlib.Core.Path.{◌≡◌}
use lib.ListN.{take}
use Rattle.job.specs.Job.{laid}
use Rattle.job.specs.Format.{job_of}
use Rattle.pipe_layout.specs.EachPipe.{Along}
use Rattle.node_sums.proofs.NodeSums.{summed, only_t}
use Rattle.node_sums.proofs.constant_sums.Given as goal

abbrev pub invariant-loop-l : goal.invariant-loop-l
invariant-loop-l v =
    Along v.job v.l-iterator.job.now v.l-iterator.count × (v.sums ≡ summed only_t (λ l. l.pipe.S) (λ l. l.pipe.S) (take v.l-iterator.at.pipe (laid (job_of v.job))))
