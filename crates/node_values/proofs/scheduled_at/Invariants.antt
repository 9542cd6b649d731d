-- `node_values::scheduled_at` meets its contract: the row is filled up to a node, and the place carried there is the sum of the counts before it, so that the
-- entries read are the node's own.
use mathlib.Core.Path.{◌≡◌}
use Rattle.loops.specs.Fill.{fill}
use Rattle.job.specs.Job.{scheduled}
use Rattle.job.specs.Format.{job_of}
use Rattle.job.proofs.Places.{SumBefore}
use Rattle.node_values.proofs.scheduled_at.Given as goal

abbrev pub invariant-loop-node : goal.invariant-loop-node
invariant-loop-node l = SumBefore l.nodes l.counts l.node l.place × l.values ≡ fill (scheduled (job_of l.job) l.step) l.initial.values 0 l.node
