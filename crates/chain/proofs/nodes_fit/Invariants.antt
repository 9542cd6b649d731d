-- The place carried is the sum of the counts before the node, and the nodes before it have passed.
use Rattle.std.proofs.Common.{◌≡◌, true}
use Rattle.loops.specs.Loops.{all_below}
use Rattle.job.specs.Format.{node_in}
use Rattle.job.proofs.Places.{SumBefore}
use Rattle.chain.specs.Chain.{node_fits}
use Rattle.chain.proofs.nodes_fit.Given as goal

abbrev pub invariant-loop-node : goal.invariant-loop-node
invariant-loop-node l =
    SumBefore l.nodes l.counts l.node l.place
    × (all_below (λ i. node_fits l.last i (node_in l.nodes l.counts l.schedules i)) l.node ≡ true)
