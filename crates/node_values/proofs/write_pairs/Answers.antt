use mathlib.Core.Path.{◌≡◌, ap}
use mathlib.Core.List.{List}
use Prim.Native.Nat.{ℕ, ◌<◌}
use native.Mathlib.Omega.{arith}
use lib.ListN.{length}
use Rattle.loops.proofs.Fill.{fill_none, fill_step}
use Rattle.job.specs.Format.{node_in, node_table, node_count}
use Rattle.job.proofs.NodeLaws.{node_is}
use Rattle.pipe_layout.proofs.Acceptance.{pairs_accepted}
use Rattle.node_values.specs.Pairs.{pair_of}
use Rattle.node_values.proofs.write_pairs.Goals as goal

pub nodes-nodes-requires : goal.nodes-nodes-requires
nodes-nodes-requires c = pairs_accepted _ c.requires.accepted.0

pub loop-node-init : goal.loop-node-init
loop-node-init c = (fill_none _ _ _, fill_none _ _ _)

pub loop-node-preserved : goal.loop-node-preserved
unfolding node_in
loop-node-preserved c =
    let here : c.loop-node.node < node_count (node_table c.args.job.now) = omega (arith, ap (λ (l : List ℕ). length l) c.nodes-nodes.ensures) in
    let a = c.args in
    let pair = pair_of a.job.now a.values.now a.found.now c.loop-node.node in
    let stored : (c.pair_of-pair.result.speed ≡ pair.speed) × (c.pair_of-pair.result.inflow ≡ pair.inflow) =
    rw (node_is _ c.loop-node.node here, ← c.nodes-nodes.ensures) c.pair_of-pair.ensures in
    (fill_step _ _ _ c.loop-node.invariant.0 (omega arith) stored.0, fill_step _ _ _ c.loop-node.invariant.1 (omega arith) stored.1)
