use mathlib.Core.Path.{ap}
use mathlib.Core.List.{List}
use Prim.Native.Nat.{ℕ}
use native.Mathlib.Omega.{arith}
use lib.ListN.{length}
use Rattle.loops.proofs.Fill.{fill_none, fill_step}
use Rattle.job.proofs.Places.{sum_before_none, sum_before_more}
use Rattle.job.proofs.NodeLaws.{count_least, entries_within, entries_finite, scheduled_is}
use Rattle.job.proofs.Accepted.{nodes_right}
use Rattle.pipe_layout.proofs.Acceptance.{pairs_accepted, few_nodes}
use Rattle.node_sums.proofs.OverNodes.{over_filled}
use Rattle.node_values.proofs.scheduled_at.Goals as goal

pub nodes-nodes-requires : goal.nodes-nodes-requires
nodes-nodes-requires c = pairs_accepted _ c.requires.0

pub schedules-schedules-requires : goal.schedules-schedules-requires
schedules-schedules-requires c = pairs_accepted _ c.requires.0

pub counts-counts-requires : goal.counts-counts-requires
counts-counts-requires c = pairs_accepted _ c.requires.0

pub loop-node-init : goal.loop-node-init
loop-node-init c = (sum_before_none _ _, fill_none _ _ _)

-- It stands before the needs of the turn's calls, so that of a wrong sum the prover tells this first.
pub loop-node-preserved : goal.loop-node-preserved
loop-node-preserved c =
    let inv = c.loop-node.invariant in
    let count = c.schedule_count-count.ensures in (
      sum_before_more _ _ inv.0 count.0 count.1,
      fill_step _ _ _ inv.1 (omega arith)
          (scheduled_is _ _ _ c.nodes-nodes.ensures c.counts-counts.ensures c.schedules-schedules.ensures c.loop-node-test.true inv.0.sum count.0 c.value_at.ensures),
    )

pub schedule_count-count-requires : goal.schedule_count-count-requires
schedule_count-count-requires c =
    (c.loop-node-test.true, (nodes_right _ c.nodes-nodes.ensures c.counts-counts.ensures c.schedules-schedules.ensures c.requires.0).counted)

pub value_at-requires : goal.value_at-requires
value_at-requires c =
    let known = nodes_right _ c.nodes-nodes.ensures c.counts-counts.ensures c.schedules-schedules.ensures c.requires.0 in
    let here = c.loop-node-test.true in
    let sum = c.loop-node.invariant.0.sum in
    let count = c.schedule_count-count.ensures.0 in (
      rw count (count_least _ _ known.kinds known.counted _ here),
      c.requires.1,
      entries_within _ _ _ known.entries here sum count,
      entries_finite _ _ _ known.entries here sum count,
    )

pub overflow_add-place : goal.overflow_add-place
overflow_add-place c =
    omega (arith, few_nodes _ c.requires.0, ap length c.nodes-nodes.ensures, c.loop-node.invariant.0.small, c.schedule_count-count.ensures.1)

pub returns : goal.returns
returns c =
    let table = ap (λ (l : List ℕ). length l) c.nodes-nodes.ensures in
    over_filled _ _ c.args.values.now c.loop-node.invariant.1 (omega arith) (omega arith)
