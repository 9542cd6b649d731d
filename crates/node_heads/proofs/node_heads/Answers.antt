use mathlib.Core.Path.{◌≡◌, ap, sym, ◌∙◌}
use mathlib.Core.List.{List}
use Prim.Native.Nat.{ℕ, ◌<◌}
use native.Mathlib.Omega.{arith}
use lib.ListN.{length}
use Rattle.loops.proofs.Fill.{fill_none, fill_step}
use Rattle.wave.specs.declared.Node.{Node}
use Rattle.wave.specs.Nodes.{node_head, node_inflow}
use Rattle.job.specs.Job.{ScheduledNode, with_value}
use Rattle.job.specs.Format.{job_of, kind_in, node_in, node_table, node_count}
use Rattle.job.proofs.NodeLaws.{node_is}
use Rattle.job.proofs.Accepted.{tables_right}
use Rattle.recurrence.specs.Step.{nodes_with}
use Rattle.pipe_layout.proofs.Acceptance.{pairs_accepted, few_nodes}
use Rattle.node_sums.specs.FromRows.{for_ends, value_in, sums_in}
use Rattle.node_sums.proofs.OverNodes.{over_filled}
use Rattle.node_heads.proofs.node_heads.Goals as goal

pub nodes-nodes-requires : goal.nodes-nodes-requires
nodes-nodes-requires c = pairs_accepted _ c.requires.0

pub loop-node-init : goal.loop-node-init
loop-node-init c = (omega (arith, few_nodes _ c.requires.0, ap (λ (l : List ℕ). length l) c.nodes-nodes.ensures), fill_none _ _ _, fill_none _ _ _)

pub node_with-with_value-requires : goal.node_with-with_value-requires
node_with-with_value-requires c = (rw c.nodes-nodes.ensures (tables_right _ c.requires.0).nodes.figures, c.loop-node-test.true)

-- the node read is the recurrence's, and what is stored for it is its own head and inflow
pub loop-node-preserved : goal.loop-node-preserved
unfolding nodes_with node_in
loop-node-preserved c =
    let a = c.args in
    let node = c.loop-node.node in
    let v = value_in a.values.now node in
    let here : node < node_count (node_table a.job.now) = omega (arith, ap (λ (l : List ℕ). length l) c.nodes-nodes.ensures) in
    let is : c.node_with-with_value.result ≡ with_value (kind_in c.nodes-nodes.result.now node) v = c.node_with-with_value.ensures in
    let own : c.node_with-with_value.result ≡ nodes_with (job_of a.job.now) (value_in a.values.now) node =
    is
    ∙ ap (λ (nodes : List ℕ). with_value (kind_in nodes node) v) c.nodes-nodes.ensures
    ∙ sym (ap (λ (z : ScheduledNode). with_value z.kind v) (node_is _ node here)) in
    let solved = c.for_ends-solved.ensures in
    let s = sums_in a.sums node in (
      c.loop-node.invariant.0,
      fill_step _ _ _ c.loop-node.invariant.1 (omega arith) (solved.0 ∙ ap (λ (n : Node). node_head (for_ends n s) s) own),
      fill_step _ _ _ c.loop-node.invariant.2 (omega arith) (solved.1 ∙ ap (λ (n : Node). node_inflow n s) own),
    )

pub returns : goal.returns
returns c =
    let table = ap (λ (l : List ℕ). length l) c.nodes-nodes.ensures in (
      over_filled _ _ c.args.heads.now c.loop-node.invariant.1 (omega arith) (omega arith),
      over_filled _ _ c.args.inflows.now c.loop-node.invariant.2 (omega arith) (omega arith),
    )
