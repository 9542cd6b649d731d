-- `chain::nodes_fit` meets its contract: a turn asks one node and stops at the first no. The place carried is the sum of the counts before the node, so that
-- the entries asked are its own. Assumes nothing.
use Rattle.std.proofs.Common.{◌≡◌, sym, arith, rules}
use Rattle.loops.proofs.All.{all_none, all_more, all_stop}
use Rattle.job.specs.Format.{node_count}
use Rattle.job.proofs.Places.{sum_before_none, sum_before_more}
use Rattle.job.proofs.NodeLaws.{entries_within, entries_finite}
use Rattle.chain.proofs.ChainLaws.{own_node}
use Rattle.chain.proofs.nodes_fit.Goals as goal

-- It stands before the needs of the turn's calls, so that of a wrong sum the prover tells this first.
pub loop-node-preserved : goal.loop-node-preserved
loop-node-preserved c =
    let count = c.schedule_count-count.ensures in (
      sum_before_more _ _ c.loop-node.invariant.0 count.0 count.1,
      all_more _ c.loop-node.invariant.1 (sym (own_node _ _ _ _ _ c.loop-node.invariant.0.sum count.0 c.if-not-node_fits.ensures)),
    )

pub node_fits-requires : goal.node_fits-requires
node_fits-requires c =
    let count = c.schedule_count-count.ensures.0 in
    let sum = c.loop-node.invariant.0.sum in (
      c.loop-node-test.true,
      entries_within _ _ _ c.requires.0.entries c.loop-node-test.true sum count,
      entries_finite _ _ _ c.requires.0.entries c.loop-node-test.true sum count,
    )

pub returns-then-not-node_fits : goal.returns-then-not-node_fits
returns-then-not-node_fits c = sym (all_stop _ _ _ c.loop-node-test.true (sym (own_node _ _ _ _ _ c.loop-node.invariant.0.sum c.schedule_count-count.ensures.0 c.if-not-node_fits.ensures)))

pub overflow_add-place : goal.overflow_add-place
overflow_add-place c = let small = c.loop-node.invariant.0.small in search rules

pub loop-node-init : goal.loop-node-init
loop-node-init c = (sum_before_none _ _, all_none _)

pub returns : goal.returns
returns c =
    let last : c.loop-node.node ≡ node_count c.args.nodes.now = omega arith in
    sym (rw last at c.loop-node.invariant.1)
