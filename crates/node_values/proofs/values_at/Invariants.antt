-- `node_values::values_at` meets its contract: after i records the row has each node's value by the first i of them, and a turn takes one more.
use Rattle.node_sums.specs.FromRows.{OverNodes}
use Rattle.node_values.proofs.NodeValues.{value_up_to}
use Rattle.node_values.proofs.values_at.Given as goal

abbrev pub invariant-loop-i : goal.invariant-loop-i
invariant-loop-i l = OverNodes l.job (value_up_to l.job l.step l.speeds l.inflows l.i) l.values
