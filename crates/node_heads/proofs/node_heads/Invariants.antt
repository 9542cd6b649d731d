-- `node_heads::node_heads` meets its contract: both rows are filled up to a node, and that node, as the table has it, takes its value from the row of
-- values.
use mathlib.Core.Path.{◌≡◌}
use Prim.Native.Nat.{◌≤◌}
use Rattle.loops.specs.Fill.{fill}
use Rattle.node_sums.specs.FromRows.{head_by, inflow_by}
use Rattle.node_heads.proofs.node_heads.Given as goal

abbrev pub invariant-loop-node : goal.invariant-loop-node
invariant-loop-node l =
    (l.n ≤ 32)
    × (l.heads ≡ fill (head_by l.job l.values l.sums) l.initial.heads 0 l.node)
    × (l.inflows ≡ fill (inflow_by l.job l.values l.sums) l.initial.inflows 0 l.node)
