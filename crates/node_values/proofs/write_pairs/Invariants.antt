-- `node_values::write_pairs` meets its contract: both rows are filled up to a node, and what is stored for that node is its pair, by its kind.
use mathlib.Core.Path.{◌≡◌}
use Rattle.loops.specs.Fill.{fill}
use Rattle.node_values.specs.Pairs.{pair_of}
use Rattle.node_values.proofs.write_pairs.Given as goal

abbrev pub invariant-loop-node : goal.invariant-loop-node
invariant-loop-node l =
    (l.speeds ≡ fill (λ y. (pair_of l.job l.values l.found y).speed) l.initial.speeds 0 l.node)
    × (l.inflows ≡ fill (λ y. (pair_of l.job l.values l.found y).inflow) l.initial.inflows 0 l.node)
