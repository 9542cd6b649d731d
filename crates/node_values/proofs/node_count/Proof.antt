-- `node_values::node_count` meets its contract: table 2 has 26 bytes for each node. Assumes nothing.
use mathlib.Core.Path.{ap}
use mathlib.Core.List.{List}
use Prim.Native.Nat.{ℕ, ◌/◌}
use lib.ListN.{length}
use Rattle.pipe_layout.proofs.Acceptance.{pairs_accepted}
use Rattle.node_values.proofs.node_count.Statement.{statement}
use Rattle.node_values.proofs.node_count.Tie as tie

returns : tie.Need-returns
returns c = ap (λ (table : List ℕ). length table / 26) c.nodes.ensures

pub node_count_spec : {M : Type 1} → statement M
node_count_spec = tie.close (tie.spec (λ c κs. pairs_accepted _ c.before.requires) returns)
