-- Nothing flows where y is not above zero; else the root is taken where its argument is finite, and only there: the tests are those of the definition.
-- Assumes nothing.
use borrow.Author.Rules.{rules}
use Rattle.wave.specs.Nodes.{rooted, pump_argument, lift_flow}
use Rattle.wave.proofs.lift_flow.Goals as goal

pub returns-then-is_finite : goal.returns-then-is_finite
unfolding lift_flow pump_argument rooted
returns-then-is_finite c = search rules

pub returns-else-is_finite : goal.returns-else-is_finite
unfolding lift_flow pump_argument rooted
returns-else-is_finite c = search rules

pub returns-else-y : goal.returns-else-y
unfolding lift_flow
returns-else-y c = search rules
