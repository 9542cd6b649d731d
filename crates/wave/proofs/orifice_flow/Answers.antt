-- Nothing flows where y is not above zero or w is zero; else the root is taken where its argument is finite, and only there: the tests are those of the
-- definition. Assumes nothing.
use borrow.Author.Rules.{rules}
use Rattle.wave.specs.Nodes.{rooted, orifice_argument, orifice_rate, orifice_flow}
use Rattle.wave.proofs.orifice_flow.Goals as goal

-- the branches that judge the root come first, so that an edit of the first test is refused where what it lets through is wrong
pub returns-else-is_finite : goal.returns-else-is_finite
unfolding orifice_flow orifice_argument rooted
returns-else-is_finite c = search rules

pub returns-then-is_finite : goal.returns-then-is_finite
unfolding orifice_flow orifice_rate orifice_argument rooted
returns-then-is_finite c = search rules

pub returns-then-not-y : goal.returns-then-not-y
unfolding orifice_flow
returns-then-not-y c = search rules
