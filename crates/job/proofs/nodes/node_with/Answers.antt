-- `job::nodes::node_with` meets its contract: question 11's yes says that the figures are finite, so that they may be read, and the node is made by the number
-- of its kind. Assumes nothing.
use Rattle.std.proofs.Common.{rules}
use Rattle.job.proofs.NodeLaws.{figures_finite}
use Rattle.job.proofs.nodes.node_with.Goals as goal

pub f64_at-requires : goal.f64_at-requires
f64_at-requires c = (search rules, (figures_finite _ c.requires.0 _ c.requires.1).a)

pub f64_at-requires-in-Ok-Valve : goal.f64_at-requires-in-Ok-Valve
f64_at-requires-in-Ok-Valve c = (search rules, (figures_finite _ c.requires.0 _ c.requires.1).b)

pub f64_at-requires-in-Ok-Pump : goal.f64_at-requires-in-Ok-Pump
f64_at-requires-in-Ok-Pump c = (search rules, (figures_finite _ c.requires.0 _ c.requires.1).a)

pub f64_at-requires-in-Ok-Pump-2 : goal.f64_at-requires-in-Ok-Pump-2
f64_at-requires-in-Ok-Pump-2 c = (search rules, (figures_finite _ c.requires.0 _ c.requires.1).b)

pub f64_at-requires-in-Ok-Pump-3 : goal.f64_at-requires-in-Ok-Pump-3
f64_at-requires-in-Ok-Pump-3 c = (search rules, (figures_finite _ c.requires.0 _ c.requires.1).c)
