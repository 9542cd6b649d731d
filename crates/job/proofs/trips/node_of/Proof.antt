-- `job::trips::node_of` meets its contract: a record begins with its node, two bytes wide, lowest first. Assumes nothing.
use borrow.Author.Rules.{rules}
use Rattle.job.proofs.trips.node_of.Statement.{statement}
use Rattle.job.proofs.trips.node_of.Tie as tie

returns : tie.Need-returns
returns c = c.u16_at.ensures.0

pub node_of_spec : {M : Type 1} → statement M
node_of_spec = tie.close (tie.spec (λ c. search rules) (λ c κs. search rules) returns)
