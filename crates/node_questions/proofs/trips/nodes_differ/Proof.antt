-- `node_questions::trips::nodes_differ` meets its contract: the two nodes are those of the records. Assumes nothing.
use mathlib.Core.Path.{refl}
use borrow.Author.Rules.{rules}
use Rattle.node_questions.proofs.trips.nodes_differ.Statement.{statement}
use Rattle.node_questions.proofs.trips.nodes_differ.Tie as tie

pub nodes_differ_spec : {M : Type 1} → statement M
nodes_differ_spec =
    tie.close (tie.spec (λ c κs. search rules) (λ c κs. search rules) (λ c. rw (c.before.node_of.ensures, c.node_of-2.ensures) refl))
