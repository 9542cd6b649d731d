-- `node_questions::not_below_zero` meets its contract: the number is the one that stands there. Assumes nothing.
use borrow.Author.Rules.{rules}
use Rattle.node_questions.proofs.not_below_zero.Statement.{statement}
use Rattle.node_questions.proofs.not_below_zero.Tie as tie

pub not_below_zero_spec : {M : Type 1} → statement M
not_below_zero_spec = tie.close (tie.spec (λ c κs. search rules) (λ c. cc))
