-- `node_questions::ends_at` meets its contract: the two ends are those of the pipe as the table has it. Assumes nothing.
use Rattle.job.specs.Questions.{ends_at}
use borrow.Author.Rules.{rules}
use Rattle.node_questions.proofs.ends_at.Statement.{statement}
use Rattle.node_questions.proofs.ends_at.Tie as tie

pub ends_at_spec : {M : Type 1} → statement M
unfolding ends_at
ends_at_spec = tie.close (tie.spec (λ c κs. search rules) (λ c κs. search rules) (λ c. rw (c.before.start.ensures.0, c.finish.ensures.0)))
