-- `reader::pipes::joins` meets its contract: the nodes and the reaches are those of the pipe as the table has it. Assumes nothing.
use mathlib.Core.Path.{refl}
use Rattle.job.specs.Questions.{joins}
use borrow.Author.Rules.{rules}
use Rattle.reader.proofs.pipes.joins.Statement.{statement}
use Rattle.reader.proofs.pipes.joins.Tie as tie

pub joins_spec : {M : Type 1} → statement M
unfolding joins
joins_spec =
    tie.close
    (tie.spec
    (λ c κs. search rules)
    (λ c κs. search rules)
    (λ c κs. search rules)
    (λ c. rw (c.before.before.start-a.ensures.0, c.before.finish-b.ensures.0, c.reaches-n.ensures.0) refl))
