-- `value_questions::friction_right` meets its contract: the length is asked of the reaches of all pipes, and the rest of each reach. Assumes nothing.
use Rattle.job.specs.Questions.{friction_right}
use borrow.Author.Rules.{rules}
use Rattle.value_questions.proofs.friction_right.Statement.{statement}
use Rattle.value_questions.proofs.friction_right.Tie as tie

pub friction_right_spec : {M : Type 1} → statement M
unfolding friction_right
friction_right_spec =
    tie.close
    (tie.spec
    (λ c κs. search rules)
    (λ c. search rules)
    (λ c κs. search rules)
    (λ c. rw (c.before.before.ends-all.ensures.1, c.friction_fits.ensures)))
