-- `value_questions::initial_right` meets its contract: the length is asked of the sections of all pipes, and the rest of each section. Assumes nothing.
use Rattle.job.specs.Questions.{initial_right}
use borrow.Author.Rules.{rules}
use Rattle.value_questions.proofs.initial_right.Statement.{statement}
use Rattle.value_questions.proofs.initial_right.Tie as tie

pub initial_right_spec : {M : Type 1} → statement M
unfolding initial_right
initial_right_spec =
    tie.close
    (tie.spec
    (λ c κs. search rules)
    (λ c. search rules)
    (λ c κs. search rules)
    (λ c. rw (c.before.section_count.ensures.0, c.initial_fits.ensures)))
