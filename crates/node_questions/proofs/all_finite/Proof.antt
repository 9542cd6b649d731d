-- `node_questions::all_finite` meets its contract: a, b and c stand 2, 10 and 18 bytes into the node's record. Assumes nothing.
use Rattle.fields.specs.Finite.{finite_at}
use Rattle.job.specs.Questions.{all_finite}
use borrow.Author.Rules.{rules}
use Rattle.node_questions.proofs.all_finite.Statement.{statement}
use Rattle.node_questions.proofs.all_finite.Tie as tie

pub all_finite_spec : {M : Type 1} → statement M
unfolding all_finite finite_at
all_finite_spec =
    tie.close
    (tie.spec
    (λ c. search rules)
    (λ c. search rules)
    (λ c κs. search rules)
    (λ c. search rules)
    (λ c κs. search rules)
    (λ c. search rules)
    (λ c κs. search rules)
    (λ c. rw (c.before.before.finite_at.ensures, c.before.finite_at-2.ensures, c.finite_at-3.ensures)))
