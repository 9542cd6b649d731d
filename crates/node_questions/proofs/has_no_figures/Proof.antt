-- `node_questions::has_no_figures` meets its contract: a, b and c stand 2, 10 and 18 bytes into the node's record. Assumes nothing.
use Rattle.job.specs.Questions.{has_no_figures}
use borrow.Author.Rules.{rules}
use Rattle.node_questions.proofs.has_no_figures.Statement.{statement}
use Rattle.node_questions.proofs.has_no_figures.Tie as tie

pub has_no_figures_spec : {M : Type 1} → statement M
unfolding has_no_figures
has_no_figures_spec =
    tie.close
    (tie.spec
    (λ c. search rules)
    (λ c. search rules)
    (λ c κs. search rules)
    (λ c. search rules)
    (λ c κs. search rules)
    (λ c. search rules)
    (λ c κs. search rules)
    (λ c. rw (c.before.before.zero_bits_at.ensures, c.before.zero_bits_at-2.ensures, c.zero_bits_at-3.ensures)))
