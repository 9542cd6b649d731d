-- `node_questions::counts_fit` meets its contract: an empty table 6 is a yes, one of another length a no, and one of the right length is asked count by count.
-- Assumes nothing.
use borrow.Author.Tests.{eq-eqb, ne_eqb}
use Rattle.job.specs.Questions.{counts_fit}
use borrow.Author.Rules.{rules}
use Rattle.node_questions.proofs.counts_fit.Statement.{statement}
use Rattle.node_questions.proofs.counts_fit.Tie as tie

pub counts_fit_spec : {M : Type 1} → statement M
unfolding counts_fit
counts_fit_spec =
    tie.close
    (tie.spec
    (λ c. rw (eq-eqb _ _ c.if-counts-eq0.true))
    (λ c. search rules)
    (λ c. rw (ne_eqb _ _ c.before.if-counts-eq0.false, ne_eqb _ _ c.if-counts-nodes.true))
    (λ c κs. c.if-counts-nodes.false)
    (λ c. rw (ne_eqb _ _ c.before.before.if-counts-eq0.false, eq-eqb _ _ c.before.if-counts-nodes.false) c.each_count_fits.ensures))
