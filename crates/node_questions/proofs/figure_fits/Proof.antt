-- `node_questions::figure_fits` meets its contract: the kind asks of figures that are finite, and figures that are not finite are a no. Assumes nothing.
use mathlib.Core.Path.{sym, ◌∙◌}
use Rattle.job.specs.Questions.{figure_fits}
use borrow.Author.Rules.{rules}
use Rattle.node_questions.proofs.figure_fits.Statement.{statement}
use Rattle.node_questions.proofs.figure_fits.Tie as tie

pub figure_fits_spec : {M : Type 1} → statement M
unfolding figure_fits
figure_fits_spec =
    tie.close
    (tie.spec
    (λ c κs. search rules)
    (λ c κs. (search rules, sym c.before.all_finite.ensures ∙ c.if-all_finite.true))
    (λ c. rw (sym c.before.before.all_finite.ensures ∙ c.before.if-all_finite.true) c.figures_fit_kind.ensures)
    (λ c. rw (sym c.before.all_finite.ensures ∙ c.if-all_finite.false)))
