-- `node_questions::pump_fits` meets its contract: a and b are finite, so that they may be compared. Assumes nothing.
use Rattle.job.proofs.NodeLaws.{finite_figures}
use Rattle.job.specs.Questions.{pump_fits}
use borrow.Author.Rules.{rules}
use Rattle.node_questions.proofs.pump_fits.Statement.{statement}
use Rattle.node_questions.proofs.pump_fits.Tie as tie

pub pump_fits_spec : {M : Type 1} → statement M
unfolding pump_fits
pump_fits_spec =
    tie.close
    (tie.spec
    (λ c. search rules)
    (λ c. search rules)
    (λ c κs. (search rules, (finite_figures _ _ c.before.requires.1).a))
    (λ c. search rules)
    (λ c κs. (search rules, (finite_figures _ _ c.before.before.requires.1).b))
    (λ c. rw (c.before.not_below_zero.ensures, c.not_below_zero-2.ensures)))
