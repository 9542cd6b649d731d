-- `node_questions::valve_fits` meets its contract: a is finite, so that it may be compared; c is asked for all zero bits. Assumes nothing.
use mathlib.Core.Path.{refl}
use Rattle.job.proofs.NodeLaws.{finite_figures}
use Rattle.job.specs.Questions.{valve_fits}
use borrow.Author.Rules.{rules}
use Rattle.node_questions.proofs.valve_fits.Statement.{statement}
use Rattle.node_questions.proofs.valve_fits.Tie as tie

pub valve_fits_spec : {M : Type 1} → statement M
unfolding valve_fits
valve_fits_spec =
    tie.close
    (tie.spec
    (λ c. search rules)
    (λ c. search rules)
    (λ c κs. (search rules, (finite_figures _ _ c.before.requires.1).a))
    (λ c. search rules)
    (λ c κs. search rules)
    (λ c. rw (c.before.not_below_zero.ensures, c.zero_bits_at.ensures) refl))
