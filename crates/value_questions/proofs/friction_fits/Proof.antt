-- `value_questions::friction_fits` meets its contract: question 13 is two halves, and a half has a yes exactly where nothing is counted. Assumes nothing.
use mathlib.Core.Path.{◌≡◌, ◌∙◌}
use lib.Dec.{eqb}
use Rattle.loops.proofs.Tests.{half_fails, half_holds}
use Rattle.loops.proofs.Counting.{none_counted, some_counted}
use Rattle.job.specs.QuestionParts.{each_finite}
use Rattle.job.proofs.SectionLaws.{from_first, friction_halves}
use borrow.Author.Rules.{rules}
use Rattle.value_questions.proofs.friction_fits.Statement.{statement}
use Rattle.value_questions.proofs.friction_fits.Tie as tie

counted : (c : tie.After-not_finite) → eqb c.not_finite.result 0 ≡ each_finite c.before.before.args.friction.now
counted c = c.not_finite.ensures ∙ from_first _ _

pub friction_fits_spec : {M : Type 1} → statement M
friction_fits_spec =
    tie.close
    (tie.spec
    (λ c κs. search rules)
    (λ c. half_fails _ _ (friction_halves _) (some_counted (counted c.before) c.if-not_finite-ne0.true))
    (λ c κs. none_counted (counted c.before) c.if-not_finite-ne0.false)
    (λ c. c.below_zero.ensures ∙ half_holds _ _ (friction_halves _) (none_counted (counted c.before.before) c.before.if-not_finite-ne0.false)))
