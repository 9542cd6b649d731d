-- `value_questions::initial_fits` meets its contract: question 14 is two halves, and a half has a yes exactly where nothing is counted. A section is finite
-- where its three numbers are. Assumes nothing.
use mathlib.Core.Path.{◌≡◌, ◌∙◌}
use lib.Dec.{eqb}
use Rattle.loops.proofs.Tests.{half_fails, half_holds}
use Rattle.loops.proofs.Counting.{none_counted, some_counted}
use Rattle.job.specs.QuestionParts.{sections_finite}
use Rattle.job.proofs.SectionLaws.{initial_halves, three_finite}
use borrow.Author.Rules.{rules}
use Rattle.value_questions.proofs.initial_fits.Statement.{statement}
use Rattle.value_questions.proofs.initial_fits.Tie as tie

counted : (c : tie.After-not_finite) → eqb c.not_finite.result 0 ≡ sections_finite c.before.before.args.initial.now
counted c = c.not_finite.ensures ∙ three_finite c.before.before.args.initial.now _

pub initial_fits_spec : {M : Type 1} → statement M
initial_fits_spec =
    tie.close
    (tie.spec
    (λ c. search rules)
    (λ c κs. search rules)
    (λ c. half_fails _ _ (initial_halves _) (some_counted (counted c.before) c.if-not_finite-ne0.true))
    (λ c κs. none_counted (counted c.before) c.if-not_finite-ne0.false)
    (λ c. c.below_floor.ensures ∙ half_holds _ _ (initial_halves _) (none_counted (counted c.before.before) c.before.if-not_finite-ne0.false)))
