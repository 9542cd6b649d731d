-- `node_questions::trips::rundown_fits` meets its contract: G, t0 and t1 stand 6, 14 and 22 bytes into the record. Assumes nothing.
use mathlib.Core.Path.{refl}
use Rattle.job.specs.Questions.{rundown_fits}
use borrow.Author.Rules.{rules}
use Rattle.node_questions.proofs.trips.rundown_fits.Statement.{statement}
use Rattle.node_questions.proofs.trips.rundown_fits.Tie as tie

pub rundown_fits_spec : {M : Type 1} → statement M
unfolding rundown_fits
rundown_fits_spec =
    tie.close
    (tie.spec
    (λ c. search rules)
    (λ c. search rules)
    (λ c κs. search rules)
    (λ c. search rules)
    (λ c κs. search rules)
    (λ c. search rules)
    (λ c κs. search rules)
    (λ c. rw (c.before.before.constant_fits.ensures, c.before.constant_fits-2.ensures, c.constant_fits-3.ensures) refl))
