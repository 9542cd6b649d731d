-- `node_questions::trips::trips_fit` meets its contract: the table is one of whole records, and each is asked. Assumes nothing.
use mathlib.Core.Path.{refl}
use Rattle.job.specs.Questions.{trips_fit}
use borrow.Author.Rules.{rules}
use Rattle.node_questions.proofs.trips.trips_fit.Statement.{statement}
use Rattle.node_questions.proofs.trips.trips_fit.Tie as tie

pub trips_fit_spec : {M : Type 1} → statement M
unfolding trips_fit
trips_fit_spec = tie.close (tie.spec (λ c κs. search rules) (λ c. rw c.each_trip_fits.ensures refl))
