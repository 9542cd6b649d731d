-- `node_questions::trips::trip_fits` meets its contract: the three parts of question 53 are asked of record i and of its node. Assumes nothing.
use mathlib.Core.Path.{refl}
use Rattle.job.specs.Questions.{trip_fits}
use borrow.Author.Rules.{rules}
use Rattle.node_questions.proofs.trips.trip_fits.Statement.{statement}
use Rattle.node_questions.proofs.trips.trip_fits.Tie as tie

pub trip_fits_spec : {M : Type 1} → statement M
unfolding trip_fits
trip_fits_spec =
    tie.close
    (tie.spec
    (λ c κs. search rules)
    (λ c κs. search rules)
    (λ c κs. search rules)
    (λ c κs. search rules)
    (λ c.
    rw (c.before.before.is_pump.ensures, c.before.before.before.node_of.ensures, c.before.first_of_node.ensures, c.rundown_fits.ensures)
    refl))
