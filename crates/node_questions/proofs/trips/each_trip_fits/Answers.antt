-- `node_questions::trips::each_trip_fits` meets its contract: question 53 is asked of each record. Assumes nothing.
use Rattle.std.proofs.Common.{refl, rules}
use Rattle.loops.proofs.Ranges.{all_ran}
use Rattle.job.specs.Questions.{trip_fits}
use Rattle.node_questions.proofs.trips.each_trip_fits.Goals as goal

pub returns : goal.returns
returns c = all_ran (trip_fits c.args.nodes.now c.args.trips.now) _ c.all.ensures.ran refl (λ x b q k. search rules)
