-- `node_questions::trips::first_of_node` meets its contract: each record before record i is asked. Assumes nothing.
use Rattle.std.proofs.Common.{refl, rules}
use Rattle.loops.proofs.Ranges.{all_ran}
use Rattle.std.proofs.Common.{not, eqb}
use Rattle.job.specs.Format.{trip_in}
use Rattle.job.specs.Questions.{first_of_node}
use Rattle.node_questions.proofs.trips.first_of_node.Goals as goal

pub returns : goal.returns
unfolding first_of_node
returns c = all_ran (λ k. not (eqb (trip_in c.args.trips.now k).node (trip_in c.args.trips.now c.args.i).node)) _ c.all.ensures.ran refl (λ x b q k. search rules)
