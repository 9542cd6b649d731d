-- `node_questions::nodes_met` meets its contract: question 12 is asked of each node. Assumes nothing.
use Rattle.std.proofs.Common.{refl, rules}
use Rattle.loops.proofs.Ranges.{all_ran}
use Rattle.job.specs.Questions.{has_end, nodes_met}
use Rattle.node_questions.proofs.nodes_met.Goals as goal

pub returns : goal.returns
unfolding nodes_met
returns c = all_ran (has_end c.args.pipes.now) _ c.all.ensures.ran refl (λ x b q k. search rules)
