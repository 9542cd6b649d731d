-- `node_questions::each_count_fits` meets its contract: question 50 is asked of each node. Assumes nothing.
use Rattle.std.proofs.Common.{refl, rules}
use Rattle.loops.proofs.Ranges.{all_ran}
use Rattle.job.specs.Questions.{count_fits, each_count_fits}
use Rattle.node_questions.proofs.each_count_fits.Goals as goal

pub returns : goal.returns
unfolding each_count_fits
returns c = all_ran (count_fits c.args.nodes.now c.args.counts.now) _ c.all.ensures.ran refl (λ x b q k. search rules)
