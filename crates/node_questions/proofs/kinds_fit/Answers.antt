-- `node_questions::kinds_fit` meets its contract: question 10 is asked of each node. Assumes nothing.
use Rattle.std.proofs.Common.{refl, rules}
use Rattle.loops.proofs.Ranges.{all_ran}
use Rattle.job.specs.Questions.{kind_fits, kinds_fit}
use Rattle.node_questions.proofs.kinds_fit.Goals as goal

pub returns : goal.returns
unfolding kinds_fit
returns c = all_ran (kind_fits c.args.nodes.now c.args.counts.now) _ c.all.ensures.ran refl (λ x b q k. search rules)
