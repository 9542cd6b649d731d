-- `node_questions::figures_fit` meets its contract: question 11 is asked of each node. Assumes nothing.
use Rattle.std.proofs.Common.{refl, rules}
use Rattle.loops.proofs.Ranges.{all_ran}
use Rattle.job.specs.Questions.{figure_fits, figures_fit}
use Rattle.node_questions.proofs.figures_fit.Goals as goal

pub returns : goal.returns
unfolding figures_fit
returns c = all_ran (figure_fits c.args.nodes.now) _ c.all.ensures.ran refl (λ x b q k. search rules)
