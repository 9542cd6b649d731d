-- `reader::pipes::constants_fit` meets its contract: question 9 is asked of each pipe. Assumes nothing.
use Rattle.std.proofs.Common.{refl, rules}
use Rattle.loops.proofs.Ranges.{all_ran}
use Rattle.job.specs.Format.{pipe_in}
use Rattle.job.specs.Questions.{constant_fits, constants_fit}
use Rattle.reader.proofs.pipes.constants_fit.Goals as goal

pub returns : goal.returns
unfolding constants_fit
returns c = all_ran (λ p. constant_fits (pipe_in c.args.pipes.now p)) _ c.all.ensures.ran refl (λ x b q k. search rules)
