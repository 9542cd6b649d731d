-- `chain::pipes_fit` meets its contract: each pipe is asked. Assumes nothing.
use Rattle.std.proofs.Common.{refl, rules}
use Rattle.loops.proofs.Ranges.{all_ran}
use Rattle.job.specs.Format.{pipe_in}
use Rattle.chain.specs.Chain.{pipe_fits}
use Rattle.chain.proofs.pipes_fit.Goals as goal

pub returns : goal.returns
returns c = all_ran (λ p. pipe_fits p (pipe_in c.args.pipes.now p)) _ c.all.ensures.ran refl (λ x b q k. search rules)
