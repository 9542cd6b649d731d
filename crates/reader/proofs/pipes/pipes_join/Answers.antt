-- `reader::pipes::pipes_join` meets its contract: question 7 is asked of each pipe. Assumes nothing.
use Rattle.std.proofs.Common.{refl, rules}
use Rattle.loops.proofs.Ranges.{all_ran}
use Rattle.job.specs.Format.{pipe_in}
use Rattle.job.specs.Questions.{joins, pipes_join}
use Rattle.reader.proofs.pipes.pipes_join.Goals as goal

pub returns : goal.returns
unfolding pipes_join
returns c = all_ran (λ p. joins c.args.count (pipe_in c.args.pipes.now p)) _ c.all.ensures.ran refl (λ x b q k. search rules)
