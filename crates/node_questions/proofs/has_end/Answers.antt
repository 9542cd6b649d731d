-- `node_questions::has_end` meets its contract: each pipe is asked, and a node that none ends at has no pipe end. Assumes nothing.
use Rattle.std.proofs.Common.{refl, rules}
use Rattle.loops.proofs.Ranges.{any_ran}
use Rattle.job.specs.Format.{pipe_in}
use Rattle.job.specs.Questions.{ends_at, has_end}
use Rattle.node_questions.proofs.has_end.Goals as goal

pub returns : goal.returns
unfolding has_end
returns c = any_ran (λ p. ends_at c.args.node (pipe_in c.args.pipes.now p)) _ c.any.ensures.ran refl (λ x b q k. search rules)
