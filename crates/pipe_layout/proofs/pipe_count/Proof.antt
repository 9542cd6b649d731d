-- `pipe_layout::pipe_count` meets its contract: a pipe has twelve bytes of its table, and no accepted job has more than 32. Assumes nothing.
use borrow.Author.Rules.{rules}
use Rattle.pipe_layout.proofs.Acceptance.{pairs_accepted, few_pipes}
use Rattle.pipe_layout.proofs.pipe_count.Statement.{statement}
use Rattle.pipe_layout.proofs.pipe_count.Tie as tie

returns : tie.Need-returns
returns c = rw c.pipes.ensures (search rules, few_pipes _ c.before.before.requires)

pub pipe_count_spec : {M : Type 1} → statement M
pipe_count_spec = tie.close (tie.spec (λ c κs. pairs_accepted _ c.before.requires) returns)
