-- `job::schedules::long_count` meets its contract: a count is two bytes wide, lowest first. Assumes nothing.
use borrow.Author.Rules.{rules}
use Rattle.job.proofs.schedules.long_count.Statement.{statement}
use Rattle.job.proofs.schedules.long_count.Tie as tie

returns : tie.Need-returns
returns c = c.u16_at.ensures

pub long_count_spec : {M : Type 1} → statement M
long_count_spec = tie.close (tie.spec (λ c. search rules) (λ c κs. search rules) returns)
