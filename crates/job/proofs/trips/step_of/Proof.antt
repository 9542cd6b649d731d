-- `job::trips::step_of` meets its contract: the trip step stands 2 bytes into the record, four bytes wide, lowest first. Assumes nothing.
use borrow.Author.Rules.{rules}
use Rattle.job.proofs.trips.step_of.Statement.{statement}
use Rattle.job.proofs.trips.step_of.Tie as tie

returns : tie.Need-returns
returns c = c.u32_at.ensures.0

pub step_of_spec : {M : Type 1} → statement M
step_of_spec = tie.close (tie.spec (λ c. search rules) (λ c. search rules) (λ c κs. search rules) returns)
