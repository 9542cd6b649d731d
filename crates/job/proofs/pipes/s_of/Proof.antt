-- `job::pipes::s_of` meets its contract: S is finite, and stands 4 bytes into the pipe's record. Assumes nothing.
use Rattle.fields.specs.Finite.{finite_at}
use borrow.Author.Rules.{rules}
use Rattle.job.proofs.pipes.s_of.Statement.{statement}
use Rattle.job.proofs.pipes.s_of.Tie as tie

pub s_of_spec : {M : Type 1} → statement M
unfolding finite_at
s_of_spec = tie.close (tie.spec (λ c. search rules) (λ c. search rules) (λ c κs. (search rules, c.before.requires.1)) (λ c. search rules))
