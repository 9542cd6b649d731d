-- `job::pairs::length_of` meets its contract: the length stands 4 bytes after the offset. Assumes nothing.
use borrow.Author.Rules.{rules}
use Rattle.job.proofs.pairs.length_of.Statement.{statement}
use Rattle.job.proofs.pairs.length_of.Tie as tie

pub length_of_spec : {M : Type 1} → statement M
length_of_spec = tie.close (tie.spec (λ c κs. search rules) (λ c. search rules) (λ c κs. search rules) (λ c. rw (← c.before.pairs_end.ensures) c.u32_at.ensures))
