-- `job::pairs::offset_of` meets its contract: a pair begins where the pairs before it end, with its offset. Assumes nothing.
use borrow.Author.Rules.{rules}
use Rattle.job.proofs.pairs.offset_of.Statement.{statement}
use Rattle.job.proofs.pairs.offset_of.Tie as tie

pub offset_of_spec : {M : Type 1} → statement M
offset_of_spec = tie.close (tie.spec (λ c κs. search rules) (λ c κs. search rules) (λ c. rw (← c.before.pairs_end.ensures) c.u32_at.ensures))
