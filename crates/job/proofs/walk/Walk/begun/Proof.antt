-- `job::walk::Walk::begun` meets its contract: each number is the definition's. Assumes nothing.
use borrow.Author.Rules.{rules}
use Rattle.job.proofs.walk.Walk.begun.Statement.{statement}
use Rattle.job.proofs.walk.Walk.begun.Tie as tie

pub begun_spec : {M : Type 1} → statement M
begun_spec = tie.close (tie.spec (λ c. search rules))
