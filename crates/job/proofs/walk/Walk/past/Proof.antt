-- `job::walk::Walk::past` meets its contract: it adds as the definition does, and no count comes near its bound. Assumes nothing.
use native.Mathlib.Omega.{arith}
use borrow.Author.Rules.{rules}
use Rattle.job.proofs.walk.Walk.past.Statement.{statement}
use Rattle.job.proofs.walk.Walk.past.Tie as tie

pub past_spec : {M : Type 1} → statement M
past_spec = tie.close (tie.spec (λ c. omega arith) (λ c. omega arith) (λ c. omega arith) (λ c. omega arith) (λ c. search rules))
