-- `c_interface::pack` meets its contract: each part is cut to its digits and the sum is the definition's, below 2^52. Assumes nothing.
use native.Mathlib.Omega.{arith}
use borrow.Author.Rules.{rules}
use Rattle.c_interface.specs.Packed.{packed}
use Rattle.c_interface.proofs.pack.Statement.{statement}
use Rattle.c_interface.proofs.pack.Tie as tie

pub pack_spec : {M : Type 1} → statement M
unfolding packed
pack_spec = tie.close (tie.spec (λ c. search rules) (λ c. search rules) (λ c. search rules) (λ c. search rules) (λ c. omega arith))
