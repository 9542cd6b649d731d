-- `chain_heads::head_after` meets its contract: |q| first, then the operations in the written order. Assumes nothing.
use borrow.Author.Rules.{rules}
use Rattle.setting.specs.Setting.{head_after}
use Rattle.chain_heads.proofs.head_after.Statement.{statement}
use Rattle.chain_heads.proofs.head_after.Tie as tie

returns : tie.Need-returns
unfolding head_after
returns c = rw c.magnitude-z.ensures

pub head_after_spec : {M : Type 1} → statement M
head_after_spec = tie.close (tie.spec (λ c κs. search rules) returns)
