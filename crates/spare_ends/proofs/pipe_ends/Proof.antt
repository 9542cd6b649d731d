-- `spare_ends::pipe_ends` meets its contract: K of both ends is read before either flow is stored. Assumes nothing.
use Prim.Native.Nat.{◌*◌}
use native.Mathlib.Omega.{arith}
use lib.ListN.{length-set}
use borrow.Author.Rules.{rules}
use Rattle.spare_ends.specs.Spare.{with_ends}
use Rattle.spare_ends.proofs.pipe_ends.Statement.{statement}
use Rattle.spare_ends.proofs.pipe_ends.Tie as tie

returns : tie.Need-returns
returns c =
    let started : tie.After-start_end-start = c.before.before.before in
    let args = started.before.before.before.before.before.args in
    let start = started.start_end-start.ensures in
    let finish = c.finish_end-finish.ensures in
    λ i. with_ends args.spare.now (args.p * 4) (start i) (finish i)

pub pipe_ends_spec : {M : Type 1} → statement M
pipe_ends_spec =
    tie.close
    (tie.spec
    (λ c. search rules)
    (λ c. search rules)
    (λ c. search rules)
    (λ c. search rules)
    (λ c. search rules)
    (λ c. search rules)
    (λ c κs. search rules)
    (λ c. search rules)
    (λ c. search rules)
    (λ c. search rules)
    (λ c. search rules)
    (λ c. search rules)
    (λ c κs. search rules)
    (λ c. search rules)
    (λ c. search rules)
    (λ c. search rules)
    (λ c. search rules)
    (λ c. simp length-set (omega arith))
    (λ c. search rules)
    (λ c. search rules)
    (λ c. simp length-set (omega arith))
    (λ c. search rules)
    (λ c. search rules)
    (λ c. simp length-set (omega arith))
    (λ c. search rules)
    returns)
