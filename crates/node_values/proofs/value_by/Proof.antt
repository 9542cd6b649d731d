-- The test is whether the trip step has come; each branch is the definition's. Assumes nothing.
use mathlib.Core.Path.{◌≡◌}
use mathlib.Core.Bool.{true}
use lib.Dec.{leb}
use borrow.Author.Rules.{rules}
use borrow.Author.Tests.{le-leb, lt-leb}
use Rattle.node_values.proofs.value_by.Statement.{statement}
use Rattle.node_values.proofs.value_by.Tie as tie

-- The test is spelled out, so that of another test the prover tells both.
returns : tie.Need-returns-then-step_of-step
returns c =
    let asked : tie.After-step_of = c.before.before in
    let come : leb asked.step_of.result asked.before.before.args.step ≡ true = le-leb _ _ c.before.if-step_of-step.true in
    rw (← asked.step_of.ensures, come) c.rundown_at.ensures

returns-2 : tie.Need-returns-else-step_of-step
returns-2 c = rw (← c.before.step_of.ensures, lt-leb _ _ c.if-step_of-step.false)

pub value_by_spec : {M : Type 1} → statement M
value_by_spec = tie.close (tie.spec (λ c κs. search rules) (λ c κs. search rules) returns returns-2)
