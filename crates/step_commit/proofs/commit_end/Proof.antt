-- `step_commit::commit_end` meets its contract: the end that stands in the spare is stored. Assumes nothing.
use borrow.Author.Rules.{rules}
use Rattle.step_commit.proofs.commit_end.Statement.{statement}
use Rattle.step_commit.proofs.commit_end.Tie as tie

returns : tie.Need-returns
returns c =
    let flows : tie.After-flows-1 = c.before.before.before.before.before in
    let stored : tie.After-store = flows.before.before.before in
    let read : tie.After-end_at-x = stored.before.before.before.before.before in
    rw read.end_at-x.ensures at stored.store.ensures

pub commit_end_spec : {M : Type 1} → statement M
commit_end_spec =
    tie.close
    (tie.spec
    (λ c κs. search rules)
    (λ c κs. search rules)
    (λ c. search rules)
    (λ c. search rules)
    (λ c. search rules)
    (λ c. search rules)
    returns)
