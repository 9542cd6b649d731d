-- `call_questions::enough` meets its contract: the comparison for each row, all of them. Assumes nothing.
use borrow.Author.Rules.{rules}
use Rattle.call_questions.proofs.EnoughAsked.{enough_asked}
use Rattle.call_questions.proofs.enough.Statement.{statement}
use Rattle.call_questions.proofs.enough.Tie as tie

returns : tie.Need-returns
returns c =
    let pipes : tie.After-pipe_count-ends = c.before.before.before.before.before.before.before in
    let nodes : tie.After-node_count-nodes = pipes.before in
    let s : tie.Start = nodes.before.before in
    enough_asked s.args.job.now s.requires.0 s.requires.1 nodes.node_count-nodes.ensures pipes.pipe_count-ends.ensures.0 s.args.l

pub enough_spec : {M : Type 1} → statement M
enough_spec =
    tie.close
    (tie.spec
    (λ c κs. search rules)
    (λ c κs. search rules)
    (λ c. search rules)
    returns)
