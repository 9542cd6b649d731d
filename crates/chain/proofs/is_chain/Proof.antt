-- `chain::is_chain` meets its contract: the tables handed out are the job's, and of the three tests the first no decides. Assumes nothing.
use mathlib.Core.Bool.{not}
use mathlib.Core.Path.{◌≡◌, ◌∙◌, ap}
use Prim.Native.Nat.{ℕ, ◌+◌}
use borrow.Author.Rules.{rules}
use native.Mathlib.Omega.{arith}
use Rattle.loops.proofs.Tests.{is_yes, is_no}
use Rattle.loops.specs.Loops.{all_below}
use Rattle.job.specs.Format.{pipe_table, node_table, pipe_count, pipe_in, node_count}
use Rattle.job.proofs.FirstNo.{none_refused}
use Rattle.job.proofs.Accepted.{nodes_right, node_limits, nodes_length}
use Rattle.chain.specs.Chain.{pipe_fits}
use Rattle.chain.proofs.ChainLaws.{other_count, pipe_no, by_nodes}
use Rattle.chain.proofs.is_chain.Statement.{statement}
use Rattle.chain.proofs.is_chain.Tie as tie

-- where the tables have been handed out, and the function's entry
abbrev start : tie.After-schedules-schedules → tie.Start
start c = c.before.before.before.before.before

-- there is a node more than pipes
node_more :
    (c : tie.Else-nodes-last)
    → let job = (start c.before).args.job.now in node_count (node_table job) ≡ pipe_count (pipe_table job) + 1
node_more c =
    let nodes : tie.After-nodes-nodes = c.before.before.before in
    rw (nodes.nodes-nodes.ensures, nodes.before.pipes-pipes.ensures) at c.if-nodes-last.false

-- what the walk over the pipes has found
pipes_asked :
    (c : tie.After-pipes_fit)
    → let job = (start c.before.before).args.job.now in
    c.pipes_fit.result ≡ all_below (λ (p : ℕ). pipe_fits p (pipe_in (pipe_table job) p)) (pipe_count (pipe_table job))
pipes_asked c =
    let pipes : tie.After-pipes-pipes = c.before.before.before.before.before in
    rw pipes.pipes-pipes.ensures at c.pipes_fit.ensures

returns : tie.Need-returns-then-nodes-last
returns c =
    let nodes : tie.After-nodes-nodes = c.before.before.before in
    other_count _ (start c.before).requires (rw (nodes.nodes-nodes.ensures, nodes.before.pipes-pipes.ensures) at c.if-nodes-last.true)

returns-2 : tie.Need-returns-then-not-pipes_fit
returns-2 c =
    let asked : tie.After-pipes_fit = c.before in
    pipe_no _ (start asked.before.before).requires (node_more asked.before) (is_no (pipes_asked asked) (ap not c.if-not-pipes_fit.true))

nodes-fit-requires : tie.Need-nodes_fit-requires
nodes-fit-requires c κs =
    let tables : tie.After-schedules-schedules = c.before.before.before in
    let nodes : tie.After-nodes-nodes = tables.before.before in
    let ok = (start tables).requires in (
      nodes_right _ nodes.nodes-nodes.ensures tables.before.counts-counts.ensures tables.schedules-schedules.ensures ok,
      rw nodes.nodes-nodes.ensures (omega (arith, (node_limits _ ok).1, nodes_length _ ok)),
    )

returns-3 : tie.Need-returns
returns-3 c =
    let passed : tie.Else-not-pipes_fit = c.before in
    let asked : tie.After-pipes_fit = passed.before in
    let tables : tie.After-schedules-schedules = asked.before.before in
    let nodes : tie.After-nodes-nodes = tables.before.before in
    (rw (
      nodes.before.pipes-pipes.ensures,
      nodes.nodes-nodes.ensures,
      tables.before.counts-counts.ensures,
      tables.schedules-schedules.ensures,
    ) at c.nodes_fit.ensures)
    ∙ by_nodes _ (start tables).requires (node_more asked.before) (is_yes (pipes_asked asked) (ap not passed.if-not-pipes_fit.false))

pub is_chain_spec : {M : Type 1} → statement M
is_chain_spec =
    tie.close
    (tie.spec
    (λ c κs. (none_refused _ c.before.requires).pairs)
    (λ c κs. (none_refused _ c.before.before.requires).pairs)
    (λ c κs. (none_refused _ c.before.before.before.requires).pairs)
    (λ c κs. (none_refused _ c.before.before.before.before.requires).pairs)
    (λ c. search rules)
    returns
    (λ c κs. search rules)
    returns-2
    nodes-fit-requires
    returns-3)
