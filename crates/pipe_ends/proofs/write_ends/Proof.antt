-- `pipe_ends::write_ends` meets its contract: the row of sums has B and T of each node, so the heads of the nodes by their values, and the ends by them
-- and by K, are the recurrence's. Assumes nothing.
use mathlib.Core.Path.{◌∙◌}
use borrow.Author.Rules.{rules}
use Rattle.node_heads.proofs.NodeHeads.{heads_by_sums, inflows_by_sums}
use Rattle.spare_ends.specs.Spare.{EndsByK}
use Rattle.pipe_ends.proofs.SpareLaws.{ends_in}
use Rattle.pipe_ends.proofs.write_ends.Statement.{statement}
use Rattle.pipe_ends.proofs.write_ends.Tie as tie

-- the function's entry, where K is kept, and where the heads of the nodes are found
abbrev start : tie.After-keep_k-sums → tie.Start
start c =
    let rows : tie.After-slice_known-3-1 = c.before.before in
    rows.before.before.before.before.before.before.before

abbrev kept : tie.After-node_heads → tie.After-keep_k-sums
kept c = c.before.before.before.before.before

abbrev headed : tie.After-ends_from_k → tie.After-node_heads
headed c = c.before.before.before.before.before.before

-- It stands before what the calls ask, so that of exchanged rows the prover tells this first.
returns : tie.Need-returns
returns c =
    let ended : tie.After-ends_from_k = c.before.before in
    let found = headed ended in
    let ks = kept found in
    let ok = (start ks).requires.0.0.accepted in
    let values = (start ks).args.values.now in
    let sums = ks.keep_k-sums.ensures.0 in
    let by_heads : EndsByK (start ks).args.job.now found.node_heads.new.heads ks.keep_k-sums.new.spare ended.ends_from_k.new.spare = ended.ends_from_k.ensures.0 in
    let nodes = heads_by_sums _ ok _ _ values sums found.node_heads.ensures.0 in (
      inflows_by_sums _ ok _ _ values sums found.node_heads.ensures.1,
      ends_in _ ok _ _ _ nodes ks.keep_k-sums.ensures.1 by_heads,
      ended.ends_from_k.ensures.1 ∙ ks.keep_k-sums.ensures.2,
    )

node-heads-requires : tie.Need-node_heads-requires
node-heads-requires c κs =
    let pre = (start c.before.before.before.before).requires in
    (pre.0.0.accepted, pre.1.0, pre.1.1, pre.1.2)

pub write_ends_spec : {M : Type 1} → statement M
write_ends_spec =
    tie.close
    (tie.spec
    (λ c κs. search rules)
    node-heads-requires
    (λ c κs. search rules)
    (λ c. search rules)
    (λ c. search rules)
    (λ c. search rules)
    returns)
