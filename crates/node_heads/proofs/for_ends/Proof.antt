-- Where the pair is finite the node stands for itself; where it is not, a level of plus infinity does, whose head is plus infinity however its sums are
-- judged. Assumes nothing.
use mathlib.Core.Path.{◌≡◌, sym, ap, ◌∙◌}
use mathlib.Core.Bool.{Bool, true, false}
use borrow.Author.Rules.{rules}
use Rattle.node_sums.specs.FromRows.{pair_finite, for_ends}
use Rattle.wave.specs.Nodes.{node_inflow}
use Rattle.node_heads.proofs.NodeHeads.{head_infinite}
use Rattle.node_heads.proofs.for_ends.Statement.{statement}
use Rattle.node_heads.proofs.for_ends.Tie as tie

-- what the test of the code tells of the pair
judged : (c : tie.After-pair_finite) (b : Bool) → c.pair_finite.result ≡ b
    → let a = c.before.before.args in pair_finite a.n (node_inflow a.n a.sums) ≡ b
judged c b e =
    let n = c.before.before.args.n in
    let is : c.pair_finite.result ≡ pair_finite n c.before.solve_node-solved.result.inflow = c.pair_finite.ensures in
    sym (ap (pair_finite n) c.before.solve_node-solved.ensures.1) ∙ sym is ∙ e

returns : tie.Need-returns-then-pair_finite
unfolding for_ends
returns c = rw (judged c.before true c.if-pair_finite.true) c.before.before.solve_node-solved.ensures

returns-2 : tie.Need-returns
unfolding for_ends
returns-2 c =
    let asked : tie.After-pair_finite = c.before.before in
    let sums = asked.before.before.args.sums in
    rw (judged asked false c.before.if-pair_finite.false) (c.infinity.ensures ∙ sym (head_infinite sums), asked.before.solve_node-solved.ensures.1)

pub for_ends_spec : {M : Type 1} → statement M
for_ends_spec = tie.close (tie.spec (λ c κs. search rules) (λ c κs. search rules) returns (λ c κs. search rules) returns-2)
