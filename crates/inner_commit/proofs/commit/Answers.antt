-- The sections that are overwritten two a turn, and the one or two after them by the CP carried to them, are all of the pipe's inner sections: the rows'
-- length tells which it is. Assumes nothing.
use native.Mathlib.Omega.{arith}
use Rattle.section.proofs.RowLaws.{SteppedTo, stepped_none, stepped_done, heads_length}
use Rattle.inner_sections.specs.InnerSections.{one_pipe, inner_at}
use Rattle.inner_sections.proofs.CutRows.{first_cp, second_cp}
use Rattle.inner_commit.proofs.CommitInPlace.{one_more}
use Rattle.inner_commit.proofs.commit.Goals as goal

pub returns-then-heads-lt3 : goal.returns-then-heads-lt3
returns-then-heads-lt3 c =
    let a = c.args in
    let none : SteppedTo (inner_at (one_pipe a.friction.now a.heads.now a.flows.now) a.s) 1 0 a.heads.now a.flows.now a.highest.now a.lowest.now a.heads.now a.flows.now a.highest.now a.lowest.now = stepped_none in
    stepped_done none _ (omega (arith, c.if-heads-lt3.true))

pub returns-then-end-heads : goal.returns-then-end-heads
returns-then-end-heads c =
    let a = c.args in
    let turns = c.commit_twos-carried in
    let w = one_pipe a.friction.now a.heads.now a.flows.now in
    let one = one_more a.friction.now a.s record { stepped = turns.ensures.3 } (first_cp w a.s turns.result.done turns.ensures.2) c.write_one.ensures in
    stepped_done one _ (omega (arith, c.if-end-heads.true, heads_length one))

pub returns : goal.returns
returns c =
    let a = c.args in
    let turns = c.commit_twos-carried in
    let w = one_pipe a.friction.now a.heads.now a.flows.now in
    let one = one_more a.friction.now a.s record { stepped = turns.ensures.3 } (first_cp w a.s turns.result.done turns.ensures.2) c.write_one.ensures in
    let left = c.write_one-2.new in
    let two = one_more a.friction.now a.s one {newHeads = left.heads} {newFlows = left.flows} {newHighest = left.highest} {newLowest = left.lowest}
    (second_cp w a.s turns.result.done turns.ensures.2) c.write_one-2.ensures in
    stepped_done two _ (omega (arith, c.if-end-heads.false, heads_length one, heads_length two, turns.ensures.0, turns.ensures.1))
