-- Each turn overwrites two sections more and reads only what stands as it was. Assumes nothing.
use native.Mathlib.Omega.{arith}
use Rattle.section.proofs.RowLaws.{stepped_none, heads_length}
use Rattle.inner_commit.proofs.CommitInPlace.{two_more, next_cp}
use Rattle.inner_commit.proofs.commit_twos.Goals as goal

pub loop-i-init : goal.loop-i-init
loop-i-init c =
    let cut = c.new.ensures in
    (stepped_none, rw (cut.along, cut.s) at c.two_cp-cp.ensures, c.requires.cut_to_pipe.1)

pub loop-i-preserved : goal.loop-i-preserved
loop-i-preserved c =
    let wrote = c.write_two-cp.ensures in
    let a = c.args in
    let inv = c.loop-i.invariant in (
      two_more a.friction.now a.s inv.0 inv.1 wrote.1,
      next_cp a.friction.now a.s inv.0 wrote.0,
      omega (arith, c.loop-i-test.true, heads_length inv.0),
    )
