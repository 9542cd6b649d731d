use mathlib.Core.Path.{◌≡◌, refl, sym, ◌∙◌}
use native.Mathlib.Omega.{arith}
use lib.ListN.{length}
use Rattle.loops.proofs.Listed.{length-listed}
use Rattle.job.specs.Format.{pipes_in}
use Rattle.job.proofs.WalkLaws.{walk_none, walk_more, walk_done, walk_reach, pipe_at_lem}
use Rattle.job.proofs.pipes.ends.Goals as goal

pub loop-p-init : goal.loop-p-init
loop-p-init c = rw c.begun-at.ensures (refl, walk_none, omega arith)

pub past-at-requires : goal.past-at-requires
past-at-requires c = omega (arith, walk_reach c.loop-p.invariant.1, c.reaches.ensures.1)

pub loop-p-preserved : goal.loop-p-preserved
loop-p-preserved c =
    rw c.past-at.ensures (
      omega arith,
      rw c.reaches.ensures.0 (walk_more (pipe_at_lem _ _ c.loop-p-test.true) c.loop-p.invariant.1),
      omega (arith, c.loop-p.invariant.2, c.reaches.ensures.1),
    )

pub returns : goal.returns
unfolding pipes_in
returns c =
    let walked = c.loop-p.invariant.1 in
    let passed : length (pipes_in c.args.pipes.now) ≡ c.loop-p.p = length-listed _ _ ∙ omega arith in
    let all = walk_done passed walked in
    (sym all.0, sym all.1, walk_reach walked, omega arith)
