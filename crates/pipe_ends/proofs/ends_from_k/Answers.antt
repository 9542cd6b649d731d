use mathlib.Core.Path.{refl}
use native.Mathlib.Omega.{arith}
use Rattle.pipe_layout.specs.Layout.{laid_of}
use Rattle.pipe_layout.proofs.Turns.{along, laid_here, pipes_passed}
use Rattle.pipe_ends.proofs.SpareLaws.{ends_none, ends_more, ends_rest}
use Rattle.pipe_ends.proofs.ends_from_k.Goals as goal

pub loop-l-init : goal.loop-l-init
loop-l-init c =
    rw (c.into_iter-l-iterator.ensures.into_iter_gives, c.each_pipe-l-items.ensures.1) (c.each_pipe-l-items.ensures.0, ends_none _ _ _ _, refl)

pub loop-l-preserved : goal.loop-l-preserved
loop-l-preserved c =
    let turn = c.in-Some.ensures.steps in
    let inv = c.loop-l.invariant in
    let a = c.args in
    let p = c.loop-l.l-iterator.at.pipe in
    let l = laid_of c.in-Some.l in
    let is = rw turn.gives.numbered at c.pipe_ends.ensures in
    rw turn.gives.on (
      along turn inv.0,
      ends_more a.job.now a.nodes.now a.spare.now c.loop-l.spare p l inv.2 is (omega arith) (laid_here turn.gives inv.0) inv.1,
      ends_rest a.job.now a.nodes.now a.spare.now c.loop-l.spare p l inv.2 is,
    )

pub returns : goal.returns
returns c =
    let inv = c.loop-l.invariant in
    rw (pipes_passed inv.0 c.in-None.ensures.steps.gives) (inv.1, inv.2)
