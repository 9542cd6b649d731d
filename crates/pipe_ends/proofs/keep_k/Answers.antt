use mathlib.Core.Path.{refl, ◌∙◌}
use native.Mathlib.Omega.{arith}
use Rattle.wave.specs.Adding.{with_k}
use Rattle.pipe_layout.specs.Layout.{laid_of}
use Rattle.pipe_layout.proofs.Turns.{along, laid_here, pipes_passed}
use Rattle.node_sums.proofs.NodeSums.{sums_more, sums_all, with_t, b_adds, b_none, b_all}
use Rattle.pipe_ends.proofs.SpareLaws.{k_none, k_more, k_rest}
use Rattle.pipe_ends.proofs.keep_k.Goals as goal

pub each_pipe-l-items-requires : goal.each_pipe-l-items-requires
each_pipe-l-items-requires c = c.requires.0.accepted

pub loop-l-init : goal.loop-l-init
loop-l-init c =
    rw (c.into_iter-l-iterator.ensures.into_iter_gives, c.each_pipe-l-items.ensures.1)
    (c.each_pipe-l-items.ensures.0, c.requires.1 ∙ b_none _ _ _, k_none _ _ _ _, refl)

pub k_at_start-at_start-requires : goal.k_at_start-at_start-requires
k_at_start-at_start-requires c = (c.requires.0, record { number = _; is = laid_here c.in-Some.ensures.steps.gives c.loop-l.invariant.0 })

pub k_at_finish-at_finish-requires : goal.k_at_finish-at_finish-requires
k_at_finish-at_finish-requires c = (c.requires.0, record { number = _; is = laid_here c.in-Some.ensures.steps.gives c.loop-l.invariant.0 })

pub loop-l-preserved : goal.loop-l-preserved
loop-l-preserved c =
    let turn = c.in-Some.ensures.steps in
    let inv = c.loop-l.invariant in
    let is = laid_here turn.gives inv.0 in
    let p = c.loop-l.l-iterator.at.pipe in
    let l = laid_of c.in-Some.l in
    let at_the_start = c.k_at_start-at_start.ensures in
    let at_the_finish = c.k_at_finish-at_finish.ensures in
    rw (turn.gives.on, turn.gives.numbered) (
      along turn inv.0,
      sums_more (with_t _) _ _ _ c.requires.0.accepted p with_k (b_adds _) _ l is inv.1 c.with_k.ensures c.with_k-in-loop-l.ensures at_the_start at_the_finish,
      k_more _ _ _ c.loop-l.spare p l _ _ (omega arith) inv.2 is at_the_start at_the_finish,
      k_rest c.args.spare.now c.loop-l.spare p _ _ inv.3,
    )

pub returns : goal.returns
returns c =
    let inv = c.loop-l.invariant in
    let all = pipes_passed inv.0 c.in-None.ensures.steps.gives in
    (sums_all (with_t _) _ _ _ c.requires.0.accepted c.loop-l.l-iterator.at.pipe inv.1 all ∙ b_all _ _ _, rw all inv.2, rw all inv.3)
