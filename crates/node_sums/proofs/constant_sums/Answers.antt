use mathlib.Core.Path.{refl, ◌∙◌}
use Rattle.wave.specs.Adding.{with_s}
use Rattle.pipe_layout.specs.Layout.{laid_of}
use Rattle.pipe_layout.proofs.Turns.{along, laid_here, pipes_passed}
use Rattle.node_sums.proofs.NodeSums.{sums_more, sums_all, only_t, t_adds, t_none, t_all}
use Rattle.node_sums.proofs.constant_sums.Goals as goal

pub loop-l-init : goal.loop-l-init
loop-l-init c =
    rw (c.into_iter-l-iterator.ensures.into_iter_gives, c.each_pipe-l-items.ensures.1) (c.each_pipe-l-items.ensures.0, rw c.none-none.ensures t_none)

pub loop-l-preserved : goal.loop-l-preserved
loop-l-preserved c =
    let turn = c.in-Some.ensures.steps in
    let inv = c.loop-l.invariant in (
      along turn inv.0,
      rw turn.gives.on (
          sums_more only_t _ _ _ c.requires c.loop-l.l-iterator.at.pipe with_s t_adds _ (laid_of c.in-Some.l) (laid_here turn.gives inv.0) inv.1
          c.with_s.ensures c.with_s-in-loop-l.ensures refl refl
          ),
    )

pub returns : goal.returns
returns c =
    let inv = c.loop-l.invariant in
    sums_all only_t _ _ _ c.requires c.loop-l.l-iterator.at.pipe inv.1 (pipes_passed inv.0 c.in-None.ensures.steps.gives) ∙ t_all _
