use native.Mathlib.Omega.{arith}
use Rattle.loops.proofs.Fill.{fill_none}
use Rattle.job.proofs.Accepted.{friction_length, friction_fits_lem}
use Rattle.pipe_layout.specs.Layout.{laid_of}
use Rattle.pipe_layout.proofs.Acceptance.{pairs_accepted, within}
use Rattle.pipe_layout.proofs.Turns.{along, laid_here, sections_passed, first_here}
use Rattle.chain_heads.proofs.HeadLaws.{carried_none, carried_on, heads_on, filled_pipe}
use Rattle.chain_heads.proofs.write.Goals as goal

pub friction-friction-requires : goal.friction-friction-requires
friction-friction-requires c = pairs_accepted _ c.requires.0

pub loop-l-init : goal.loop-l-init
loop-l-init c =
    rw (c.into_iter-l-iterator.ensures.into_iter_gives, c.each_pipe-l-items.ensures.1)
    (c.each_pipe-l-items.ensures.0, carried_none _ _ _, fill_none _ _ 0, fill_none _ _ 0)

pub loop-l-preserved : goal.loop-l-preserved
loop-l-preserved c =
    let turn = c.in-Some.ensures.steps in
    let inv = c.loop-l.invariant in
    let is = laid_here turn.gives inv.0 in
    let first = first_here c.loop-l.iterator.0 turn.gives in
    let told = c.write_pipe-head.ensures in
    let table-3 = c.friction-friction.ensures in
    let l = laid_of c.in-Some.l in
    rw turn.gives.on (
      along turn inv.0,
      carried_on _ _ _ table-3 l inv.1 is first told.0,
      heads_on _ _ _ table-3 l inv.1 is first _ inv.2 told.1,
      filled_pipe _ _ _ _ first inv.3 told.2,
    )

pub write_pipe-head-requires : goal.write_pipe-head-requires
write_pipe-head-requires c =
    let here = within _ c.requires.0 _ (laid_of c.in-Some.l) (laid_here c.in-Some.ensures.steps.gives c.loop-l.invariant.0) in
    record {
      friction_value = rw c.friction-friction.ensures (friction_fits_lem _ c.requires.0, omega (arith, here.reaches_in, friction_length _ c.requires.0));
      reaches_in_bounds = (omega (arith, here.sections_in), omega (arith, here.sections_in));
    }

pub returns : goal.returns
returns c =
    let inv = c.loop-l.invariant in
    rw (sections_passed c.loop-l.iterator.0 inv.0 c.in-None.ensures.steps.gives) (inv.2, inv.3)
