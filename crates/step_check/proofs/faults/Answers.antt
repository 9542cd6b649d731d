use mathlib.Core.Path.{refl}
use native.Mathlib.Omega.{arith}
use Rattle.loops.specs.Loops.{all_below}
use Rattle.job.specs.Format.{initial_table}
use Rattle.section.specs.Faults.{fault_at, is_sound}
use Rattle.pipe_layout.specs.Layout.{laid_of}
use Rattle.pipe_layout.proofs.Turns.{along, laid_here, laid_by_number, sections_passed, first_here, onward_here}
use Rattle.node_sums.specs.FromRows.{new_section}
use Rattle.step_check.proofs.FaultCount.{pipe_sound, judged_more}
use Rattle.step_check.proofs.faults.Goals as goal

pub each_pipe-l-items-requires : goal.each_pipe-l-items-requires
each_pipe-l-items-requires c = c.requires.0.accepted

pub loop-l-init : goal.loop-l-init
unfolding all_below
loop-l-init c =
    rw (c.into_iter-l-iterator.ensures.into_iter_gives, c.each_pipe-l-items.ensures.1) (c.each_pipe-l-items.ensures.0, omega arith, λ nodes e. refl)

pub inner_faults-within-requires : goal.inner_faults-within-requires
inner_faults-within-requires c = (c.requires.0, record { number = _; is = laid_here c.in-Some.ensures.steps.gives c.loop-l.invariant.0 })

pub end_faults-ends-requires : goal.end_faults-ends-requires
end_faults-ends-requires c = (
  c.requires.0.accepted,
  record { number = _; is = laid_here c.in-Some.ensures.steps.gives c.loop-l.invariant.0 },
  omega (arith, c.in-Some.ensures.steps.gives.present, c.loop-l.invariant.0.counted),
)

pub overflow_add-here : goal.overflow_add-here
overflow_add-here c =
    omega (arith, c.inner_faults-within.ensures.0, c.end_faults-ends.ensures.0, (onward_here c.loop-l.iterator.0 c.in-Some.ensures.steps.gives).low)

pub overflow_add-bad : goal.overflow_add-bad
overflow_add-bad c =
    omega (arith, c.inner_faults-within.ensures.0, c.end_faults-ends.ensures.0, c.loop-l.invariant.1, (onward_here c.loop-l.iterator.0 c.in-Some.ensures.steps.gives).low)

pub loop-l-preserved : goal.loop-l-preserved
loop-l-preserved c =
    let a = c.args in
    let turn = c.in-Some.ensures.steps in
    let inv = c.loop-l.invariant in
    let l = laid_of c.in-Some.l in
    let at = c.loop-l.l-iterator.at in
    let some = (onward_here c.loop-l.iterator.0 turn.gives).here.joined.has_reach in
    rw turn.gives.on (
      along turn inv.0,
      omega (arith, c.inner_faults-within.ensures.0, c.end_faults-ends.ensures.0, inv.1, some),
      λ nodes e.
          judged_more (λ s. is_sound (fault_at (initial_table a.job.now) (new_section a.job.now nodes a.heads.now a.flows.now) s)) at.section l.pipe.reaches c.loop-l.bad _
          (inv.2 nodes e)
          (pipe_sound a.job.now nodes a.heads.now a.flows.now a.spare.now e _ l (laid_by_number turn.gives inv.0) some (first_here c.loop-l.iterator.0 turn.gives) _ _
          c.inner_faults-within.ensures.1 c.end_faults-ends.ensures.1),
    )

pub returns : goal.returns
returns c nodes e =
    rw (sections_passed c.loop-l.iterator.0 c.loop-l.invariant.0 c.in-None.ensures.steps.gives) (c.loop-l.invariant.2 nodes e)
