-- The rows and the friction are cut to the pipe, and what is worked out there is that of the whole. Assumes nothing.
use Rattle.std.proofs.Common.{ap}
use native.Mathlib.Omega.{arith}
use lib.ListN.{length}
use Rattle.pipe_layout.specs.Layout.{laid_of}
use Rattle.pipe_layout.proofs.Acceptance.{within, pairs_accepted, friction_length}
use Rattle.step_check.proofs.CutToPipe.{cut_length, cut_to_pipe, cut_is}
use Rattle.step_check.proofs.cut.Goals as goal

pub friction-friction-requires : goal.friction-friction-requires
friction-friction-requires c = pairs_accepted _ c.requires.0.accepted

-- ---- where the pipe lies bounds each place

pub overflow_mul-a : goal.overflow_mul-a
overflow_mul-a c = omega (arith, within _ c.requires.0.accepted _ _ c.requires.1.is)

pub overflow_mul-b : goal.overflow_mul-b
overflow_mul-b c = omega (arith, within _ c.requires.0.accepted _ _ c.requires.1.is)

pub overflow_add-b : goal.overflow_add-b
overflow_add-b c = omega (arith, within _ c.requires.0.accepted _ _ c.requires.1.is)

pub overflow_add-end : goal.overflow_add-end
overflow_add-end c = omega (arith, within _ c.requires.0.accepted _ _ c.requires.1.is)

pub overflow_add-end-2 : goal.overflow_add-end-2
overflow_add-end-2 c = omega (arith, within _ c.requires.0.accepted _ _ c.requires.1.is)

pub offset_bounds-heads-first : goal.offset_bounds-heads-first
offset_bounds-heads-first c = omega (arith, within _ c.requires.0.accepted _ _ c.requires.1.is)

pub slice_bounds-new-end : goal.slice_bounds-new-end
slice_bounds-new-end c = omega (arith, within _ c.requires.0.accepted _ _ c.requires.1.is, friction_length _ c.requires.0.accepted, ap length c.friction-friction.ensures)

pub slice_bounds-new-end-2 : goal.slice_bounds-new-end-2
slice_bounds-new-end-2 c = omega (arith, within _ c.requires.0.accepted _ _ c.requires.1.is, c.requires.0.heads_long)

pub slice_bounds-new-end-3 : goal.slice_bounds-new-end-3
slice_bounds-new-end-3 c = omega (arith, within _ c.requires.0.accepted _ _ c.requires.1.is, c.requires.0.flows_long)

-- ---- what is cut

pub new-requires : goal.new-requires
new-requires c = rw c.friction-friction.ensures (cut_to_pipe _ _ _ c.requires.0 (laid_of c.args.l) c.requires.1)

pub returns-clause-count : goal.returns-clause-count
returns-clause-count c = omega (arith, c.new.ensures.count, cut_length _ _ _ c.requires.0 (laid_of c.args.l) c.requires.1 c.args.heads.now c.requires.0.heads_long)

pub returns-clause-inner : goal.returns-clause-inner
returns-clause-inner c = rw (c.new.ensures.along, c.new.ensures.s, c.friction-friction.ensures) (cut_is _ _ _ c.requires.0 (laid_of c.args.l) c.requires.1)
