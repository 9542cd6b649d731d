-- The floors are cut to the pipe, and what is counted there is counted of the whole. Assumes nothing.
use Rattle.std.proofs.Common.{ap}
use native.Mathlib.Omega.{arith}
use lib.ListN.{length}
use Rattle.job.proofs.Accepted.{initial_length}
use Rattle.inner_sections.specs.CutPipes.{along}
use Rattle.pipe_layout.specs.Layout.{laid_of}
use Rattle.pipe_layout.proofs.Acceptance.{within, pairs_accepted}
use Rattle.step_check.proofs.CutToPipe.{floored, inner_judged}
use Rattle.step_check.proofs.inner_faults.Goals as goal

pub initial-initial-requires : goal.initial-initial-requires
initial-initial-requires c = pairs_accepted _ c.requires.0.accepted

-- ---- where the pipe lies bounds each place

pub overflow_add-end : goal.overflow_add-end
overflow_add-end c = omega (arith, within _ c.requires.0.accepted _ _ c.requires.1.is)

pub overflow_add-end-2 : goal.overflow_add-end-2
overflow_add-end-2 c = omega (arith, within _ c.requires.0.accepted _ _ c.requires.1.is)

pub overflow_mul-from : goal.overflow_mul-from
overflow_mul-from c = omega (arith, within _ c.requires.0.accepted _ _ c.requires.1.is)

pub overflow_mul-to : goal.overflow_mul-to
overflow_mul-to c = omega (arith, within _ c.requires.0.accepted _ _ c.requires.1.is)

pub slice_bounds-floored-end : goal.slice_bounds-floored-end
slice_bounds-floored-end c = omega (arith, within _ c.requires.0.accepted _ _ c.requires.1.is, initial_length _ c.requires.0.accepted, ap length c.initial-initial.ensures)

-- ---- what is counted

pub invariant_of-floored : goal.invariant_of-floored
invariant_of-floored c = record { floored = rw (c.cut-cut.ensures.count, c.initial-initial.ensures) (floored _ _ _ c.requires.0 (laid_of c.args.l) c.requires.1) }

pub returns : goal.returns
returns c =
    let pipe = c.cut-cut.result in (
      omega (arith, c.faults.ensures.0, c.cut-cut.ensures.count),
      inner_judged _ _ _ c.requires.0 (laid_of c.args.l) c.requires.1 c.initial-initial.ensures (along pipe) pipe.s c.cut-cut.ensures.count c.cut-cut.ensures.inner c.faults.result c.faults.ensures.1,
    )
