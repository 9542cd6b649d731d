use native.Mathlib.Omega.{arith}
use Rattle.loops.proofs.Fill.{fill_none, fill_step}
use Rattle.call_rows.proofs.write_initial.Goals as goal

pub loop-s-init : goal.loop-s-init
loop-s-init c = (fill_none _ _ _, fill_none _ _ _, fill_none _ _ _, fill_none _ _ _)

pub head_at-head-requires : goal.head_at-head-requires
head_at-head-requires c = (c.requires.initial_value.0, omega arith)

pub flow_at-flow-requires : goal.flow_at-flow-requires
flow_at-flow-requires c = (c.requires.initial_value.0, omega arith)

pub loop-s-preserved : goal.loop-s-preserved
loop-s-preserved c =
    let i = c.loop-s.invariant in
    let head = c.head_at-head.ensures in
    let flow = c.flow_at-flow.ensures in (
      fill_step _ _ _ i.0 (omega arith) head,
      fill_step _ _ _ i.1 (omega arith) flow,
      fill_step _ _ _ i.2 (omega arith) head,
      fill_step _ _ _ i.3 (omega arith) head,
    )
