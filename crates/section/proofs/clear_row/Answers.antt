use mathlib.Core.Path.{refl}
use native.Mathlib.Omega.{arith}
use Rattle.loops.proofs.Fill.{fill_none, fill_step}
use Rattle.section.proofs.clear_row.Goals as goal

pub loop-at-init : goal.loop-at-init
loop-at-init c = fill_none _ _ _

pub loop-at-preserved : goal.loop-at-preserved
loop-at-preserved c = fill_step _ _ _ c.loop-at.invariant (omega arith) refl
