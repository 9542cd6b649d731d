use mathlib.Core.Path.{◌≡◌, refl}
use native.Mathlib.Omega.{arith}
use Rattle.loops.proofs.Fill.{fill_none, fill_step}
use Rattle.chain_heads.proofs.HeadLaws.{along_none, along_more}
use Rattle.chain_heads.proofs.write_pipe.Goals as goal

pub loop-i-init : goal.loop-i-init
loop-i-init c = (fill_none _ _ _, fill_none _ _ _, along_none _ _ _ _)

pub loop-i-preserved : goal.loop-i-preserved
loop-i-preserved c =
    let inv = c.loop-i.invariant in
    (fill_step _ _ _ inv.0 refl inv.2, fill_step _ _ _ inv.1 refl refl, along_more _ _ _ _ _ inv.2 c.head_past-next.ensures)

pub returns : goal.returns
returns c =
    let inv = c.loop-i.invariant in
    let end : c.loop-i.i ≡ c.args.l.reaches = omega arith in
    rw (← end) (inv.2, fill_step _ _ _ inv.0 (rw end refl) inv.2, fill_step _ _ _ inv.1 (rw end refl) refl)
