use mathlib.Core.Path.{◌≡◌, refl}
use native.Mathlib.Numerals.{add-one}
use native.Mathlib.Omega.{arith}
use Rattle.loops.specs.Loops.{all_below}
use Rattle.chain_heads.proofs.HeadLaws.{along_none, along_more, asked_more}
use Rattle.chain_heads.proofs.judge_pipe.Goals as goal

pub loop-i-init : goal.loop-i-init
unfolding all_below
loop-i-init c = (refl, along_none _ _ _ _)

pub loop-i-preserved : goal.loop-i-preserved
loop-i-preserved c =
    let inv = c.loop-i.invariant in
    (asked_more _ _ _ inv.1 inv.0 c.head_fits-fits.ensures, along_more _ _ _ _ _ inv.1 c.head_past-next.ensures)

pub returns : goal.returns
returns c =
    let inv = c.loop-i.invariant in
    let end : c.loop-i.i ≡ c.args.l.reaches = omega arith in
    let passed = rw end at inv.0 in
    let last = rw end at inv.1 in
    (last, rw (← add-one c.args.l.reaches) (asked_more _ _ _ last passed c.head_fits-fits-2.ensures))
