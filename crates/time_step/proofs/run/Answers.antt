-- `time_step::run` meets its contract: a turn does one step more, and a fault or the last turn ends the run. Assumes nothing.
use Rattle.std.proofs.Common.{◌≡◌, refl, ◌∙◌, rules, arith, Err}
use Rattle.time_step.proofs.RunLaws.{ready_kept, way_none, way_next, way_stop}
use Rattle.time_step.proofs.run.Goals as goal

pub loop-i-init : goal.loop-i-init
loop-i-init c = (way_none _ _ _, refl, refl, refl)

pub one_step-requires-clause-ready : goal.one_step-requires-clause-ready
one_step-requires-clause-ready c =
    let k = c.loop-i.auto in
    let ready = ready_kept _ (k.heads, (k.flows, (k.highest, (k.lowest, (k.speeds, (k.inflows, (k.spare, tt))))))) c.requires.0 in
    (ready, omega (arith, c.requires.1), c.constant_sums-sums.ensures)

pub returns-in_err-one_step : goal.returns-in_err-one_step
returns-in_err-one_step c =
    let back : c.from_residual.result ≡ Err c.in_err-one_step.field-0.0 = search rules in
    rw back (way_stop _ _ _ c.loop-i.invariant.0 (rw c.in_err-one_step.was at c.one_step.ensures) (omega arith))

pub loop-i-preserved : goal.loop-i-preserved
loop-i-preserved c =
    let kept = c.one_step.auto in
    let inv = c.loop-i.invariant in
    (way_next _ _ _ inv.0 (rw c.in_ok-one_step.was at c.one_step.ensures), kept.values ∙ inv.1, kept.nodes ∙ inv.2, kept.entering ∙ inv.3)

pub returns : goal.returns
returns c =
    let all : c.loop-i.i ≡ c.args.count = omega arith in
    rw all at c.loop-i.invariant.0
