-- `surge::carry_on` meets its contract: the rows as the run left them, and the spare cleared. Assumes nothing.
use Rattle.std.proofs.Common.{◌≡◌, arith, Ok}
use Rattle.recurrence.specs.State.{State}
use Rattle.recurrence.specs.Run.{answer_of}
use Rattle.recurrence.specs.Calls.{gathered}
use Rattle.time_step.specs.StepsInRows.{result_of}
use Rattle.time_step.proofs.RunLaws.{ready_enough, ready_kept}
use Rattle.time_step.proofs.StepInRows.{spare_long}
use Rattle.surge.specs.Answers.{paper_answer}
use Rattle.surge.proofs.CallLaws.{stop_told, run_left}
use Rattle.surge.proofs.carry_on.Goals as goal

pub clear_spare-requires : goal.clear_spare-requires
clear_spare-requires c = (c.requires.0.accepted, omega (arith, spare_long c.requires.0, c.run-ended.auto.spare))

pub returns-in_err-ended : goal.returns-in_err-ended
returns-in_err-ended c =
    let n = c.run-ended.new in
    let k = c.run-ended.auto in
    let rows = gathered n.heads n.flows n.highest n.lowest n.speeds n.inflows n.spare in
    let ready = ready_kept rows (k.heads, (k.flows, (k.highest, (k.lowest, (k.speeds, (k.inflows, (k.spare, tt))))))) c.requires.0 in
    let told : (st : State) → paper_answer c.from_residual.result ≡ answer_of (result_of c.run-ended.result st) =
    rw c.in_err-ended.was (stop_told _ c.from_residual.result c.from_residual.ensures.1) in
    run_left _ _ c.requires.0.accepted rows c.run-ended.ensures.rest (ready_enough ready) _ _ c.run-ended.ensures.result_is c.from_residual.result (told _) c.clear_spare.ensures

pub returns : goal.returns
unfolding paper_answer result_of answer_of
returns c =
    let n = c.run-ended.new in
    let k = c.run-ended.auto in
    let rows = gathered n.heads n.flows n.highest n.lowest n.speeds n.inflows n.spare in
    let ready = ready_kept rows (k.heads, (k.flows, (k.highest, (k.lowest, (k.speeds, (k.inflows, (k.spare, tt))))))) c.requires.0 in
    let told : (st : State) → paper_answer (Ok c.in_ok-ended.field-0) ≡ answer_of (result_of c.run-ended.result st) = λ st. rw c.in_ok-ended.was in
    run_left _ _ c.requires.0.accepted rows c.run-ended.ensures.rest (ready_enough ready) _ _ c.run-ended.ensures.result_is (Ok c.in_ok-ended.field-0) (told _) c.clear_spare.ensures
