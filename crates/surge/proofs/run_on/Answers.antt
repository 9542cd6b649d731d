-- `surge::run_on` meets its contract: the questions to a job, then 20, 21 and 22, then the steps. Assumes nothing.
use Rattle.std.proofs.Common.{◌≡◌, sym, ap, ◌∙◌, not, rules, Err}
use Rattle.loops.proofs.Tests.{is_yes, is_no}
use Rattle.recurrence.specs.Calls.{heads, flows, highest, lowest}
use Rattle.time_step.proofs.RunLaws.{ready_enough}
use Rattle.time_step.proofs.StepInRows.{pairs_long}
use Rattle.surge.proofs.CallLaws.{run_beyond, run_unacceptable, run_ran, limit_kept}
use Rattle.surge.proofs.run_on.Goals as goal

pub returns-in_err-n : goal.returns-in_err-n
returns-in_err-n c =
    let back : c.from_residual.result ≡ Err c.in_err-n.field-0.0 = search rules in
    rw back (c.in_err-n.ensures.1 _ _)

pub acceptable-fit-requires-clause-accepted : goal.acceptable-fit-requires-clause-accepted
acceptable-fit-requires-clause-accepted c = (c.in_ok-n.ensures.0.accepted, c.in_ok-n.ensures.1)

pub acceptable-fit-requires-clause-n_in_bounds : goal.acceptable-fit-requires-clause-n_in_bounds
acceptable-fit-requires-clause-n_in_bounds c =
    let long = ready_enough c.in_ok-n.ensures.0 in
    rw c.in_ok-n.ensures.1 (long heads, long flows, long highest, long lowest)

pub acceptable-fit-requires-clause-job_in_bounds : goal.acceptable-fit-requires-clause-job_in_bounds
acceptable-fit-requires-clause-job_in_bounds c = pairs_long c.in_ok-n.ensures.0

pub returns-then-not-limit : goal.returns-then-not-limit
returns-then-not-limit c = run_beyond _ _ c.in_ok-n.ensures.0 _ _ (is_no c.within_limit-limit.ensures (ap not c.if-not-limit.true))

pub returns-then-not-fit : goal.returns-then-not-fit
returns-then-not-fit c =
    let within = is_yes c.within_limit-limit.ensures (ap not c.if-not-limit.false) in
    run_unacceptable _ _ c.in_ok-n.ensures.0 _ _ within (is_no (c.acceptable-fit.ensures _) (ap not c.if-not-fit.true))

pub carry_on-requires : goal.carry_on-requires
carry_on-requires c = (c.in_ok-n.ensures.0, limit_kept _ _ (is_yes c.within_limit-limit.ensures (ap not c.if-not-limit.false)))

pub returns : goal.returns
returns c =
    let within = is_yes c.within_limit-limit.ensures (ap not c.if-not-limit.false) in
    c.carry_on.ensures ∙ sym (run_ran _ _ c.in_ok-n.ensures.0 _ _ within (is_yes (c.acceptable-fit.ensures _) (ap not c.if-not-fit.false)))
