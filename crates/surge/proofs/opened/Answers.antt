-- `surge::opened` meets its contract: what is learnt from the answer to the questions to a job and to 20. Assumes nothing.
use Rattle.std.proofs.Common.{◌≡◌, rules, Err}
use Rattle.recurrence.specs.Calls.{gathered}
use Rattle.surge.specs.declared.answer.Halt.TheVariants.{Refused}
use Rattle.surge.proofs.CallLaws.{opened, start_refused, run_refused}
use Rattle.surge.proofs.opened.Goals as goal

pub returns-in_err-held : goal.returns-in_err-held
returns-in_err-held c =
    let a = c.args in
    let rows = gathered a.heads.now a.flows.now a.highest.now a.lowest.now a.speeds.now a.inflows.now a.spare.now in
    let back : c.from_residual.result ≡ Err (Refused c.in_err-held.field-0.0) = search rules in
    rw back (start_refused a.job.now rows _ c.in_err-held.ensures, λ m N. run_refused a.job.now rows m N _ c.in_err-held.ensures)

pub returns : goal.returns
returns c =
    let a = c.args in
    let rows = gathered a.heads.now a.flows.now a.highest.now a.lowest.now a.speeds.now a.inflows.now a.spare.now in
    opened a.job.now rows _ _ c.in_ok-held.ensures
