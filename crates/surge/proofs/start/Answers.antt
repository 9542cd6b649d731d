-- `surge::start` meets its contract: the questions to a job, then 20, then the start. Assumes nothing.
use Rattle.std.proofs.Common.{◌≡◌, sym, ◌∙◌, rules, Err}
use Rattle.surge.proofs.CallLaws.{start_ran}
use Rattle.surge.proofs.start.Goals as goal

pub returns-in_err-n : goal.returns-in_err-n
returns-in_err-n c =
    let back : c.from_residual.result ≡ Err c.in_err-n.field-0.0 = search rules in
    rw back c.in_err-n.ensures.0

pub returns : goal.returns
returns c = c.begin.ensures ∙ sym (start_ran _ _ c.in_ok-n.ensures.0)
