-- `valve_setting::set_or_none` meets its contract: the verdict is that of the definition, and the rows are written after it, where it is a yes. Assumes
-- nothing.
use Rattle.std.proofs.Common.{refl, sym, ap, ap₂, ◌∙◌}
use Rattle.job.specs.Format.{job_of}
use Rattle.setting.specs.Setting.{coefficient_for, coefficient}
use Rattle.valve_setting.proofs.CallLaws.{verdict_is, none_left, set_left}
use Rattle.valve_setting.proofs.set_or_none.Goals as goal

pub returns-then-not-given : goal.returns-then-not-given
returns-then-not-given c =
    let a = c.args in
    let verdict =
    verdict_is (job_of a.job.now) a.level a.q c.judge-judged.ensures c.outlet_head-b.ensures c.coefficient_for-a.ensures c.is_finite.ensures
    c.is_finite-2.ensures in
    none_left _ _ _ _ _ (sym verdict ∙ c.if-not-given.true) refl

pub returns : goal.returns
returns c =
    let a = c.args in
    let verdict =
    verdict_is (job_of a.job.now) a.level a.q c.judge-judged.ensures c.outlet_head-b.ensures c.coefficient_for-a.ensures c.is_finite.ensures
    c.is_finite-2.ensures in
    let given =
    ap coefficient (c.coefficient_for-a.ensures ∙ ap₂ (coefficient_for a.q) c.judge-judged.ensures.0 c.outlet_head-b.ensures) in
    let long = c.requires.job_in_bounds in
    set_left _ a.level a.q _ _ long.0 long.1 (sym verdict ∙ c.if-not-given.false) c.write.ensures.0 c.write.ensures.1 given
