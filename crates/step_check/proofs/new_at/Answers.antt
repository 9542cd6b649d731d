-- An end is read out of the spare, an inner section is worked out from rows cut to the pipe. Assumes nothing.
use Rattle.std.proofs.Common.{◌≡◌, sym, ap, ◌∙◌, suc, ◌-◌, ◌*◌}
use native.Mathlib.Omega.{arith}
use Rattle.pipe_layout.specs.Layout.{laid_of}
use Rattle.pipe_layout.proofs.Acceptance.{within}
use Rattle.step_check.specs.BySpare.{new_by_spare}
use Rattle.step_check.proofs.BySpare.{start_new, inner_new, finish_new}
use Rattle.step_check.proofs.new_at.Goals as goal

pub returns-then-i-eq0 : goal.returns-then-i-eq0
returns-then-i-eq0 c =
    let a = c.args in
    c.end_at.ensures
    ∙ start_new a.job.now (laid_of a.l) a.spare.now _ a.heads.now a.flows.now
    ∙ ap (new_by_spare a.job.now (laid_of a.l) a.spare.now _ a.heads.now a.flows.now) (sym c.if-i-eq0.true)

pub returns-then-i-l : goal.returns-then-i-l
returns-then-i-l c =
    let a = c.args in
    c.end_at-then-i-l.ensures
    ∙ finish_new a.job.now (laid_of a.l) a.spare.now _ a.heads.now a.flows.now (within _ c.requires.0.accepted _ _ c.requires.1.is).joined.has_reach
    ∙ ap (new_by_spare a.job.now (laid_of a.l) a.spare.now _ a.heads.now a.flows.now) (sym c.if-i-l.true)

-- an inner section
pub returns : goal.returns
returns c =
    let a = c.args in
    let pipe = c.cut.result in
    let l = laid_of a.l in
    let e : suc (a.i - 1) ≡ a.i = omega (arith, c.if-i-eq0.false) in
    c.inner_at.ensures
    ∙ c.cut.ensures.inner (a.i - 1) (omega (arith, c.if-i-eq0.false, c.if-i-l.false, c.requires.2))
    ∙ inner_new a.job.now l a.spare.now (a.p * 4) a.heads.now a.flows.now (a.i - 1) (omega (arith, c.if-i-eq0.false, c.if-i-l.false, c.requires.2))
    ∙ ap (new_by_spare a.job.now l a.spare.now (a.p * 4) a.heads.now a.flows.now) e
