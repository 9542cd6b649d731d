-- `node_sums::k_at_start` meets its contract: it reads section 1 and the first reach of the pipe. Assumes nothing.
use mathlib.Core.Path.{◌≡◌, ap, ◌∙◌}
use Prim.Native.Nat.{◌+◌}
use native.Mathlib.Omega.{arith}
use borrow.Author.Rules.{rules}
use Rattle.wave.specs.Wave.{start_k}
use Rattle.job.specs.Job.{friction_at}
use Rattle.job.specs.Format.{job_of}
use Rattle.recurrence.specs.Step.{k_at_start}
use Rattle.pipe_layout.specs.Layout.{laid_of}
use Rattle.pipe_layout.proofs.Acceptance.{Within, within}
use Rattle.node_sums.proofs.AlongRows.{along_read}
use Rattle.node_sums.proofs.k_at_start.Statement.{statement}
use Rattle.node_sums.proofs.k_at_start.Tie as tie

-- the function's entry
abbrev start : tie.After-struct_known-1 → tie.Start
start c = c.before.before.before.before

-- where the pipe lies
here : (c : tie.After-struct_known-1) → Within (start c).args.job.now (start c).requires.0.accepted (start c).requires.1.number (laid_of (start c).args.l)
here c = within _ (start c).requires.0.accepted _ _ (start c).requires.1.is

returns : tie.Need-returns
unfolding k_at_start
returns c =
    let read : tie.After-friction_at = c.before.before.before in
    let begin : tie.After-struct_known-1 = read.before in
    let args = (start begin).args in
    let reach : args.l.first_reach ≡ args.l.first_reach + 0 = omega arith in
    along_read start_k args.job.now args.heads.now args.flows.now (laid_of args.l) 0 1 (start begin).requires.0 (omega (arith, here begin))
    (read.friction_at.ensures ∙ ap (friction_at (job_of args.job.now)) reach) c.start_k.ensures

pub k_at_start_spec : {M : Type 1} → statement M
k_at_start_spec =
    tie.close
    (tie.spec
    (λ c. omega (arith, here c))
    (λ c κs. ((start c).requires.0.accepted, omega (arith, here c)))
    (λ c. omega (arith, here c.before))
    (λ c. omega (arith, here c.before.before, (start c.before.before).requires.0.heads_long))
    (λ c. omega (arith, here c.before.before))
    (λ c. omega (arith, here c.before.before.before, (start c.before.before.before).requires.0.flows_long))
    (λ c κs. search rules)
    returns)
