-- `node_sums::k_at_finish` meets its contract: it reads the last reach of the pipe and the section above its last. Assumes nothing.
use Prim.Native.Nat.{◌-◌}
use native.Mathlib.Numerals.{sub-one}
use native.Mathlib.Omega.{arith}
use borrow.Author.Rules.{rules}
use Rattle.wave.specs.Wave.{finish_k}
use Rattle.recurrence.specs.Step.{k_at_finish}
use Rattle.pipe_layout.specs.Layout.{laid_of}
use Rattle.pipe_layout.proofs.Acceptance.{Within, within}
use Rattle.node_sums.proofs.AlongRows.{along_read}
use Rattle.node_sums.proofs.k_at_finish.Statement.{statement}
use Rattle.node_sums.proofs.k_at_finish.Tie as tie

-- the function's entry
abbrev start : tie.After-struct_known-1 → tie.Start
start c = c.before.before.before.before

-- where the pipe lies
here : (c : tie.After-struct_known-1) → Within (start c).args.job.now (start c).requires.0.accepted (start c).requires.1.number (laid_of (start c).args.l)
here c = within _ (start c).requires.0.accepted _ _ (start c).requires.1.is

returns : tie.Need-returns
unfolding k_at_finish
returns c =
    let read : tie.After-friction_at = c.before.before.before in
    let begin : tie.After-struct_known-1 = read.before.before.before in
    let args = (start begin).args in
    let i = args.l.reaches - 1 in
    rw (← sub-one args.l.reaches)
    (along_read finish_k args.job.now args.heads.now args.flows.now (laid_of args.l) i i (start begin).requires.0 (omega (arith, here begin))
    read.friction_at.ensures c.finish_k.ensures)

pub k_at_finish_spec : {M : Type 1} → statement M
k_at_finish_spec =
    tie.close
    (tie.spec
    (λ c. omega (arith, here c))
    (λ c. omega (arith, here c.before))
    (λ c. omega (arith, here c.before.before))
    (λ c κs. ((start c.before.before).requires.0.accepted, omega (arith, here c.before.before)))
    (λ c. omega (arith, here c.before.before.before))
    (λ c. let begin = c.before.before.before.before in omega (arith, here begin, (start begin).requires.0.heads_long))
    (λ c. omega (arith, here c.before.before.before.before))
    (λ c. let begin = c.before.before.before.before.before in omega (arith, here begin, (start begin).requires.0.flows_long))
    (λ c κs. search rules)
    returns)
