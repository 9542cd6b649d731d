-- `step_commit::commit_inner` meets its contract: the rows are cut to the pipe, overwritten, and put back. Assumes nothing.
use mathlib.Core.Path.{ap}
use native.Mathlib.Omega.{arith}
use lib.ListN.{length}
use borrow.Author.Rules.{rules}
use Rattle.recurrence.specs.Step.{raised, lowered}
use Rattle.section.specs.SectionRows.{keep_new}
use Rattle.pipe_layout.specs.Layout.{laid_of}
use Rattle.pipe_layout.proofs.Acceptance.{Within, within, pairs_accepted, friction_length}
use Rattle.step_check.proofs.CutToPipe.{cut_length, cut_to_pipe, put_back}
use Rattle.step_commit.proofs.commit_inner.Statement.{statement}
use Rattle.step_commit.proofs.commit_inner.Tie as tie

-- where the pipe lies
here : (c : tie.Start) → Within c.args.job.now c.requires.0.0.accepted c.requires.0.1.number (laid_of c.args.l)
here c = within _ c.requires.0.0.accepted _ _ c.requires.0.1.is

-- the places, back to the start
abbrev start_of : tie.After-slice_known-4-1 → tie.Start
start_of c = c.before.before.before.before.before

abbrev cut-from : tie.After-struct_known-3-1 → tie.After-slice_known-4-1
cut-from c = c.before.before.before.before

part-commit-end : tie.Need-slice_bounds-commit-end
part-commit-end c =
    let read : tie.After-friction-friction = c.before.before.before in
    let s = start_of read.before in
    omega (arith, here s, friction_length _ s.requires.0.0.accepted, ap length read.friction-friction.ensures)

commit-requires : tie.Need-commit-requires
commit-requires c κs =
    let cut : tie.After-struct_known-3-1 = c.before.before.before.before.before in
    let read : tie.After-friction-friction = cut.before.before.before in
    let s = start_of read.before in
    let is = s.requires.0.1 in
    let heads = s.args.heads.now in
    let n = cut_length _ heads s.args.flows.now s.requires.0.0 (laid_of s.args.l) is in
    let long = n heads s.requires.0.0.heads_long in (
      rw read.friction-friction.ensures (cut_to_pipe _ _ _ s.requires.0.0 (laid_of s.args.l) is),
      (
        omega (arith, n s.args.highest.now s.requires.1.0),
        omega (arith, n s.args.lowest.now s.requires.1.1),
      ),
    )

returns : tie.Need-returns
returns c =
    let back : tie.After-flows-1 = c.before.before.before.before.before in
    let written : tie.After-commit = back.before.before.before in
    let cut : tie.After-struct_known-3-1 = written.before.before.before.before.before.before in
    let read : tie.After-friction-friction = cut.before.before.before in
    let s = start_of read.before in
    let e = rw read.friction-friction.ensures at written.commit.ensures in
    let job = s.args.job.now in
    let heads = s.args.heads.now in
    let flows = s.args.flows.now in
    let lent = s.requires.0.0 in
    let l = laid_of s.args.l in
    let is = s.requires.0.1 in (
      put_back job heads flows lent l is keep_new (λ x. x.head) heads lent.heads_long e.0,
      put_back job heads flows lent l is keep_new (λ x. x.flow) flows lent.flows_long e.1,
      put_back job heads flows lent l is raised (λ x. x.head) s.args.highest.now s.requires.1.0 e.2,
      put_back job heads flows lent l is lowered (λ x. x.head) s.args.lowest.now s.requires.1.1 e.3,
    )

pub commit_inner_spec : {M : Type 1} → statement M
commit_inner_spec =
    tie.close
    (tie.spec
    (λ c κs. pairs_accepted _ (start_of c).requires.0.0.accepted)
    (λ c. omega (arith, here (start_of c.before.before)))
    (λ c. omega (arith, here (start_of c.before.before.before)))
    (λ c. omega (arith, here (start_of c.before.before.before)))
    (λ c. omega (arith, here (start_of (cut-from c))))
    (λ c. omega (arith, here (start_of (cut-from c))))
    (λ c. search rules)
    (λ c. search rules)
    part-commit-end
    (λ c. omega (arith, here (start_of (cut-from c.before))))
    (λ c. search rules)
    (λ c. search rules)
    (λ c. let s = start_of (cut-from c.before) in omega (arith, here s, s.requires.0.0.heads_long))
    (λ c. omega (arith, here (start_of (cut-from c.before.before))))
    (λ c. search rules)
    (λ c. search rules)
    (λ c. let s = start_of (cut-from c.before.before) in omega (arith, here s, s.requires.0.0.flows_long))
    (λ c. omega (arith, here (start_of (cut-from c.before.before.before))))
    (λ c. search rules)
    (λ c. search rules)
    (λ c. let s = start_of (cut-from c.before.before.before) in omega (arith, here s, s.requires.1.0))
    (λ c. omega (arith, here (start_of (cut-from c.before.before.before.before))))
    (λ c. search rules)
    (λ c. search rules)
    (λ c. let s = start_of (cut-from c.before.before.before.before) in omega (arith, here s, s.requires.1.1))
    commit-requires
    (λ c. search rules)
    (λ c. search rules)
    (λ c. search rules)
    (λ c. search rules)
    returns)
