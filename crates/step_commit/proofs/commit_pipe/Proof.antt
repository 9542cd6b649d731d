-- `step_commit::commit_pipe` meets its contract: the inner sections, then the start and then the finish out of the spare are the whole pipe. Assumes
-- nothing.
use mathlib.Core.Path.{refl}
use native.Mathlib.Omega.{arith}
use borrow.Author.Rules.{rules}
use Rattle.pipe_layout.specs.Layout.{laid_of}
use Rattle.pipe_layout.proofs.Acceptance.{Within, within}
use Rattle.step_commit.proofs.WholePipe.{whole_pipe}
use Rattle.step_commit.proofs.commit_pipe.Statement.{statement}
use Rattle.step_commit.proofs.commit_pipe.Tie as tie

-- where the pipe lies
here : (c : tie.Start) → Within c.args.job.now c.requires.0.0.accepted c.requires.0.1.number (laid_of c.args.l)
here c = within _ c.requires.0.0.accepted _ _ c.requires.0.1.is

-- the places, back to the start
abbrev start_of : tie.After-struct_known-1 → tie.Start
start_of c = let known : tie.After-shared_slice_known-2-1 = c.before.before.before.before.before in known.before.before

abbrev inner-from : tie.After-commit_inner → tie.Start
inner-from c = start_of c.before.before.before.before.before

abbrev inner_of : tie.After-slice_known-8-1 → tie.After-commit_inner
inner_of c = let flows : tie.After-slice_known-6-1 = c.before.before.before.before in flows.before.before.before.before

abbrev start-stored : tie.After-slice_known-12-1 → tie.After-commit_end
start-stored c = let flows : tie.After-slice_known-10-1 = c.before.before.before.before in flows.before.before.before.before

abbrev before-start : tie.After-commit_end → tie.After-commit_inner
before-start c = inner_of c.before.before.before.before.before

abbrev finish-stored : tie.After-slice_known-16-1 → tie.After-commit_end-2
finish-stored c = let flows : tie.After-slice_known-14-1 = c.before.before.before.before in flows.before.before.before.before

commit-end-requires : tie.Need-commit_end-requires
commit-end-requires c κs =
    let inner = inner_of c.before.before.before.before in
    let s = inner-from inner in
    let u = here s in
    let kept = inner.commit_inner.auto in (
      omega (arith, kept.heads, s.requires.0.0.heads_long),
      omega (arith, kept.flows, s.requires.0.0.flows_long),
      omega (arith, kept.highest, s.requires.1.0),
      omega (arith, kept.lowest, s.requires.1.1),
      omega (arith, s.requires.0.2),
    )

add-commit-end : tie.Need-overflow_add-at
add-commit-end c = let s = inner-from (before-start (start-stored c)) in omega (arith, s.requires.0.2)

commit-end-requires-2 : tie.Need-commit_end-requires-2
commit-end-requires-2 c κs =
    let begun = start-stored c.before.before.before.before in
    let inner = before-start begun in
    let s = inner-from inner in
    let u = here s in
    let kept = inner.commit_inner.auto in
    let still = begun.commit_end.auto in (
      omega (arith, kept.heads, still.heads, s.requires.0.0.heads_long),
      omega (arith, kept.flows, still.flows, s.requires.0.0.flows_long),
      omega (arith, kept.highest, still.highest, s.requires.1.0),
      omega (arith, kept.lowest, still.lowest, s.requires.1.1),
      omega (arith, s.requires.0.2),
    )

returns : tie.Need-returns
returns c =
    let ended = finish-stored c in
    let begun = start-stored ended.before.before.before.before.before in
    let inner = before-start begun in
    let s = inner-from inner in
    whole_pipe s.args.job.now (laid_of s.args.l) s.args.spare.now _ s.args.heads.now s.args.flows.now s.args.highest.now s.args.lowest.now
    (here s).joined.has_reach
    inner.commit_inner.ensures
    begun.commit_end.ensures
    ended.commit_end-2.ensures
    refl

pub commit_pipe_spec : {M : Type 1} → statement M
commit_pipe_spec =
    tie.close
    (tie.spec
    (λ c. omega (arith, here (start_of c)))
    (λ c. search rules)
    (λ c κs. search rules)
    commit-end-requires
    add-commit-end
    commit-end-requires-2
    (λ c. search rules)
    (λ c. search rules)
    (λ c. search rules)
    (λ c. search rules)
    returns)
