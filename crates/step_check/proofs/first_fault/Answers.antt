-- `step_check::first_fault` meets its contract: the pipes before this one have shown no fault, so that the first of this one is the first of all.
use Rattle.std.proofs.Common.{◌≡◌, ◌+◌, arith, rules, sym, ap, ◌∙◌, Err}
use Rattle.loops.specs.Loops.{first_below}
use Rattle.loops.proofs.First.{first_none}
use Rattle.recurrence.specs.Scan.{none, earlier}
use Rattle.section.specs.Faults.{first_fault, found_fault}
use Rattle.pipe_layout.specs.Layout.{laid_of}
use Rattle.pipe_layout.proofs.Acceptance.{within}
use Rattle.pipe_layout.proofs.Turns.{along, laid_here, laid_by_number, sections_passed, first_here}
use Rattle.step_check.proofs.FirstFault.{pipe_searched, first_after, first_found}
use Rattle.step_check.proofs.first_fault.Goals as goal

pub each_pipe-l-items-requires : goal.each_pipe-l-items-requires
each_pipe-l-items-requires c = c.requires.0.accepted

pub loop-l-init : goal.loop-l-init
loop-l-init c =
    rw (c.into_iter-l-iterator.ensures.into_iter_gives, c.each_pipe-l-items.ensures.1) (c.each_pipe-l-items.ensures.0, λ nodes e. first_none earlier none _)

pub first_in_pipe-requires : goal.first_in_pipe-requires
first_in_pipe-requires c = (
  c.requires.0,
  record { number = _; is = laid_here c.in-Some.ensures.steps.gives c.loop-l.invariant.0 },
  omega (arith, c.in-Some.ensures.steps.gives.present, c.loop-l.invariant.0.counted),
)

pub returns-in_err-first_in_pipe : goal.returns-in_err-first_in_pipe
unfolding first_fault
returns-in_err-first_in_pipe c =
    let back : c.from_residual.result ≡ Err c.in_err-first_in_pipe.field-0.0 = search rules in
    let gives = c.in-Some.ensures.steps.gives in
    let is = laid_here gives c.loop-l.invariant.0 in
    let first = first_here c.loop-l.iterator.0 gives in
    let here = within _ c.requires.0.accepted _ (laid_of c.in-Some.l) is in
    λ nodes e. rw back (first_found _ _ _ (c.loop-l.invariant.1 nodes e) _ (pipe_searched _ _ _ _ _ e _ _ (laid_by_number gives c.loop-l.invariant.0) first c.in_err-first_in_pipe.ensures) (omega (arith, here.sections_in, first)))

pub loop-l-preserved : goal.loop-l-preserved
loop-l-preserved c =
    let turn = c.in-Some.ensures.steps in
    let inv = c.loop-l.invariant in
    let section = c.loop-l.l-iterator.at.section in
    let more : section + c.in-Some.l.reaches + 1 ≡ section + (c.in-Some.l.reaches + 1) = omega arith in
    rw turn.gives.on (
      along turn inv.0,
      λ nodes e.
          ap (first_below earlier none _) more
          ∙ first_after _ _ _ (inv.1 nodes e) (pipe_searched _ _ _ _ _ e _ _ (laid_by_number turn.gives inv.0) (first_here c.loop-l.iterator.0 turn.gives) c.in_ok-first_in_pipe.ensures),
    )

pub returns : goal.returns
unfolding found_fault first_fault
returns c =
    let all = sections_passed c.loop-l.iterator.0 c.loop-l.invariant.0 c.in-None.ensures.steps.gives in
    λ nodes e. sym (ap (first_below earlier none _) all ∙ c.loop-l.invariant.1 nodes e)
