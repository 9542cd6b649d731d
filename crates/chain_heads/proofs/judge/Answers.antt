use mathlib.Core.Path.{sym}
use native.Mathlib.Omega.{arith}
use Rattle.loops.proofs.All.{all_none}
use Rattle.job.proofs.Accepted.{friction_length, initial_length, friction_fits_lem, initial_fits_lem}
use Rattle.pipe_layout.specs.Layout.{laid_of}
use Rattle.pipe_layout.proofs.Acceptance.{pairs_accepted, within}
use Rattle.pipe_layout.proofs.Turns.{along, laid_here, sections_passed, first_here}
use Rattle.setting.specs.Setting.{last_head}
use Rattle.chain_heads.proofs.HeadLaws.{section_least, carried_none, carried_on, tested_on}
use Rattle.chain_heads.proofs.judge.Goals as goal

pub friction-friction-requires : goal.friction-friction-requires
friction-friction-requires c = pairs_accepted _ c.requires

pub initial-initial-requires : goal.initial-initial-requires
initial-initial-requires c = pairs_accepted _ c.requires

pub loop-l-init : goal.loop-l-init
loop-l-init c =
    rw (c.into_iter-l-iterator.ensures.into_iter_gives, c.each_pipe-l-items.ensures.1) (c.each_pipe-l-items.ensures.0, carried_none _ _ _, sym (all_none _))

-- It stands before the needs of the turn's calls, so that of another head the prover tells this first.
pub loop-l-preserved : goal.loop-l-preserved
loop-l-preserved c =
    let turn = c.in-Some.ensures.steps in
    let inv = c.loop-l.invariant in
    let is = laid_here turn.gives inv.0 in
    let first = first_here c.loop-l.iterator.0 turn.gives in
    let told = c.judge_pipe-judged.ensures in
    let table-3 = c.friction-friction.ensures in
    rw turn.gives.on (
      along turn inv.0,
      carried_on _ _ _ table-3 (laid_of c.in-Some.l) inv.1 is first told.0,
      tested_on _ _ _ table-3 (laid_of c.in-Some.l) inv.1 is first c.initial-initial.ensures inv.2 told.1,
    )

pub judge_pipe-judged-requires : goal.judge_pipe-judged-requires
judge_pipe-judged-requires c =
    let here = within _ c.requires _ (laid_of c.in-Some.l) (laid_here c.in-Some.ensures.steps.gives c.loop-l.invariant.0) in
    record {
      friction_value = rw c.friction-friction.ensures (friction_fits_lem _ c.requires, omega (arith, here.reaches_in, friction_length _ c.requires));
      initial_value = rw c.initial-initial.ensures (initial_fits_lem _ c.requires, omega (arith, here.sections_in, initial_length _ c.requires));
    }

pub returns : goal.returns
unfolding last_head
returns c =
    let inv = c.loop-l.invariant in
    let all = sections_passed c.loop-l.iterator.0 inv.0 c.in-None.ensures.steps.gives in
    rw all (inv.1.last (rw (← all) (section_least _ c.requires)), inv.2)
