use mathlib.Core.Path.{refl}
use native.Mathlib.Omega.{arith}
use Rattle.section.proofs.RowLaws.{stepped_none, stepped_done}
use Rattle.pipe_layout.specs.Layout.{laid_of}
use Rattle.pipe_layout.proofs.Turns.{along, laid_here, laid_by_number, sections_passed, first_here}
use Rattle.step_commit.proofs.WholePipe.{pipe_more}
use Rattle.step_commit.proofs.commit.Goals as goal

pub each_pipe-l-items-requires : goal.each_pipe-l-items-requires
each_pipe-l-items-requires c = c.requires.lent.0.accepted

pub loop-l-init : goal.loop-l-init
loop-l-init c =
    rw (c.into_iter-l-iterator.ensures.into_iter_gives, c.each_pipe-l-items.ensures.1) (c.each_pipe-l-items.ensures.0, λ nodes e. stepped_none)

pub commit_pipe-requires : goal.commit_pipe-requires
commit_pipe-requires c = record {
  lent = (
    record { accepted = c.requires.lent.0.accepted; heads_long = omega (arith, c.requires.lent.0.heads_long); flows_long = omega (arith, c.requires.lent.0.flows_long) },
    record { number = _; is = laid_here c.in-Some.ensures.steps.gives c.loop-l.invariant.0 },
    omega (arith, c.in-Some.ensures.steps.gives.present, c.loop-l.invariant.0.counted),
  );
  job_in_bounds = (omega arith, omega arith);
}

pub loop-l-preserved : goal.loop-l-preserved
loop-l-preserved c =
    let a = c.args in
    let turn = c.in-Some.ensures.steps in
    let inv = c.loop-l.invariant in
    rw turn.gives.on (
      along turn inv.0,
      λ nodes e.
          pipe_more a.job.now nodes a.heads.now a.flows.now a.spare.now e _ (laid_of c.in-Some.l) (laid_by_number turn.gives inv.0)
          (first_here c.loop-l.iterator.0 turn.gives) (inv.1 nodes e) c.commit_pipe.ensures refl,
    )

pub returns : goal.returns
returns c nodes e =
    stepped_done (c.loop-l.invariant.1 nodes e) _ (sections_passed c.loop-l.iterator.0 c.loop-l.invariant.0 c.in-None.ensures.steps.gives)
