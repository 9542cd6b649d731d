-- The walk goes past the pipe that it gives, and no count comes near its bound.
use mathlib.Core.Path.{refl}
use native.Mathlib.Omega.{arith}
use Rattle.job.specs.Walk.{past}
use Rattle.pipe_layout.specs.EachPipe.{UnderWay}
use Rattle.pipe_layout.proofs.Acceptance.{few_pipes, onward}
use Rattle.pipe_layout.proofs.PipesIterator.next.Goals as goal

pub past-self-requires : goal.past-self-requires
past-self-requires c =
    let on = onward _ c.requires.accepted _ c.numbered_at-l.result c.requires.walked c.numbered_at-l.ensures.0 in
    omega (arith, on.low)

pub returns-clause-steps : goal.returns-clause-steps
returns-clause-steps c =
    let here = (onward _ c.requires.accepted _ c.numbered_at-l.result c.requires.walked c.numbered_at-l.ensures.0).here in
    record {
      same_job = refl;
      same_count = refl;
      gives = record {
        laid = c.numbered_at-l.ensures.0;
        numbered = c.numbered_at-l.ensures.1;
        present = omega arith;
        few = omega (arith, few_pipes _ c.requires.accepted);
        start_low = here.start_low;
        finish_low = here.finish_low;
        on = c.past-self.ensures;
      };
    }

pub returns-clause-goes : goal.returns-clause-goes
returns-clause-goes c =
    let walked = (onward _ c.requires.accepted _ c.numbered_at-l.result c.requires.walked c.numbered_at-l.ensures.0).walked in
    let further : UnderWay record { job = c.args.self.now.job; count = c.args.self.now.count; at = past c.args.self.now.at c.numbered_at-l.result.reaches } =
    record { accepted = c.requires.accepted; counted = c.requires.counted; within = omega arith; walked = walked } in
    rw c.past-self.ensures record { on = λ f. (further, tt, omega arith); keeps = further; rests = λ f. f }
