-- `step_check::floor_of` meets its contract: table 4 has a finite floor for each section. Assumes nothing.
use native.Mathlib.Omega.{arith}
use Rattle.job.proofs.Accepted.{initial_length, initial_fits_lem}
use Rattle.section.proofs.Soundness.{floor_finite}
use Rattle.pipe_layout.proofs.Acceptance.{pairs_accepted}
use Rattle.step_check.proofs.floor_of.Statement.{statement}
use Rattle.step_check.proofs.floor_of.Tie as tie

floor-at-requires : tie.Need-floor_at-requires
floor-at-requires c κs =
    let s = c.before.before in
    let long = initial_length _ s.requires.0 in
    rw c.initial.ensures (omega (arith, s.requires.1), floor_finite _ s.args.s (omega (arith, s.requires.1)) (initial_fits_lem _ s.requires.0))

returns : tie.Need-returns
returns c = rw c.before.initial.ensures at c.floor_at.ensures

pub floor_of_spec : {M : Type 1} → statement M
floor_of_spec = tie.close (tie.spec (λ c κs. pairs_accepted _ c.before.requires.0) floor-at-requires returns)
