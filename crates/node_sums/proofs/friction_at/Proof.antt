-- `node_sums::friction_at` meets its contract: an accepted job has an R in table 3 for each reach. Assumes nothing.
use mathlib.Core.Path.{◌∙◌}
use native.Mathlib.Omega.{arith}
use Rattle.job.specs.Job.{friction_at}
use Rattle.job.specs.Format.{job_of}
use Rattle.job.proofs.Accepted.{friction_fits_lem}
use Rattle.pipe_layout.proofs.Acceptance.{pairs_accepted, friction_length}
use Rattle.node_sums.proofs.friction_at.Statement.{statement}
use Rattle.node_sums.proofs.friction_at.Tie as tie

r-at-requires : tie.Need-r_at-requires
r-at-requires c κs =
    let pre = c.before.before.requires in
    rw c.friction.ensures (friction_fits_lem _ pre.0, omega (arith, friction_length _ pre.0))

returns : tie.Need-returns
unfolding friction_at job_of
returns c = c.r_at.ensures ∙ rw c.before.friction.ensures

pub friction_at_spec : {M : Type 1} → statement M
friction_at_spec = tie.close (tie.spec (λ c κs. pairs_accepted _ c.before.requires.0) r-at-requires returns)
