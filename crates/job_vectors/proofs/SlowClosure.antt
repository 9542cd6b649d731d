-- The job of 300 openings, whose values at steps 255, 256, 299, 300 and 301 are figures of `job`, is accepted, by computation on its bytes. It stands here since the 301
-- entries take some ten seconds, which each must-fail edit of `job` would take again. Assumes nothing.
use mathlib.Core.Path.{refl}
use Rattle.job.specs.SixPairs.{slow_closure}
use Rattle.job.specs.Questions.{Accepted}
use Rattle.job.proofs.AllDefinitions.{opened}

pub slow_closure_is_accepted : Accepted slow_closure
unfolding opened
slow_closure_is_accepted = refl
