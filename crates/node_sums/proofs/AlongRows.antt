-- An equation along a reach, of what the code reads there: within the section count, what a row has past its end does not matter. Assumes nothing.
use mathlib.Core.Path.{◌≡◌, ◌∙◌}
use mathlib.Core.List.{List}
use Prim.Native.Nat.{ℕ, ◌+◌, ◌<◌}
use native.Mathlib.Omega.{arith}
use lib.ListN.{get_or}
use lib.Ieee.{Float, nan}
use Rattle.fields.specs.Real.{zero64}
use Rattle.loops.proofs.Within.{get_or_within}
use Rattle.job.specs.Job.{Laid, sections, friction_at}
use Rattle.job.specs.Format.{job_of}
use Rattle.recurrence.specs.Step.{along}
use Rattle.node_sums.specs.FromRows.{along_rows, Lent}

-- along reach i of a pipe from its section s
pub along_read :
    (equation : Float → Float → Float → Float → Float) (job : List ℕ) (heads flows : List Float) (l : Laid) (i s : ℕ) {r x : Float}
    → Lent job heads flows → l.first_section + s < sections (job_of job) → r ≡ friction_at (job_of job) (l.first_reach + i)
    → x ≡ equation l.pipe.S r (get_or heads (l.first_section + s) nan) (get_or flows (l.first_section + s) nan)
    → x ≡ along equation (along_rows job heads flows) l i s
unfolding along
along_read equation job heads flows l i s lent h friction is =
    is
    ∙ rw (friction, get_or_within heads (l.first_section + s) nan zero64 (omega (arith, lent.heads_long)), get_or_within flows (l.first_section + s) nan zero64 (omega (arith, lent.flows_long)))
