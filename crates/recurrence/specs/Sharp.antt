-- What it takes to show demand 3's bound sharp by two jobs: alike after k + d - 1 steps, not after k + d. Definitions only.
use Rattle.std.specs.Prelude.{◌≡◌, true, List, [], ◌∷◌, ℕ, ◌+◌, ◌-◌, ◌<◌, length, Float}
use Rattle.job.specs.Job.{laid, sections}
use Rattle.job.specs.Format.{job_of}
use Rattle.job.specs.Questions.{Accepted}
use Rattle.recurrence.specs.State.{point_at, drive_at}
use Rattle.recurrence.specs.Run.{Call, played, steps_done}
use Rattle.recurrence.specs.Paths.{EndAt, AtLeast}
use Rattle.recurrence.specs.Demand.{AlikeBut, AlikeBefore}

-- one call of N steps
abbrev pub once : ℕ → List Call
once N = record { count = N; enough = true } ∷ []

-- the inflow of node y after one call of N steps
abbrev pub inflow_after : List ℕ → ℕ → ℕ → Float
inflow_after job N y = (drive_at (played (job_of job) (once N)).state y).inflow

-- the bytes a and b, the edited node x, and a section s at least d reaches from it
pub record Sharp (a b : List ℕ) (x k s d : ℕ) : Type 0 where
  pub accepted : Accepted a × Accepted b
  pub alike : AlikeBut x (job_of a) (job_of b)
  pub before : AlikeBefore k x (job_of a) (job_of b)
  pub below : s < sections (job_of a)
  pub off : AtLeast (laid (job_of a)) (EndAt (laid (job_of a)) x) s d
  pub done : (steps_done (job_of a) (once (k + d - 1)) ≡ k + d - 1) × (steps_done (job_of b) (once (k + d - 1)) ≡ k + d - 1)
  pub same : point_at (played (job_of a) (once (k + d - 1))).state s ≡ point_at (played (job_of b) (once (k + d - 1))).state s
  pub done_beyond : (steps_done (job_of a) (once (k + d)) ≡ k + d) × (steps_done (job_of b) (once (k + d)) ≡ k + d)
  pub differs : ¬ (point_at (played (job_of a) (once (k + d))).state s ≡ point_at (played (job_of b) (once (k + d))).state s)

-- The same of the inflow of a node y, whose end s is at least d reaches off. For speeds no such bound is claimed: that of a tripped pump moves a step later.
pub record InflowSharp (a b : List ℕ) (x k y s d : ℕ) : Type 0 where
  pub accepted : Accepted a × Accepted b
  pub alike : AlikeBut x (job_of a) (job_of b)
  pub before : AlikeBefore k x (job_of a) (job_of b)
  pub a_node : y < length (job_of a).nodes
  pub its_end : EndAt (laid (job_of a)) y s
  pub off : AtLeast (laid (job_of a)) (EndAt (laid (job_of a)) x) s d
  pub done : (steps_done (job_of a) (once (k + d - 1)) ≡ k + d - 1) × (steps_done (job_of b) (once (k + d - 1)) ≡ k + d - 1)
  pub same : inflow_after a (k + d - 1) y ≡ inflow_after b (k + d - 1) y
  pub done_beyond : (steps_done (job_of a) (once (k + d)) ≡ k + d) × (steps_done (job_of b) (once (k + d)) ≡ k + d)
  pub differs : ¬ (inflow_after a (k + d) y ≡ inflow_after b (k + d) y)
