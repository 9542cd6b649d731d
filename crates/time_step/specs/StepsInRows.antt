-- What the functions of this crate, and those of `surge` that call them, promise each other. No public call of the product cites these definitions.
use Rattle.std.specs.Prelude.{◌≡◌, true, List, ℕ, drop, Result, Ok, Err}
use Rattle.job.specs.Job.{Job}
use Rattle.job.specs.Format.{job_of}
use Rattle.job.specs.Questions.{Accepted}
use Rattle.recurrence.specs.State.{State}
use Rattle.recurrence.specs.Scan.{not_finite, parted}
use Rattle.recurrence.specs.Run as Run
use Rattle.recurrence.specs.Run.{Ending, completed, stop, ran, steps}
use Rattle.recurrence.specs.Calls.{Row, Rows, in_use, enough_lent, state_in}
use Rattle.section.specs.declared.Fault.{Fault}
use Rattle.section.specs.declared.Fault.TheVariants.{NotFinite, Parted}
use Rattle.time_step.specs.declared.Stopped.{Stopped}

-- an accepted job, with a yes to question 20
pub record Ready (job : List ℕ) (rows : Rows) : Type 0 where
  pub accepted : Accepted job
  pub enough : enough_lent (job_of job) rows ≡ true

-- past the entries in use each row is as it was
abbrev pub SameRest : Job → Rows → Rows → Type 0
SameRest j before after = (x : Row) → drop (in_use j x) (after x) ≡ drop (in_use j x) (before x)

-- how a fault ends a run
unfoldable pub ending_of : Fault → Ending
ending_of (NotFinite s) = stop not_finite s
ending_of (Parted s) = stop parted s

-- what a run came to, by its answer and the state it left: the steps done in all, and where a fault stopped it that fault
unfoldable pub result_of : Result ℕ Stopped → State → Run.Result
result_of (Ok n) st = ran record { done = n; state = st } completed
result_of (Err e) st = ran record { done = e.steps; state = st } (ending_of e.fault)

-- some steps over the rows: what they come to, and nothing past the entries in use
pub record StepsInRows (job : List ℕ) (done count : ℕ) (before after : Rows) (ended : Result ℕ Stopped) : Type 0 where
  pub result_is : result_of ended (state_in (job_of job) after) ≡ steps (job_of job) count done (state_in (job_of job) before)
  pub rest : SameRest (job_of job) before after
