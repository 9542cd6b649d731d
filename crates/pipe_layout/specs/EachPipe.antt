-- An iteration over the pipes of a job. Inner definitions: no public call cites them.
use Rattle.std.specs.Prelude.{◌≡◌, List, ℕ, ◌<◌, ◌≤◌, Option, MatchOption}
use Rattle.job.specs.Format.{pipe_table, pipe_count}
use Rattle.job.specs.Questions.{Accepted}
use Rattle.job.specs.Walk.{past}
use Rattle.pipe_layout.specs.declared.Laid.{Laid}
use Rattle.pipe_layout.specs.declared.Pipes.{Pipes}
use Rattle.pipe_layout.specs.Layout.{laid_of, LaidAt, Walked}

-- it stands at a pipe of a job with a yes, or past the last
pub record UnderWay (s : Pipes) : Type 0 where
  pub accepted : Accepted s.job.now
  pub counted : s.count ≡ pipe_count (pipe_table s.job.now)
  pub within : s.at.pipe ≤ s.count
  pub walked : Walked s.job.now s.at

-- l is the pipe at which s stands, with its number; it is one of 32 at most, and so are its nodes; and t stands past it
pub record Passed (s : Pipes) (l : Laid) (t : Pipes) : Type 0 where
  pub laid : LaidAt s.job.now s.at.pipe (laid_of l)
  pub numbered : l.number ≡ s.at.pipe
  pub present : l.number < s.count
  pub few : l.number < 32
  pub start_low : l.start < 32
  pub finish_low : l.finish < 32
  pub on : t.at ≡ past s.at l.reaches

-- a turn gives the pipe at hand and goes past it; past the last pipe it gives nothing
pub record Turn (s : Pipes) (r : Option Laid) (t : Pipes) : Type 0 where
  pub same_job : t.job.now ≡ s.job.now
  pub same_count : t.count ≡ s.count
  pub gives : MatchOption r (s.at.pipe ≡ s.count) (λ l. Passed s l t)

-- an iteration over the pipes of this job, which are so many, by its bytes and its count
pub record Along (job bytes : List ℕ) (count : ℕ) : Type 0 where
  pub same_job : bytes ≡ job
  pub counted : count ≡ pipe_count (pipe_table job)
