-- What is read from a table at a place, as the job that the tables hold has it. Inner definitions: no public call cites them.
use Rattle.std.specs.Prelude.{List, ℕ, get_or, Float}
use Rattle.fields.specs.Real.{zero64}
use Rattle.job.specs.Job.{Initial}
use Rattle.job.specs.Format.{friction_in, initial_in}

-- R of a reach, as `friction_at` has it of the job
abbrev pub r_of : List ℕ → ℕ → Float
r_of friction r = get_or (friction_in friction) r zero64

-- of a section, as `initial_at` has it of the job
abbrev pub initial_of : List ℕ → ℕ → Initial
initial_of initial s = get_or (initial_in initial) s record { head = zero64; flow = zero64; floor = zero64 }
