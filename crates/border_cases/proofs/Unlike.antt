-- Two runs that differ at a section: one number there has two patterns. Assumes nothing.
use mathlib.Core.Path.{◌≡◌, ap}
use mathlib.Core.List.{List}
use Prim.Native.Nat.{ℕ}
use lib.Ieee.{Float, binary64, to_bits}
use Rattle.job.specs.Format.{job_of}
use Rattle.recurrence.specs.State.{Point, point_at}
use Rattle.recurrence.specs.Run.{Call, played}
use Rattle.border_cases.specs.Cases.{SameAt}

-- the pattern of a number of section s after a run by a list of calls
unfoldable pub pattern : (Point → Float) → List ℕ → List Call → ℕ → ℕ
pattern f job calls s = to_bits binary64 (f (point_at (played (job_of job) calls).state s))

pub unlike : (f : Point → Float) (a b : List ℕ) (calls : List Call) (s : ℕ) → ¬ (pattern f a calls s ≡ pattern f b calls s) → ¬ SameAt a b calls s
unfolding pattern
unlike f a b calls s n e = n (ap (λ (p : Point). to_bits binary64 (f p)) e)
