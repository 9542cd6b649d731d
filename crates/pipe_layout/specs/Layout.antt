-- The laid pipes of a job, as the code walks over them. Inner definitions: no public call cites them.
use Rattle.std.specs.Prelude.{◌≡◌, List, ℕ}
use Rattle.std.proofs.Math.Option.{some}
use Rattle.std.proofs.Math.ListN.{get_elem?}
use Rattle.job.specs.Job.{Laid, laid}
use Rattle.job.specs.Format.{job_of}
use Rattle.job.specs.Walk.{WalkedTo}
use Rattle.job.specs.declared.walk.Walk.{Walk}
use Rattle.pipe_layout.specs.declared.Laid as Code

-- a laid pipe of the code is one of the definitions
abbrev pub laid_of : Code.Laid → Laid
laid_of l =
    record { pipe = record { start = l.start; finish = l.finish; reaches = l.reaches; S = l.s }; first_section = l.first_section; first_reach = l.first_reach }

-- l is pipe p of the job, where it is laid
abbrev pub LaidAt : List ℕ → ℕ → Laid → Type 0
LaidAt job p l = get_elem? (laid (job_of job)) p ≡ some l

pub record LaidPipe (job : List ℕ) (l : Laid) : Type 0 where
  pub number : ℕ
  pub is : LaidAt job number l

-- how far a walk over the pipes of the job has come
abbrev pub Walked : List ℕ → Walk → Type 0
Walked job at = WalkedTo (job_of job).pipes at.pipe at.section at.reach
