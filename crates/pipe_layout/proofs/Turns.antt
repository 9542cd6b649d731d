-- An iteration over the pipes of a job: each turn is along the same job, and where it gives nothing all pipes are passed. Assumes nothing.
use mathlib.Core.Path.{◌≡◌, sym, ◌∙◌}
use mathlib.Core.List.{List}
use Prim.Native.Nat.{ℕ}
use Rattle.std.specs.Prelude.{Option}
use Rattle.job.specs.Job.{sections}
use Rattle.job.specs.Format.{job_of, pipe_table, pipe_count}
use Rattle.pipe_layout.specs.declared.Laid.{Laid}
use Rattle.pipe_layout.specs.declared.Pipes.{Pipes}
use Rattle.pipe_layout.specs.Layout.{laid_of, LaidAt}
use Rattle.pipe_layout.specs.EachPipe.{UnderWay, Passed, Turn, Along}
use Rattle.pipe_layout.proofs.Acceptance.{Onward, onward, all_passed}

pub along : {job : List ℕ} {s t : Pipes} {r : Option Laid} → Turn s r t → Along job s.job.now s.count → Along job t.job.now t.count
along turn a = record { same_job = turn.same_job ∙ a.same_job; counted = turn.same_count ∙ a.counted }

pub laid_here : {job : List ℕ} {s t : Pipes} {l : Laid} → Passed s l t → Along job s.job.now s.count → LaidAt job s.at.pipe (laid_of l)
laid_here p a = rw a.same_job at p.laid

pub laid_by_number : {job : List ℕ} {s t : Pipes} {l : Laid} → Passed s l t → Along job s.job.now s.count → LaidAt job l.number (laid_of l)
laid_by_number p a = rw p.numbered (laid_here p a)

pub pipes_passed : {job bytes : List ℕ} {count p : ℕ} → Along job bytes count → p ≡ count → pipe_count (pipe_table job) ≡ p
pipes_passed a e = sym (e ∙ a.counted)

module _ {s : Pipes} (u : UnderWay s) where
  pub onward_here : {l : Laid} {t : Pipes} → Passed s l t → Onward s.job.now u.accepted s.at l
  onward_here {l} p = onward s.job.now u.accepted s.at l u.walked p.laid

  pub sections_passed : {job : List ℕ} → Along job s.job.now s.count → s.at.pipe ≡ s.count → sections (job_of job) ≡ s.at.section
  sections_passed a e = rw a.same_job at (all_passed s.job.now u.accepted s.at u.walked (sym (e ∙ u.counted)))

  pub first_here : {l : Laid} {t : Pipes} → Passed s l t → (laid_of l).first_section ≡ s.at.section
  first_here p = (onward_here p).first_is
