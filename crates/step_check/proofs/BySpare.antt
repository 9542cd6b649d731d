-- A pipe whose ends stand in the spare: its new sections, and where the spare has the ends of a step they are those of the step. Assumes nothing.
use mathlib.Core.Path.{◌≡◌, refl, ap, ap₂, ◌∙◌}
use mathlib.Core.List.{List}
use Prim.Native.Nat.{ℕ, suc, ◌+◌, ◌-◌, ◌*◌, ◌≤◌, ◌<◌}
use native.Mathlib.Omega.{arith}
use borrow.Author.Tests.{eq-eqb, ne_eqb}
use lib.Ieee.{Float}
use Rattle.wave.specs.declared.HeadFlow.{HeadFlow}
use Rattle.wave.specs.declared.Node.{Node}
use Rattle.job.specs.Job.{Laid}
use Rattle.job.specs.Format.{job_of}
use Rattle.recurrence.specs.Step.{between, end_to_end, new_in, new_at}
use Rattle.recurrence.proofs.LaidPipes.{laid_located}
use Rattle.pipe_layout.specs.Layout.{LaidAt}
use Rattle.node_sums.specs.FromRows.{along_rows, new_section}
use Rattle.spare_ends.specs.Spare.{end_in, EndsIn}
use Rattle.step_check.specs.BySpare.{new_by_spare}

-- ---- at an offset of a pipe

module _ (job : List ℕ) (l : Laid) (spare : List Float) (at : ℕ) (heads flows : List Float) where
  abbrev new : ℕ → HeadFlow
  new = new_by_spare job l spare at heads flows

  pub start_new : end_in spare at ≡ new 0
  unfolding end_to_end
  start_new = refl

  pub inner_new : (i : ℕ) → suc i < l.pipe.reaches → between (along_rows job heads flows) l i ≡ new (suc i)
  unfolding end_to_end
  inner_new i h = rw (ne_eqb (suc i) l.pipe.reaches (λ e. omega arith))

  last_new : (i : ℕ) → suc i ≡ l.pipe.reaches → end_in spare (at + 2) ≡ new (suc i)
  unfolding end_to_end
  last_new i e = rw (eq-eqb (suc i) l.pipe.reaches e)

  pub finish_new : 1 ≤ l.pipe.reaches → end_in spare (at + 2) ≡ new l.pipe.reaches
  finish_new h =
      let e : suc (l.pipe.reaches - 1) ≡ l.pipe.reaches = omega arith in
      last_new (l.pipe.reaches - 1) e ∙ ap new e

-- ---- the sections of a step

module _ (job : List ℕ) (nodes : ℕ → Node) (heads flows spare : List Float) (ends : EndsIn job nodes heads flows spare) (p : ℕ) (l : Laid) (is : LaidAt job p l) where
  pub by_spare : (i : ℕ) → i ≤ l.pipe.reaches → new_by_spare job l spare (p * 4) heads flows i ≡ new_section job nodes heads flows (l.first_section + i)
  unfolding new_section new_at new_in
  by_spare i h =
      ap₂ (λ (start finish : HeadFlow). end_to_end l.pipe.reaches start finish (between (along_rows job heads flows) l) i) (ends.at_the_start p l is) (ends.at_the_finish p l is)
      ∙ rw (laid_located (job_of job) p l i is h)
