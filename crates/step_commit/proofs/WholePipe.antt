-- A pipe whose ends stand in the spare, committed: its inner sections and then its two ends are the whole pipe; a pipe that is not overwritten yet gives the
-- same new sections as the old rows; so the rows hold the step up to this pipe and then over it. Assumes nothing.
use mathlib.Core.Path.{◌≡◌, refl, ap, ◌∙◌}
use mathlib.Core.List.{List}
use Prim.Native.Nat.{ℕ, zero, suc, ◌+◌, ◌-◌, ◌*◌, ◌≤◌}
use native.Mathlib.Omega.{arith}
use lib.Ieee.{Float}
use Rattle.wave.specs.declared.HeadFlow.{HeadFlow}
use Rattle.wave.specs.declared.Node.{Node}
use Rattle.job.specs.Job.{Laid}
use Rattle.recurrence.specs.Step.{along, cp_after, cm_before, between, end_to_end}
use Rattle.section.specs.SectionRows.{entry, SteppedRows}
use Rattle.section.proofs.RowLaws.{SteppedTo, stepped_more, stepped_done, heads_kept, flows_kept}
use Rattle.pipe_layout.specs.Layout.{LaidAt}
use Rattle.node_sums.specs.FromRows.{along_rows, new_section}
use Rattle.spare_ends.specs.Spare.{end_in, EndsIn}
use Rattle.step_check.specs.BySpare.{new_by_spare}
use Rattle.step_check.proofs.BySpare.{start_new, inner_new, finish_new, by_spare}
use Rattle.step_commit.proofs.InnerThenStart.{stepped_above}

-- ---- one pipe

module _ (job : List ℕ) (l : Laid) (spare : List Float) (at : ℕ) (heads flows : List Float) where
  abbrev new : ℕ → HeadFlow
  new = new_by_spare job l spare at heads flows

  -- the four rows, after the inner sections, after the start and after the finish; where the finish was read in the spare is asked last
  pub whole_pipe :
      (highest lowest : List Float) {heads₁ flows₁ highest₁ lowest₁ heads₂ flows₂ highest₂ lowest₂ heads₃ flows₃ highest₃ lowest₃ : List Float} {to : ℕ} → 1 ≤ l.pipe.reaches
      → SteppedRows (between (along_rows job heads flows) l) (l.first_section + 1) (l.pipe.reaches - 1) heads flows highest lowest heads₁ flows₁ highest₁ lowest₁
      → SteppedRows (λ (k : ℕ). end_in spare at) l.first_section 1 heads₁ flows₁ highest₁ lowest₁ heads₂ flows₂ highest₂ lowest₂
      → SteppedRows (λ (k : ℕ). end_in spare to) (l.first_section + l.pipe.reaches) 1 heads₂ flows₂ highest₂ lowest₂ heads₃ flows₃ highest₃ lowest₃
      → to ≡ at + 2
      → SteppedRows new l.first_section (l.pipe.reaches + 1) heads flows highest lowest heads₃ flows₃ highest₃ lowest₃
  whole_pipe highest lowest h inside start finish there =
      let n = l.pipe.reaches in
      let m : suc (n - 1) ≡ n = omega arith in
      let most = rw m at (stepped_above _ new l.first_section (n - 1) {highest = highest} {lowest = lowest} (start_new job l spare at heads flows) (λ i b. inner_new job l spare at heads flows i (omega arith)) inside start) in
      stepped_done (stepped_more most (λ (k : ℕ). end_in spare (at + 2)) 1 refl (λ j b. finish_new job l spare at heads flows h ∙ ap new (let e : n ≡ n + j = omega arith in e)) (rw there at finish)) (n + 1) refl

-- ---- what is not overwritten yet

-- rows that are alike from the pipe's first section on
module _ (job : List ℕ) (heads flows nowHeads nowFlows : List Float) (l : Laid)
    (h : (s : ℕ) → l.first_section ≤ s → entry nowHeads s ≡ entry heads s) (q : (s : ℕ) → l.first_section ≤ s → entry nowFlows s ≡ entry flows s) where
  same_between : (i : ℕ) → between (along_rows job nowHeads nowFlows) l i ≡ between (along_rows job heads flows) l i
  unfolding between cp_after cm_before along
  same_between i =
      rw (h (l.first_section + i) (omega arith), q (l.first_section + i) (omega arith), h (l.first_section + suc (suc i)) (omega arith), q (l.first_section + suc (suc i)) (omega arith))

  same_new : (spare : List Float) (at i : ℕ) → new_by_spare job l spare at nowHeads nowFlows i ≡ new_by_spare job l spare at heads flows i
  unfolding end_to_end
  same_new spare at zero = refl
  same_new spare at (suc i) = rw (same_between i)

-- ---- pipe after pipe

module _ (job : List ℕ) (nodes : ℕ → Node) (heads flows spare : List Float) (ends : EndsIn job nodes heads flows spare) (p : ℕ) (l : Laid) (is : LaidAt job p l) where
  -- the four rows, up to this pipe and then over it; heads and flows from this pipe on are the old ones; where its ends were read is asked last
  pub pipe_more :
      {highest lowest heads₁ flows₁ highest₁ lowest₁ heads₂ flows₂ highest₂ lowest₂ : List Float} {first at : ℕ} → l.first_section ≡ first
      → SteppedTo (new_section job nodes heads flows) 0 first heads flows highest lowest heads₁ flows₁ highest₁ lowest₁
      → SteppedRows (new_by_spare job l spare at heads₁ flows₁) l.first_section (l.pipe.reaches + 1) heads₁ flows₁ highest₁ lowest₁ heads₂ flows₂ highest₂ lowest₂
      → at ≡ p * 4
      → SteppedTo (new_section job nodes heads flows) 0 (first + l.pipe.reaches + 1) heads flows highest lowest heads₂ flows₂ highest₂ lowest₂
  pipe_more {heads₁ = heads₁} {flows₁} {first = first} e u w there =
      let c : first + (l.pipe.reaches + 1) ≡ first + l.pipe.reaches + 1 = omega arith in
      rw c at
      (stepped_more u (new_by_spare job l spare (p * 4) heads₁ flows₁) (l.pipe.reaches + 1) (omega arith)
      (λ i b.
      same_new job heads flows heads₁ flows₁ l (λ s k. heads_kept u s (omega arith)) (λ s k. flows_kept u s (omega arith)) spare (p * 4) i
      ∙ by_spare job nodes heads flows spare ends p l is i (omega arith)
      ∙ ap (λ (k : ℕ). new_section job nodes heads flows (k + i)) e)
      (rw there at w))
