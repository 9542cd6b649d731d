-- The inner sections of a laid pipe, from what is read in rows and friction cut to it, are the recurrence's own. Assumes nothing.
use mathlib.Core.Path.{◌≡◌}
use Prim.Native.Nat.{ℕ, suc, ◌+◌, ◌≤◌, ◌<◌}
use native.Mathlib.Omega.{arith}
use Rattle.job.specs.Job.{Laid}
use Rattle.recurrence.specs.Step.{AlongPipes, along, cp_after, cm_before, between}
use Rattle.inner_sections.specs.InnerSections.{cp_at, cm_at, inner_at}

-- `cut` has of the pipe's own n reaches and n + 1 sections what w has of all
pub inner_is :
    (w cut : AlongPipes) (l : Laid) (n : ℕ)
    → ((i : ℕ) → i < n → cut.friction i ≡ w.friction (l.first_reach + i)) → ((i : ℕ) → i ≤ n → cut.old i ≡ w.old (l.first_section + i))
    → (i : ℕ) → suc i < n → inner_at cut l.pipe.S i ≡ between w l i
unfolding cp_at cm_at between cp_after cm_before along
inner_is w cut l n r h i b =
    let p : i + 1 ≡ suc i = omega arith in
    let q : i + 2 ≡ suc (suc i) = omega arith in
    rw (p, q, r i (omega arith), h i (omega arith), r (suc i) (omega arith), h (suc (suc i)) (omega arith))
