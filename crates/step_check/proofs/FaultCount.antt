-- The faults of a step, counted pipe by pipe: a count of several is 0 where each is, a test of all sections is a test of each pipe's in turn, and that of a
-- pipe's is one of its ends and of those between. Assumes nothing.
use mathlib.Core.Path.{◌≡◌, sym, ap, ap₂, ◌∙◌}
use mathlib.Core.Bool.{Bool, cond, ◌&&◌, and_assoc, and_comm}
use mathlib.Core.List.{List}
use Prim.Native.Nat.{ℕ, suc, ◌+◌, ◌-◌, ◌*◌, ◌≤◌}
use native.Mathlib.Nat.{add-zero}
use native.Mathlib.Numerals.{add-one}
use native.Mathlib.Omega.{arith}
use lib.Dec.{eqb}
use lib.Ieee.{Float}
use Rattle.wave.specs.declared.Node.{Node}
use Rattle.loops.specs.Loops.{all_below}
use Rattle.job.specs.Job.{Laid}
use Rattle.job.specs.Format.{initial_table}
use Rattle.recurrence.specs.Step.{between}
use Rattle.loops.proofs.All.{all_cong, all_join}
use Rattle.loops.proofs.Counting.{zero_sum, one_told}
use Rattle.section.specs.Faults.{floor_in, fault_at, is_sound, sound_with, counted}
use Rattle.section.proofs.Soundness.{sound_any}
use Rattle.pipe_layout.specs.Layout.{LaidAt}
use Rattle.node_sums.specs.FromRows.{along_rows, new_section}
use Rattle.spare_ends.specs.Spare.{end_in, EndsIn}
use Rattle.step_check.specs.BySpare.{new_by_spare}
use Rattle.step_check.proofs.BySpare.{start_new, inner_new, finish_new, by_spare}

-- a pipe of n reaches: those between are counted by x, the start and the finish by y
pipe_judged :
    (q : ℕ → Bool) (n x y : ℕ) → 1 ≤ n → eqb x 0 ≡ all_below (λ i. q (suc i)) (n - 1) → y ≡ cond (q 0) 0 1 + cond (q n) 0 1 → eqb (x + y) 0 ≡ all_below q (n + 1)
unfolding all_below
pipe_judged q n x y h ex ey =
    let m = n - 1 in
    let inner : Bool = all_below (λ i. q (suc i)) m in
    let most : all_below q n ≡ q 0 && inner =
    ap (all_below q) (let e : n ≡ 1 + m = omega arith in e)
    ∙ all_join q 1 m
    ∙ ap (λ (t : Bool). q 0 && t) (all_cong m (λ i. q (1 + i)) (λ i. q (suc i)) (λ i k. ap q (let z : 1 + i ≡ suc i = omega arith in z))) in
    let ends : eqb y 0 ≡ q 0 && q n = ap (λ (k : ℕ). eqb k 0) ey ∙ zero_sum (cond (q 0) 0 1) (cond (q n) 0 1) ∙ ap₂ ◌&&◌ (one_told (q 0)) (one_told (q n)) in
    zero_sum x y ∙ rw (ex, ends, add-one n, most) (sym (and_assoc inner (q 0) (q n)) ∙ ap (λ (t : Bool). t && q n) (and_comm inner (q 0)))

-- the pipes passed so far, and one more
pub judged_more :
    (p : ℕ → Bool) (first n bad r : ℕ) → eqb bad 0 ≡ all_below p first → eqb r 0 ≡ all_below (λ i. p (first + i)) (n + 1) → eqb (bad + r) 0 ≡ all_below p (first + n + 1)
judged_more p first n bad r e d =
    let s : first + n + 1 ≡ first + (n + 1) = omega arith in
    zero_sum bad r ∙ rw (s, e, d) (sym (all_join p first (n + 1)))

-- ---- the sections of a pipe whose ends stand in the spare

module _ (job : List ℕ) (l : Laid) (spare : List Float) (at : ℕ) (heads flows : List Float) (some : 1 ≤ l.pipe.reaches) where
  abbrev floor : ℕ → Float
  floor i = floor_in (initial_table job) (l.first_section + i)

  -- whether the section at offset i has no fault
  abbrev sound_by_spare : ℕ → Bool
  sound_by_spare i = sound_with (floor i) (new_by_spare job l spare at heads flows i)

  judged_by_spare :
      (x y : ℕ) → eqb x 0 ≡ all_below (λ i. sound_with (floor (suc i)) (between (along_rows job heads flows) l i)) (l.pipe.reaches - 1)
      → y ≡ counted (floor_in (initial_table job) l.first_section) (end_in spare at) + counted (floor l.pipe.reaches) (end_in spare (at + 2))
      → eqb (x + y) 0 ≡ all_below sound_by_spare (l.pipe.reaches + 1)
  judged_by_spare x y ex ey =
      let n = l.pipe.reaches in
      pipe_judged sound_by_spare n x y some
      (ex ∙ all_cong (n - 1) _ (λ i. sound_by_spare (suc i)) (λ i k. ap (sound_with (floor (suc i))) (inner_new job l spare at heads flows i (omega arith))))
      (ey
      ∙ ap₂ ◌+◌
      (ap₂ counted (ap (floor_in (initial_table job)) (sym (add-zero l.first_section))) (start_new job l spare at heads flows))
      (ap (counted (floor n)) (finish_new job l spare at heads flows some)))

-- where the spare has the ends of a step, and the walk is at the pipe's first section
pub pipe_sound :
    (job : List ℕ) (nodes : ℕ → Node) (heads flows spare : List Float) → EndsIn job nodes heads flows spare → (p : ℕ) (l : Laid) → LaidAt job p l
    → 1 ≤ l.pipe.reaches → {first : ℕ} → l.first_section ≡ first → (x y : ℕ)
    → eqb x 0 ≡ all_below (λ i. sound_with (floor_in (initial_table job) (l.first_section + suc i)) (between (along_rows job heads flows) l i)) (l.pipe.reaches - 1)
    → y ≡ counted (floor_in (initial_table job) l.first_section) (end_in spare (p * 4)) + counted (floor_in (initial_table job) (l.first_section + l.pipe.reaches)) (end_in spare (p * 4 + 2))
    → eqb (x + y) 0 ≡ all_below (λ i. is_sound (fault_at (initial_table job) (new_section job nodes heads flows) (first + i))) (l.pipe.reaches + 1)
unfolding fault_at
pipe_sound job nodes heads flows spare ends p l is some e x y ex ey =
    judged_by_spare job l spare (p * 4) heads flows some x y ex ey
    ∙ rw (← e)
    (all_cong (l.pipe.reaches + 1) _ _
    (λ i b.
    let s = l.first_section + i in
    ap (sound_with (floor_in (initial_table job) s)) (by_spare job nodes heads flows spare ends p l is i (omega arith))
    ∙ sym (sound_any (floor_in (initial_table job) s) s (new_section job nodes heads flows s))))
