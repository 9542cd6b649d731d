-- The scan of heads and flows that show the faults of a state, and question 22 over rows that hold a state, are the recurrence's own. Assumes nothing.
use mathlib.Core.Path.{◌≡◌, sym, ap, ◌∙◌}
use mathlib.Core.Bool.{Bool, ◌&&◌}
use mathlib.Core.List.{List}
use Prim.Native.Nat.{ℕ, ◌<◌}
use lib.ListN.{length}
use lib.Ieee.{Float}
use Rattle.loops.specs.Loops.{all_below}
use Rattle.wave.specs.declared.HeadFlow.{HeadFlow}
use Rattle.job.specs.Job.{Job, laid, sections, floor_at}
use Rattle.recurrence.specs.State.{State, point_at}
use Rattle.recurrence.specs.Step.{located}
use Rattle.recurrence.specs.Scan.{none, earlier, finite_drive, driven_at, fault_of, scan, acceptable_at, acceptable}
use Rattle.recurrence.specs.Calls as row
use Rattle.recurrence.specs.Calls.{Rows, point_in, drive_in, state_in}
use Rattle.recurrence.proofs.RunLaws.{acceptable_rows}
use Rattle.loops.proofs.All.{all_cong}
use Rattle.loops.proofs.First.{first_cong}
use Rattle.section.specs.Faults.{floor_in, fault_with, fault_at, first_fault, acceptable_in}

module _ (j : Job) (initial : List ℕ) (floors : (s : ℕ) → s < sections j → floor_in initial s ≡ floor_at j s) where
  pub scan_is :
      (x : ℕ → HeadFlow) (st : State)
      → ((s : ℕ) → s < sections j → fault_with (floor_at j s) s (x s) ≡ fault_of (floor_at j s) s (point_at st s) (driven_at st (located (laid j) s)))
      → first_fault initial (sections j) x ≡ scan j st
  unfolding first_fault fault_at scan
  scan_is x st h = first_cong earlier none (sections j) _ _ (λ s l. ap (λ (floor : Float). fault_with floor s (x s)) (floors s l) ∙ h s l)

  pub acceptable_is :
      (r : Rows)
      → all_below (acceptable_in initial (r row.heads) (r row.flows) (r row.highest) (r row.lowest)) (sections j) && all_below (λ y. finite_drive (drive_in r y)) (length j.nodes)
      ≡ acceptable j (state_in j r)
  unfolding acceptable_in point_in
  acceptable_is r =
      ap (λ (b : Bool). b && all_below (λ y. finite_drive (drive_in r y)) (length j.nodes))
      (all_cong (sections j) _ _ (λ s l. ap (λ (floor : Float). acceptable_at floor (point_in r s)) (floors s l)))
      ∙ sym (acceptable_rows j r)
