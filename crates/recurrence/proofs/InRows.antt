-- Demand 3 in the rows and answers that a caller sees: the theorem on lists of calls, through what ties the public calls to them. Assumes nothing.
use mathlib.Core.Path.{◌≡◌, sym, ap, ◌∙◌}
use mathlib.Core.List.{List, map}
use Prim.Native.Nat.{ℕ, ◌<◌}
use lib.ListN.{length}
use Rattle.job.specs.Job.{sections, sections_of}
use Rattle.job.specs.Format.{job_of}
use Rattle.recurrence.specs.State.{Drive, point_at, drive_at}
use Rattle.recurrence.specs.Run.{Call, played, steps_done}
use Rattle.recurrence.specs.Calls.{Rows, point_in, drive_in}
use Rattle.recurrence.specs.Lent.{LentCall, held_by, call_of, Demand3InRows}
use Rattle.recurrence.proofs.Runs.{played_counts}
use Rattle.recurrence.proofs.Theorem.{demand_3}
use Rattle.recurrence.proofs.RowLaws.{holds_point, holds_drive}
use Rattle.recurrence.proofs.TiedCalls.{Follows, begun, calls_follow}

-- an entry of what is held is the point of the run, and the drive
entry : (job : List ℕ) (lent : Rows) (cs : List LentCall) (ds : List Call) → Follows job (held_by job lent cs) (played (job_of job) ds)
    → (s : ℕ) → s < sections (job_of job) → point_in (held_by job lent cs).rows s ≡ point_at (played (job_of job) ds).state s
entry job lent cs ds f s l = holds_point (job_of job) (held_by job lent cs).rows (played (job_of job) ds).state f.rows f.sized s l

drive_entry : (job : List ℕ) (lent : Rows) (cs : List LentCall) (ds : List Call) → Follows job (held_by job lent cs) (played (job_of job) ds)
    → (y : ℕ) → y < length (job_of job).nodes → drive_in (held_by job lent cs).rows y ≡ drive_at (played (job_of job) ds).state y
drive_entry job lent cs ds f y l = holds_drive (job_of job) (held_by job lent cs).rows (played (job_of job) ds).state f.rows f.sized y l

module _ (a b : List ℕ) (lent_a lent_b : Rows) (calls_a calls_b : List LentCall) (cs : List Call)
    (fa : Follows a (held_by a lent_a calls_a) (played (job_of a) cs)) (fb : Follows b (held_by b lent_b calls_b) (played (job_of b) cs))
    (sections_same : sections (job_of a) ≡ sections (job_of b)) (nodes-same : length (job_of a).nodes ≡ length (job_of b).nodes) where
  done_a : (held_by a lent_a calls_a).done ≡ steps_done (job_of a) cs
  done_a = fa.done ∙ played_counts (job_of a) cs

  done_b : (held_by b lent_b calls_b).done ≡ steps_done (job_of b) cs
  done_b = fb.done ∙ played_counts (job_of b) cs

  in_rows : (s : ℕ) → s < sections (job_of a) → point_at (played (job_of a) cs).state s ≡ point_at (played (job_of b) cs).state s
      → point_in (held_by a lent_a calls_a).rows s ≡ point_in (held_by b lent_b calls_b).rows s
  in_rows s l e = entry a lent_a calls_a cs fa s l ∙ e ∙ sym (entry b lent_b calls_b cs fb s (rw sections_same at l))

  -- of drives, whole or a field of them
  in_node_rows : {C : Type 0} (f : Drive → C) (y : ℕ) → y < length (job_of a).nodes → f (drive_at (played (job_of a) cs).state y) ≡ f (drive_at (played (job_of b) cs).state y)
      → f (drive_in (held_by a lent_a calls_a).rows y) ≡ f (drive_in (held_by b lent_b calls_b).rows y)
  in_node_rows f y l e = ap f (drive_entry a lent_a calls_a cs fa y l) ∙ e ∙ sym (ap f (drive_entry b lent_b calls_b cs fb y (rw nodes-same at l)))

pub demand_3_in_rows : Demand3InRows
unfolding sections
demand_3_in_rows a b lent_a lent_b sa sb x k pos al be calls_a calls_b same chA chB =
    let cs = map (call_of a) calls_a in
    let wa = calls_follow a lent_a sa calls_a chA in
    let wb = rw (← same) at (calls_follow b lent_b sb calls_b chB) in
    let c = demand_3 a b (begun a lent_a sa).accepted (begun b lent_b sb).accepted x k pos al be cs in
    let pipes = ap sections_of al.pipes in
    let da = done_a a b lent_a lent_b calls_a calls_b cs wa.0 wb.0 pipes al.count in
    let db = done_b a b lent_a lent_b calls_a calls_b cs wa.0 wb.0 pipes al.count in
    let rows = in_rows a b lent_a lent_b calls_a calls_b cs wa.0 wb.0 pipes al.count in
    let drives = in_node_rows a b lent_a lent_b calls_a calls_b cs wa.0 wb.0 pipes al.count (λ (z : Drive). z) in
    let inflows = in_node_rows a b lent_a lent_b calls_a calls_b cs wa.0 wb.0 pipes al.count (λ (z : Drive). z.inflow) in
    record {
      near = λ d s e l off h. rows s l (c.near d s (sym da ∙ e ∙ db) l off (rw da at h));
      apart = λ s e l off. rows s l (c.apart s (sym da ∙ e ∙ db) l off);
      node_near = λ d y s e l p off h out. drives y l (c.node_near d y s (sym da ∙ e ∙ db) l p off (rw da at h) (rw da at out));
      inflow_near = λ d y s e l p off h. inflows y l (c.inflow_near d y s (sym da ∙ e ∙ db) l p off (rw da at h));
      node_apart = λ y s e l p off. drives y l (c.node_apart y s (sym da ∙ e ∙ db) l p off);
      stops = λ i cause m s h. rw (wa.1, wb.1) (c.stops i cause m s h);
    }
