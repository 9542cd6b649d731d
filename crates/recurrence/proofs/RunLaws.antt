-- A run-on's questions and steps, as loops work them out: over the rows' entries, and one step at a time. Assumes nothing.
use mathlib.Core.Path.{◌≡◌, refl, sym, ap, ap₂, ◌∙◌}
use mathlib.Core.Bool.{Bool, true, false, ◌&&◌, true≢false}
use Prim.Native.Nat.{ℕ, zero, suc, ◌+◌, ◌<◌}
use native.Mathlib.Nat.{zero-add}
use native.Mathlib.Omega.{arith}
use lib.ListN.{length}
use Rattle.loops.specs.Loops.{all_below}
use Rattle.loops.proofs.All.{all_cong}
use Rattle.job.specs.Job.{Job, sections, floor_at, scheduled}
use Rattle.recurrence.specs.State.{Drive, State}
use Rattle.recurrence.specs.Step.{value_by, value_at, advanced}
use Rattle.recurrence.specs.Scan.{Cause, none, fault, finite_drive, scan, Outcome, finished, stopped, outcome_of, step, acceptable_at, acceptable}
use Rattle.recurrence.specs.Run.{Run, Result, refused, ran, completed, stop, onward, steps}
use Rattle.recurrence.specs.Calls.{Rows, point_in, drive_in, state_in}
use Rattle.recurrence.proofs.RowLaws.{state_at, drive_at_lem}

-- ---- question 22 and the scan

-- of the rows' entries
pub acceptable_rows :
    (j : Job) (r : Rows)
    → acceptable j (state_in j r)
    ≡ all_below (λ s. acceptable_at (floor_at j s) (point_in r s)) (sections j) && all_below (λ y. finite_drive (drive_in r y)) (length j.nodes)
unfolding acceptable
acceptable_rows j r =
    ap₂ ◌&&◌ (all_cong (sections j) _ _ (λ s l. ap (acceptable_at (floor_at j s)) (state_at j r s l)))
    (all_cong (length j.nodes) _ _ (λ y l. ap finite_drive (drive_at_lem j r y l)))

-- v of a node at a step, of the rows' entries
pub value_rows : (j : Job) (n : ℕ) (r : Rows) (y : ℕ) → y < length j.nodes → value_at j n (state_in j r) y ≡ value_by j.trips n y (drive_in r y) (scheduled j n y)
unfolding value_at
value_rows j n r y l = ap (λ (d : Drive). value_by j.trips n y d (scheduled j n y)) (drive_at_lem j r y l)

-- ---- step by step

module _ (j : Job) (m : ℕ) (st : State) where
  -- a step that finds no fault, and the steps after it
  pub steps_on : (N : ℕ) → scan j (advanced j (m + 1) st) ≡ none → steps j (suc N) m st ≡ steps j N (m + 1) (advanced j (m + 1) st)
  unfolding steps onward step outcome_of
  steps_on N e = let d : suc m ≡ m + 1 = omega arith in rw (d, e)

  -- a step that finds one
  pub steps_stop : (N : ℕ) (c : Cause) (s : ℕ) → scan j (advanced j (m + 1) st) ≡ fault c s → steps j (suc N) m st ≡ ran record { done = m; state = st } (stop c s)
  unfolding steps onward step outcome_of
  steps_stop N c s e = let d : suc m ≡ m + 1 = omega arith in rw (d, e)

-- what follows some steps: on from what they left, unless one stopped the run
unfoldable pub and_then : (Run → Result) → Result → Result
and_then more (refused q) = refused q
and_then more (ran r completed) = more r
and_then more (ran r (stop c s)) = ran r (stop c s)

pub steps_join : (j : Job) (a b m : ℕ) (st : State) → steps j (a + b) m st ≡ and_then (λ r. steps j b r.done r.state) (steps j a m st)
unfolding steps onward and_then
steps_join j zero b m st = ap (λ (N : ℕ). steps j N m st) (zero-add b)
steps_join j (suc a) b m st = ap (λ (N : ℕ). steps j N m st) (let e : suc a + b ≡ suc (a + b) = omega arith in e) ∙ go (steps_join j a b (suc m)) (step j (suc m) st)
  where
    go : ((new : State) → steps j (a + b) (suc m) new ≡ and_then (λ r. steps j b r.done r.state) (steps j a (suc m) new)) → (o : Outcome)
        → onward m st (λ new. steps j (a + b) (suc m) new) o ≡ and_then (λ r. steps j b r.done r.state) (onward m st (λ new. steps j a (suc m) new) o)
    go later (finished new) = later new
    go later (stopped c s) = refl

-- where none stops the run, as many are done as were asked for
done_in : Result → ℕ
done_in (refused q) = 0
done_in (ran r e) = r.done

all_done : Result → Bool
all_done (refused q) = false
all_done (ran r completed) = true
all_done (ran r (stop c s)) = false

pub steps_count : (j : Job) (N m : ℕ) (st : State) (r : Run) → steps j N m st ≡ ran r completed → r.done ≡ m + N
unfolding steps onward done_in all_done
steps_count j zero m st r e = sym (ap done_in e) ∙ (let d : m ≡ m + 0 = omega arith in d)
steps_count j (suc N) m st r e = go (λ new f. steps_count j N (suc m) new r f) (step j (suc m) st) e
  where
    go : ((new : State) → steps j N (suc m) new ≡ ran r completed → r.done ≡ suc m + N) → (o : Outcome)
        → onward m st (λ new. steps j N (suc m) new) o ≡ ran r completed → r.done ≡ m + suc N
    go later (finished new) e = later new e ∙ (let d : suc m + N ≡ m + suc N = omega arith in d)
    go later (stopped c s) e = absurd (true≢false (sym (ap all_done e)))
