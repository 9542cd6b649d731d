-- What a list of calls leaves is the state after so many finished steps, and the number of them is carried from call to call. Assumes nothing.
use mathlib.Core.Path.{◌≡◌, refl}
use mathlib.Core.List.{List, [], ◌∷◌}
use Prim.Native.Nat.{ℕ, zero, suc, ◌+◌, ◌<◌}
use native.Mathlib.Omega.{arith}
use lib.ListN.{length}
use Rattle.job.specs.Job.{Job, sections}
use Rattle.recurrence.specs.State.{State, start_state}
use Rattle.recurrence.specs.Step.{advanced}
use Rattle.recurrence.specs.Scan.{Fault, none, fault, scan, Outcome, finished, stopped, outcome_of, step, acceptable}
use Rattle.recurrence.specs.Run.{Run, Result, refused, ran, Ending, completed, stop, ask, Call, onward, steps, within_limit, run_on, started, left_by, played_from, played, one_more, finished_of, if_ran, steps_by, steps_done_from, steps_done}
use Rattle.loops.proofs.Tests.{cond_all}
use Rattle.loops.proofs.Listed.{length-listed}

-- a state with a point for each section and a drive for each node
pub record Sized (j : Job) (st : State) : Type 0 where
  pub points : length st.points ≡ sections j
  pub drives : length st.drives ≡ length j.nodes

-- ---- the state after m finished steps

abbrev pub Reached : Job → ℕ → State → Type 0
Reached j zero st = st ≡ start_state j
Reached j (suc m) st = (old : State) × Reached j m old × (step j (suc m) old ≡ finished st)

pub finished_advanced : (j : Job) (n : ℕ) (old st : State) → step j n old ≡ finished st → advanced j n old ≡ st
unfolding step outcome_of
finished_advanced j n old st e = go (scan j (advanced j n old)) e
  where
    go : (o : Fault) → outcome_of (advanced j n old) o ≡ finished st → advanced j n old ≡ st
    go none e = cc
    go (fault c s) e = cc

finished_sized : (j : Job) (n : ℕ) (old st : State) → step j n old ≡ finished st → Sized j st
unfolding advanced
finished_sized j n old st e =
    rw (← (finished_advanced j n old st e)) (record { points = length-listed (sections j) _; drives = length-listed (length j.nodes) _ })

abbrev Stands : Job → Run → Type 0
Stands j r = Reached j r.done r.state

-- ---- the steps of a call

-- what steps come to: they ran, from one reached state to another, and left as many more steps done as finished; and the state has its size
pub record RanSteps (j : Job) (N m : ℕ) (st : State) : Type 0 where
  pub run : Run
  pub ending : Ending
  pub is : steps j N m st ≡ ran run ending
  pub done : run.done ≡ m + finished_of j N m st
  pub stands : Reached j m st → Stands j run
  pub sized : Sized j st → Sized j run.state

pub steps_ran : (j : Job) (N m : ℕ) (st : State) → RanSteps j N m st
unfolding steps onward finished_of one_more
steps_ran j zero m st = record { run = record { done = m; state = st }; ending = completed; is = refl; done = omega arith; stands = λ h. h; sized = λ h. h }
steps_ran j (suc N) m st = go (step j (suc m) st) refl (λ new. steps_ran j N (suc m) new)
  where
    go : (o : Outcome) → step j (suc m) st ≡ o → ((new : State) → RanSteps j N (suc m) new) → RanSteps j (suc N) m st
    go (finished new) e h =
        let x = h new in
        let d = x.done in
        record {
          run = x.run;
          ending = x.ending;
          is = rw e x.is;
          done = rw e (omega arith);
          stands = λ u. x.stands (st, u, e);
          sized = λ _. x.sized (finished_sized j (suc m) st new e);
        }
    go (stopped c s) e h = record { run = record { done = m; state = st }; ending = stop c s; is = rw e; done = rw e (omega arith); stands = λ u. u; sized = λ u. u }

-- a call ran its steps or was refused, by a number below those of the stops
pub run_on_all : (P : Result → Type 0) (j : Job) (c : Call) (r : Run)
    → P (steps j c.count r.done r.state) → ((q : ℕ) → 0 < q → q < 40 → P (refused q)) → P (run_on j c r)
unfolding run_on ask
run_on_all P j c r h k =
    cond_all P c.enough
    (cond_all P (within_limit r.done c.count) (cond_all P (acceptable j r.state) h (k 22 (omega arith) (omega arith))) (k 21 (omega arith) (omega arith)))
    (k 20 (omega arith) (omega arith))

call_stands : (j : Job) (c : Call) (r : Run) → Stands j r → Stands j (left_by r (run_on j c r))
unfolding left_by
call_stands j c r h =
    let x = steps_ran j c.count r.done r.state in
    run_on_all (λ y. Stands j (left_by r y)) j c r (rw x.is (x.stands h)) (λ q _ _. h)

pub call_counts : (j : Job) (c : Call) (r : Run) → (left_by r (run_on j c r)).done ≡ r.done + steps_by j c r
unfolding left_by steps_by if_ran
call_counts j c r =
    let n = finished_of j c.count r.done r.state in
    let x = steps_ran j c.count r.done r.state in
    run_on_all (λ y. (left_by r y).done ≡ r.done + if_ran y n) j c r (rw x.is x.done) (λ q _ _. omega arith)

-- ---- lists of calls

played_from_stands : (j : Job) (r : Run) (cs : List Call) → Stands j r → Stands j (played_from j r cs)
unfolding played_from
played_from_stands j r [] h = h
played_from_stands j r (c ∷ cs) h = played_from_stands j (left_by r (run_on j c r)) cs (call_stands j c r h)

pub played_stands : (j : Job) (cs : List Call) → Reached j (played j cs).done (played j cs).state
unfolding played started
played_stands j cs = played_from_stands j (started j) cs refl

played_from_counts : (j : Job) (r : Run) (cs : List Call) → (played_from j r cs).done ≡ r.done + steps_done_from j r cs
unfolding played_from steps_done_from
played_from_counts j r [] = omega arith
played_from_counts j r (c ∷ cs) = omega (arith, played_from_counts j (left_by r (run_on j c r)) cs, call_counts j c r)

-- the sum of the steps that the calls did is the number carried
pub played_counts : (j : Job) (cs : List Call) → (played j cs).done ≡ steps_done j cs
unfolding played started steps_done
played_counts j cs = omega (arith, played_from_counts j (started j) cs)
