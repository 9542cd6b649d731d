-- Two jobs whose steps before k are alike stop alike before k: as long as fewer steps are done, whole results are equal. Assumes nothing.
use mathlib.Core.Path.{◌≡◌, refl, ap}
use mathlib.Core.Bool.{Bool, true, false}
use mathlib.Core.List.{List, [], ◌∷◌}
use mathlib.Core.Option.{some}
use Prim.Native.Nat.{ℕ, zero, suc, ◌≤◌, ◌<◌}
use native.Mathlib.Omega.{arith}
use lib.ListN.{get_elem?}
use Rattle.job.specs.Job.{Job}
use Rattle.recurrence.specs.State.{State}
use Rattle.recurrence.specs.Scan.{Cause, not_finite, parted, cause_number, Outcome, finished, stopped, step, acceptable}
use Rattle.recurrence.specs.Run.{Call, Run, Result, refused, ran, Ending, completed, stop, Answer, stop_answer, answer_of, ask, onward, steps, within_limit, run_on, left_by, answers_from}
use Rattle.recurrence.proofs.Runs.{steps_ran, run_on_all, call_counts}

-- ---- a stop tells the steps done that it leaves

cause_high : (c : Cause) → 40 ≤ cause_number c
unfolding cause_number
cause_high not_finite = omega arith
cause_high parted = omega arith

Tells : Run → Cause → ℕ → ℕ → Result → Type 0
Tells r c m s x = answer_of x ≡ stop_answer c m s → (left_by r x).done ≡ m

ran_tells : (r : Run) (c : Cause) (m s : ℕ) (new : Run) (e : Ending) → Tells r c m s (ran new e)
unfolding Tells left_by answer_of stop_answer
ran_tells r c m s new completed q = omega (arith, ap (λ (a : Answer). a.number) q, cause_high c)
ran_tells r c m s new (stop d t) q = ap (λ (a : Answer). a.steps) q

refused_tells : (r : Run) (c : Cause) (m s q : ℕ) → 0 < q → q < 40 → Tells r c m s (refused q)
unfolding Tells answer_of stop_answer
refused_tells r c m s q _ l e = absurd (omega (arith, ap (λ (a : Answer). a.number) e, cause_high c))

call_tells : (j : Job) (b : Call) (r : Run) (c : Cause) (m s : ℕ) → Tells r c m s (run_on j b r)
call_tells j b r c m s =
    let x = steps_ran j b.count r.done r.state in
    run_on_all (Tells r c m s) j b r (rw x.is (ran_tells r c m s x.run x.ending)) (refused_tells r c m s)

answers_tell : (j : Job) (r : Run) (cs : List Call) (i : ℕ) (c : Cause) (m s : ℕ) → get_elem? (answers_from j r cs) i ≡ some (stop_answer c m s) → r.done ≤ m
unfolding answers_from Tells
answers_tell j r [] i c m s e = let z : ◌≡◌ {A = ℕ} 0 1 = cc in omega arith
answers_tell j r (b ∷ cs) zero c m s e = omega (arith, call_tells j b r c m s cc, call_counts j b r)
answers_tell j r (b ∷ cs) (suc i) c m s e = omega (arith, answers_tell j (left_by r (run_on j b r)) cs i c m s e, call_counts j b r)

steps_grow : (j : Job) (r : Run) (N m : ℕ) (st : State) → m ≤ (left_by r (steps j N m st)).done
unfolding left_by
steps_grow j r N m st = let x = steps_ran j N m st in rw x.is (omega (arith, x.done))

-- ---- alike before k

module _ (A B : Job) (k : ℕ) (alike : (m : ℕ) → suc m < k → (u : State) → step A (suc m) u ≡ step B (suc m) u)
    (floors : (u : State) → acceptable A u ≡ acceptable B u) where
  steps_same : (r : Run) (N m : ℕ) (st : State) → suc (left_by r (steps A N m st)).done < k → steps A N m st ≡ steps B N m st
  unfolding steps onward
  steps_same r zero m st h = refl
  steps_same r (suc N) m st h =
      let g = steps_grow A r (suc N) m st in
      rw (← (alike m (omega arith) st)) (go (step A (suc m) st) h (λ new. steps_same r N (suc m) new))
    where
      go : (o : Outcome) → suc (left_by r (onward m st (λ new. steps A N (suc m) new) o)).done < k
          → ((new : State) → suc (left_by r (steps A N (suc m) new)).done < k → steps A N (suc m) new ≡ steps B N (suc m) new)
          → onward m st (λ new. steps A N (suc m) new) o ≡ onward m st (λ new. steps B N (suc m) new) o
      go (finished new) h f = f new h
      go (stopped c s) h f = refl

  guard : (r : Run) (q : ℕ) (b : Bool) (x y : Result) → (suc (left_by r x).done < k → x ≡ y) → suc (left_by r (ask q b x)).done < k → ask q b x ≡ ask q b y
  unfolding ask
  guard r q true x y f h = f h
  guard r q false x y f h = refl

  run_same : (c : Call) (r : Run) → suc (left_by r (run_on A c r)).done < k → run_on A c r ≡ run_on B c r
  unfolding run_on
  run_same c r =
      rw (← (floors r.state))
      (guard r 20 c.enough _ _
      (guard r 21 (within_limit r.done c.count) _ _
      (guard r 22 (acceptable A r.state) _ _ (steps_same r c.count r.done r.state))))

  pub answers_same : (r : Run) (cs : List Call) (i : ℕ) (c : Cause) (m s : ℕ) → suc m < k
      → get_elem? (answers_from A r cs) i ≡ some (stop_answer c m s) → get_elem? (answers_from B r cs) i ≡ some (stop_answer c m s)
  unfolding answers_from Tells
  answers_same r [] i c m s h e = e
  answers_same r (b ∷ cs) zero c m s h e =
      let d = call_tells A b r c m s cc in
      rw (← (run_same b r (omega arith))) e
  answers_same r (b ∷ cs) (suc i) c m s h e =
      let d = answers_tell A (left_by r (run_on A b r)) cs i c m s e in
      rw (← (run_same b r (omega arith))) (answers_same (left_by r (run_on A b r)) cs i c m s h e)
