-- The public calls, each on rows that hold what the last one left, come to what the lists of demand 3 come to: by induction over the list. Assumes nothing.
use mathlib.Core.Path.{◌≡◌, refl, ap₂, ◌∙◌}
use mathlib.Core.Bool.{Bool, true, false, cond}
use mathlib.Core.List.{List, [], ◌∷◌, map}
use Prim.Native.Nat.{ℕ, ◌<◌}
use native.Mathlib.Omega.{arith}
use lib.Dec.{eqb}
use lib.ListN.{length}
use borrow.Author.Tests.{ne_eqb, eqb-true, eqb-false}
use Rattle.job.specs.Job.{Job, sections, initial_at}
use Rattle.job.specs.Format.{job_of}
use Rattle.job.specs.Questions.{refusal}
use Rattle.recurrence.specs.State.{start_point, start_drive, start_state}
use Rattle.recurrence.specs.Scan.{not_finite, parted, cause_number}
use Rattle.recurrence.specs.Run.{Run, Result, refused, ran, Ending, completed, stop, stop_answer, answer_of, ask, started, start, run_on, left_by, played_from, played, answers_from, answers}
use Rattle.recurrence.specs.Calls.{Rows, enough_lent, state_in, rows_after, read_first, called, start_result, start_call, run_on_result, run_on_call}
use Rattle.recurrence.specs.Lent.{LentCall, Held, is_refusal, Started, held_at_start, answer_at, held_after, held_from, answers_to, held_by, answers_by, SameUpTo, Chained, call_of, Holds, CallsTied}
use Rattle.loops.proofs.Listed.{length-listed}
use Rattle.recurrence.proofs.RowLaws.{holds_state, rows_hold_lem}
use Rattle.recurrence.proofs.Runs.{Sized, steps_ran, run_on_all, played_counts}

-- ---- the start

module _ (job : List ℕ) where
  abbrev j : Job
  j = job_of job

  pub start_sized : Sized j (start_state j)
  unfolding start_state
  start_sized = record { points = length-listed (sections j) (λ s. start_point (initial_at j s)); drives = length-listed (length j.nodes) (start_drive j) }

  -- a start that isn't refused: the job is accepted, and enough is lent
  pub record Begun (lent : Rows) : Type 0 where
    pub accepted : refusal job ≡ 0
    pub enough : enough_lent j lent ≡ true

  pub begun : (lent : Rows) → Started job lent → Begun lent
  unfolding start_call start_result called read_first start ask answer_of
  begun lent h = go (eqb (refusal job) 0) refl (enough_lent j lent) refl h
    where
      go : (b : Bool) → eqb (refusal job) 0 ≡ b → (e : Bool) → enough_lent j lent ≡ e
          → (answer_of (cond b (ask 20 e (ran (started j) completed)) (refused (refusal job)))).number ≡ 0 → Begun lent
      go true p true q h = record { accepted = eqb-true _ _ p; enough = q }
      go true p false q h = absurd (omega arith)
      go false p true q h = absurd (eqb-false _ _ p h)
      go false p false q h = absurd (eqb-false _ _ p h)

  -- what a caller holds is what a run has come to
  pub record Follows (h : Held) (r : Run) : Type 0 where
    pub done : h.done ≡ r.done
    pub rows : Holds j h.rows r.state
    pub sized : Sized j r.state

  start_follows : (lent : Rows) → Begun lent → Follows (held_at_start job lent) (started j)
  unfolding held_at_start start_call start_result called read_first start ask started rows_after
  start_follows lent b =
      record { done = refl; rows = rw (b.accepted, b.enough) (λ x _. rows_hold_lem j (start_state j) lent start_sized x); sized = start_sized }

  -- ---- one run-on

  -- a call refused by question 20 reads no state
  same_result : refusal job ≡ 0 → (h : Held) (c : LentCall) (r : Run) → Follows h r → (enough_lent j c.rows ≡ true → SameUpTo j c.rows h.rows)
      → run_on_result job h.done c.count c.rows ≡ run_on j (call_of job c) r
  unfolding run_on_result read_first call_of run_on ask
  same_result ok h c r f s = rw ok (go (enough_lent j c.rows) s)
    where
      go : (b : Bool) → (b ≡ true → SameUpTo j c.rows h.rows)
          → run_on j record { count = c.count; enough = b } record { done = h.done; state = state_in j c.rows } ≡ run_on j record { count = c.count; enough = b } r
      go true s =
          let e = holds_state j c.rows r.state (λ x k. s refl x k ∙ f.rows x k) f.sized in
          rw (e, f.done)
      go false s = refl

  ran_no_refusal : (r : Run) (e : Ending) → (is_refusal (answer_of (ran r e)) ≡ false) × ((answer_of (ran r e)).steps ≡ r.done)
  unfolding is_refusal answer_of stop_answer cause_number
  ran_no_refusal r completed = (refl, refl)
  ran_no_refusal r (stop not_finite s) = (refl, refl)
  ran_no_refusal r (stop parted s) = (refl, refl)

  is_refusal_lem : (q : ℕ) → 0 < q → q < 40 → is_refusal (answer_of (refused q)) ≡ true
  unfolding is_refusal answer_of
  is_refusal_lem q lo hi = rw (ne_eqb q 0 (λ e. omega arith), ne_eqb q 40 (λ e. omega arith), ne_eqb q 41 (λ e. omega arith))

  -- what a call of a given result leaves
  abbrev after : Held → LentCall → Result → Held
  after h c x = cond (is_refusal (answer_of x)) h record { done = (answer_of x).steps; rows = rows_after j c.rows x }

  after_follows : (h : Held) (c : LentCall) (r : Run) → Follows h r → Follows (after h c (run_on j (call_of job c) r)) (left_by r (run_on j (call_of job c) r))
  unfolding left_by rows_after call_of
  after_follows h c r f =
      let x = steps_ran j c.count r.done r.state in
      let w = ran_no_refusal x.run x.ending in
      let z = x.sized f.sized in
      run_on_all (λ y. Follows (after h c y) (left_by r y)) j (call_of job c) r
      (rw (x.is, w.0) (record { done = w.1; rows = λ y _. rows_hold_lem j x.run.state c.rows z y; sized = z }))
      (λ q lo hi. rw (is_refusal_lem q lo hi) f)

  -- ---- lists of calls

  module _ (ok : refusal job ≡ 0) where
    call_follows : (h : Held) (c : LentCall) (r : Run) → Follows h r → (enough_lent j c.rows ≡ true → SameUpTo j c.rows h.rows)
        → Follows (held_after job h c) (left_by r (run_on j (call_of job c) r)) × (answer_at job h c ≡ answer_of (run_on j (call_of job c) r))
    unfolding held_after answer_at run_on_call called
    call_follows h c r f s = rw (same_result ok h c r f s) (after_follows h c r f, refl)

    list_follows : (h : Held) (cs : List LentCall) (r : Run) → Follows h r → Chained job h cs
        → Follows (held_from job h cs) (played_from j r (map (call_of job) cs)) × (answers_to job h cs ≡ answers_from j r (map (call_of job) cs))
    unfolding Chained held_from answers_to played_from answers_from
    list_follows h [] r f ch = (f, refl)
    list_follows h (c ∷ cs) r f ch =
        let w = call_follows h c r f ch.0 in
        let v = list_follows (held_after job h c) cs (left_by r (run_on j (call_of job c) r)) w.0 ch.1 in
        (v.0, ap₂ ◌∷◌ w.1 v.1)

  pub calls_follow : (lent : Rows) → Started job lent → (cs : List LentCall) → Chained job (held_at_start job lent) cs
      → Follows (held_by job lent cs) (played j (map (call_of job) cs)) × (answers_by job lent cs ≡ answers j (map (call_of job) cs))
  unfolding held_by answers_by played answers
  calls_follow lent s cs ch =
      let b = begun lent s in
      list_follows b.accepted (held_at_start job lent) cs (started j) (start_follows lent b) ch

pub calls_tied : CallsTied
calls_tied job lent s cs ch =
    let w = calls_follow job lent s cs ch in
    record { rows = w.0.rows; done = w.0.done ∙ played_counts (job_of job) (map (call_of job) cs); answered = w.1 }
