-- The start, the run-on and lists of calls, on states. Definitions only.
use Rattle.std.specs.Prelude.{Bool, cond, ◌&&◌, List, [], ◌∷◌, ℕ, zero, suc, ◌+◌, ◌-◌, leb}
use Rattle.job.specs.Job.{Job}
use Rattle.recurrence.specs.State.{State, start_state}
use Rattle.recurrence.specs.Scan.{Cause, cause_number, Outcome, finished, stopped, step, acceptable}

-- What a run has come to: m, the number of steps done, and the state with its envelopes.
pub record Run : Type 0 where
  pub done : ℕ
  pub state : State

-- How an unrefused call ends: all its steps done, or a stop for a cause at a section. "A stop is not a refusal."
pub data Ending : Type 0 where
  completed : Ending
  stop : Cause → ℕ → Ending

-- What a call comes to: refused by a question's number, or what it leaves and how it ended.
pub data Result : Type 0 where
  refused : ℕ → Result
  ran : Run → Ending → Result

-- The paper's answer: the number of a refusal or of a stop, 0 where there is neither; "the result carries the steps done in all, and for a stop
-- the section"; "a no gives the number alone".
pub record Answer : Type 0 where
  pub number : ℕ
  pub steps : ℕ
  pub section : ℕ

unfoldable pub stop_answer : Cause → ℕ → ℕ → Answer
stop_answer c m s = record { number = cause_number c; steps = m; section = s }

unfoldable pub answer_of : Result → Answer
answer_of (refused q) = record { number = q; steps = 0; section = 0 }
answer_of (ran r completed) = record { number = 0; steps = r.done; section = 0 }
answer_of (ran r (stop c s)) = stop_answer c r.done s

-- question q: "A no gives the number alone and writes nothing. .. The first no decides."
unfoldable pub ask : ℕ → Bool → Result → Result
ask q holds next = cond holds next (refused q)

-- ---- the start

unfoldable pub started : Job → Run
started j = record { done = 0; state = start_state j }

-- enough: question 20, "does each lent slice hold the section count?"
unfoldable pub start : Job → Bool → Result
start j enough = ask 20 enough (ran (started j) completed)

-- ---- the run-on

-- after m steps, what follows the next one: on with the new state, or the stop with the old
unfoldable pub onward : ℕ → State → (State → Result) → Outcome → Result
onward m st more (finished new) = more new
onward m st more (stopped c s) = ran record { done = m; state = st } (stop c s)

-- "Does N steps, fewer only where one stops the run."
unfoldable pub steps : Job → ℕ → ℕ → State → Result
steps j zero m st = ran record { done = m; state = st } completed
steps j (suc N) m st = onward m st (λ new. steps j N (suc m) new) (step j (suc m) st)

-- question 21: "is m at most 1,000,000 and N at most 1,000,000 - m?"
unfoldable pub within_limit : ℕ → ℕ → Bool
within_limit m N = leb m 1_000_000 && leb N (1_000_000 - m)

-- A call of the run-on: N, and the answer to question 20.
pub record Call : Type 0 where
  pub count : ℕ
  pub enough : Bool

unfoldable pub run_on : Job → Call → Run → Result
run_on j c r =
    ask 20 c.enough
    (ask 21 (within_limit r.done c.count)
    (ask 22 (acceptable j r.state)
    (steps j c.count r.done r.state)))

-- ---- lists of calls: "Demand 3's list follows one start that isn't refused."

-- "A refused call alters none of these."
unfoldable pub left_by : Run → Result → Run
left_by r (refused q) = r
left_by r (ran new e) = new

-- "Its first run-on has m = 0, each later one the steps done left before it, and all get the state and envelopes so left."
unfoldable pub played_from : Job → Run → List Call → Run
played_from j r [] = r
played_from j r (c ∷ cs) = played_from j (left_by r (run_on j c r)) cs

unfoldable pub answers_from : Job → Run → List Call → List Answer
answers_from j r [] = []
answers_from j r (c ∷ cs) = answer_of (run_on j c r) ∷ answers_from j (left_by r (run_on j c r)) cs

unfoldable pub played : Job → List Call → Run
played j cs = played_from j (started j) cs

unfoldable pub answers : Job → List Call → List Answer
answers j cs = answers_from j (started j) cs

-- ---- "After the list, m is the sum of the steps that its unrefused calls did, 0 for an empty list."

-- how many of N steps finish, after m steps
unfoldable pub one_more : (State → ℕ) → Outcome → ℕ
one_more more (finished new) = suc (more new)
one_more more (stopped c s) = 0

unfoldable pub finished_of : Job → ℕ → ℕ → State → ℕ
finished_of j zero m st = 0
finished_of j (suc N) m st = one_more (λ new. finished_of j N (suc m) new) (step j (suc m) st)

-- the steps that a call did
unfoldable pub if_ran : Result → ℕ → ℕ
if_ran (refused q) n = 0
if_ran (ran r e) n = n

unfoldable pub steps_by : Job → Call → Run → ℕ
steps_by j c r = if_ran (run_on j c r) (finished_of j c.count r.done r.state)

unfoldable pub steps_done_from : Job → Run → List Call → ℕ
steps_done_from j r [] = 0
steps_done_from j r (c ∷ cs) = steps_by j c r + steps_done_from j (left_by r (run_on j c r)) cs

unfoldable pub steps_done : Job → List Call → ℕ
steps_done j cs = steps_done_from j (started j) cs
