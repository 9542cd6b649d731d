-- Lists of public calls on lent rows, as a caller makes them, and what ties them to the lists of demand 3. Definitions only.
use Rattle.std.specs.Prelude.{◌≡◌, Bool, true, false, cond, not, ◌&&◌, List, [], ◌∷◌, map, ℕ, ◌≤◌, eqb, take}
use Rattle.job.specs.Job.{Job}
use Rattle.job.specs.Format.{job_of}
use Rattle.recurrence.specs.State.{State}
use Rattle.recurrence.specs.Run.{Answer, Call, played, answers, steps_done}
use Rattle.recurrence.specs.Calls.{Row, heads, flows, highest, lowest, speeds, inflows, spare, Rows, in_use, enough_lent, point_in, drive_in, holds, start_call, run_on_call}
use Rattle.recurrence.specs.Demand.{AlikeBut, AlikeBefore, Seen, Carried}

-- A run-on as a caller makes it: N, and the rows lent to it.
pub record LentCall : Type 0 where
  pub count : ℕ
  pub rows : Rows

-- What a caller holds between calls: the steps done, and the rows that the last unrefused call left.
pub record Held : Type 0 where
  pub done : ℕ
  pub rows : Rows

-- "A stop is not a refusal": a refusal's number is neither 0 nor a stop's.
unfoldable pub is_refusal : Answer → Bool
is_refusal a = not (eqb a.number 0) && not (eqb a.number 40) && not (eqb a.number 41)

-- A start that isn't refused, and what it leaves.
abbrev pub Started : List ℕ → Rows → Type 0
Started job lent = (start_call job lent).answer.number ≡ 0

unfoldable pub held_at_start : List ℕ → Rows → Held
held_at_start job lent = record { done = 0; rows = (start_call job lent).rows }

-- A run-on with the steps done for m: "a refused call alters none of these".
unfoldable pub answer_at : List ℕ → Held → LentCall → Answer
answer_at job h c = (run_on_call job h.done c.count c.rows).answer

unfoldable pub held_after : List ℕ → Held → LentCall → Held
held_after job h c =
    cond (is_refusal (answer_at job h c)) h
    record { done = (answer_at job h c).steps; rows = (run_on_call job h.done c.count c.rows).rows }

unfoldable pub held_from : List ℕ → Held → List LentCall → Held
held_from job h [] = h
held_from job h (c ∷ cs) = held_from job (held_after job h c) cs

unfoldable pub answers_to : List ℕ → Held → List LentCall → List Answer
answers_to job h [] = []
answers_to job h (c ∷ cs) = answer_at job h c ∷ answers_to job (held_after job h c) cs

-- after a start and a list of run-ons: what is held, and what each was answered
unfoldable pub held_by : List ℕ → Rows → List LentCall → Held
held_by job lent cs = held_from job (held_at_start job lent) cs

unfoldable pub answers_by : List ℕ → Rows → List LentCall → List Answer
answers_by job lent cs = answers_to job (held_at_start job lent) cs

-- the rows that a caller carries from call to call: all but the spare
abbrev pub carried : Row → Bool
carried heads = true
carried flows = true
carried highest = true
carried lowest = true
carried speeds = true
carried inflows = true
carried spare = false

-- two sets of rows hold the same state and envelopes in the entries in use
abbrev pub SameUpTo : Job → Rows → Rows → Type 0
SameUpTo j a b = (x : Row) → carried x ≡ true → take (in_use j x) (a x) ≡ take (in_use j x) (b x)

-- "All get the state and envelopes so left; .. a call refused there may be lent less than the whole state": there is question 20.
unfoldable pub Chained : List ℕ → Held → List LentCall → Type 0
Chained job h [] = Unit {0}
Chained job h (c ∷ cs) =
    (enough_lent (job_of job) c.rows ≡ true → SameUpTo (job_of job) c.rows h.rows) × Chained job (held_after job h c) cs

-- ---- what ties them to demand 3

-- a call as demand 3 speaks of it: N, and the answer to question 20
unfoldable pub call_of : List ℕ → LentCall → Call
call_of job c = record { count = c.count; enough = enough_lent (job_of job) c.rows }

-- rows hold a state in the entries in use, with its envelopes
abbrev pub Holds : Job → Rows → State → Type 0
Holds j r st = (x : Row) → carried x ≡ true → take (in_use j x) (r x) ≡ holds j st x

-- The public calls leave the rows, the steps done and the answers that demand 3 speaks of.
pub record Tied (job : List ℕ) (lent : Rows) (cs : List LentCall) : Type 0 where
  pub rows : Holds (job_of job) (held_by job lent cs).rows (played (job_of job) (map (call_of job) cs)).state
  pub done : (held_by job lent cs).done ≡ steps_done (job_of job) (map (call_of job) cs)
  pub answered : answers_by job lent cs ≡ answers (job_of job) (map (call_of job) cs)

abbrev pub CallsTied : Type 0
CallsTied =
    (job : List ℕ) (lent : Rows) → Started job lent
    → (cs : List LentCall) → Chained job (held_at_start job lent) cs → Tied job lent cs

-- ---- demand 3 as a caller sees it, in rows and answers

-- after a start and the calls, in the rows that the last one left
abbrev pub seen_in : List ℕ → Rows → List LentCall → Seen
seen_in job lent cs =
    let held = held_by job lent cs in
    record { done = held.done; point = point_in held.rows; drive = drive_in held.rows; answers = answers_by job lent cs }

-- "The same calls means the same N and the same answer to question 20, call by call."
abbrev pub Demand3InRows : Type 0
Demand3InRows =
    (a b : List ℕ) (lent_a lent_b : Rows) → Started a lent_a → Started b lent_b
    → (x k : ℕ) → 1 ≤ k → AlikeBut x (job_of a) (job_of b) → AlikeBefore k x (job_of a) (job_of b)
    → (calls_a calls_b : List LentCall) → map (call_of a) calls_a ≡ map (call_of b) calls_b
    → Chained a (held_at_start a lent_a) calls_a → Chained b (held_at_start b lent_b) calls_b
    → Carried (job_of a) x k (seen_in a lent_a calls_a) (seen_in b lent_b calls_b)
