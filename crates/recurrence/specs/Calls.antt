-- What each public call does to the lent rows and what it answers: one definition for each call, refusals included. Definitions only.
use Rattle.std.specs.Prelude.{Bool, true, cond, ◌&&◌, ℕ, ◌*◌, leb, eqb, length, get_or, drop, replicate, Float}
use mathlib.Core.List.{List, [], ◌∷◌, ◌++◌, foldr, map}
use Rattle.fields.specs.Real.{zero64}
use Rattle.job.specs.Job.{Job, sections}
use Rattle.job.specs.Format.{job_of}
use Rattle.loops.specs.Loops.{listed}
use Rattle.job.specs.Questions.{refusal}
use Rattle.recurrence.specs.State.{Point, Drive, State}
use Rattle.recurrence.specs.Run.{Result, refused, ran, Answer, answer_of, start, run_on}

-- "Heads, flows, two envelopes .. are lent slices of f64 numbers, to start and run-on alike"; request 7: "a speed and an inflow per node, lent with the rest";
-- "The spare becomes one slice of two values per pipe end, four per pipe": the name of each, and all of them in the order in which they are lent.
pub data Row : Type 0 where
  heads : Row
  flows : Row
  highest : Row
  lowest : Row
  speeds : Row
  inflows : Row
  spare : Row

abbrev pub all_rows : List Row
all_rows = heads ∷ flows ∷ highest ∷ lowest ∷ speeds ∷ inflows ∷ spare ∷ []

-- what the lent slices hold, each by its name
abbrev pub Rows : Type 0
Rows = Row → List Float

-- one thing for each row, in that order, by the row's name
abbrev pub gathered : {A : Type 0} → A → A → A → A → A → A → A → Row → A
gathered h q u l v i e heads = h
gathered h q u l v i e flows = q
gathered h q u l v i e highest = u
gathered h q u l v i e lowest = l
gathered h q u l v i e speeds = v
gathered h q u l v i e inflows = i
gathered h q u l v i e spare = e

-- whether every row passes a test
abbrev pub every : (Row → Bool) → Bool
every test = foldr (λ x rest. test x && rest) true all_rows

-- how many entries of a row a job uses, "the count in use": "the section count", of speeds and inflows "the node count", and of the spare "four per pipe"
abbrev pub in_use : Job → Row → ℕ
in_use j heads = sections j
in_use j flows = sections j
in_use j highest = sections j
in_use j lowest = sections j
in_use j speeds = length j.nodes
in_use j inflows = length j.nodes
in_use j spare = length j.pipes * 4

-- question 20: "does each lent slice hold the section count?", of speeds and inflows: "that these slices hold the node count", and of the spare: "asks for
-- that length of it instead"
unfoldable pub enough_lent : Job → Rows → Bool
enough_lent j r = every (λ x. leb (in_use j x) (length (r x)))

-- the state that lent rows hold
unfoldable pub point_in : Rows → ℕ → Point
point_in r s = record {
  head = get_or (r heads) s zero64;
  flow = get_or (r flows) s zero64;
  highest = get_or (r highest) s zero64;
  lowest = get_or (r lowest) s zero64;
}

unfoldable pub drive_in : Rows → ℕ → Drive
drive_in r node = record { speed = get_or (r speeds) node zero64; inflow = get_or (r inflows) node zero64 }

unfoldable pub state_in : Job → Rows → State
state_in j r = record { points = listed (sections j) (point_in r); drives = listed (length j.nodes) (drive_in r) }

-- What a row holds of a state in the entries in use: a field of each point, or of each drive; of the spare, "after an unrefused call that many of its entries are +0".
unfoldable pub holds : Job → State → Rows
holds j st heads = map (λ p. p.head) st.points
holds j st flows = map (λ p. p.flow) st.points
holds j st highest = map (λ p. p.highest) st.points
holds j st lowest = map (λ p. p.lowest) st.points
holds j st speeds = map (λ d. d.speed) st.drives
holds j st inflows = map (λ d. d.inflow) st.drives
holds j st spare = replicate (in_use j spare) zero64

-- The rows after an unrefused call: "entries past the count in use are untouched".
unfoldable pub rows_of : Job → State → Rows → Rows
rows_of j st lent x = holds j st x ++ drop (in_use j x) (lent x)

-- the rows after a call: as they were where it is refused
unfoldable pub rows_after : Job → Rows → Result → Rows
rows_after j lent (refused q) = lent
rows_after j lent (ran r e) = rows_of j r.state lent

-- What a call leaves in the rows, and its answer.
pub record Called : Type 0 where
  pub rows : Rows
  pub answer : Answer

-- "Questions 1 to 15 go to every call that takes a job."
unfoldable pub read_first : List ℕ → (Job → Result) → Result
read_first bytes call = cond (eqb (refusal bytes) 0) (call (job_of bytes)) (refused (refusal bytes))

unfoldable pub called : List ℕ → Rows → Result → Called
called bytes lent x = record { rows = rows_after (job_of bytes) lent x; answer = answer_of x }

-- the start: the questions to a job, then 20
unfoldable pub start_result : List ℕ → Rows → Result
start_result bytes lent = read_first bytes (λ j. start j (enough_lent j lent))

unfoldable pub start_call : List ℕ → Rows → Called
start_call bytes lent = called bytes lent (start_result bytes lent)

-- the run-on with m and N: the questions to a job, then 20, 21 and 22
unfoldable pub run_on_result : List ℕ → ℕ → ℕ → Rows → Result
run_on_result bytes m N lent =
    read_first bytes (λ j. run_on j record { count = N; enough = enough_lent j lent } record { done = m; state = state_in j lent })

unfoldable pub run_on_call : List ℕ → ℕ → ℕ → Rows → Called
run_on_call bytes m N lent = called bytes lent (run_on_result bytes m N lent)
