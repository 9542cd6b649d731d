-- What demand 3 has to give of a node's speed and inflow at its border (request 7), each case for two jobs of bytes. Definitions only.
use Rattle.std.specs.Prelude.{◌≡◌, List, ℕ}
use Rattle.job.specs.Format.{job_of}
use Rattle.recurrence.specs.State.{drive_at}
use Rattle.recurrence.specs.Run.{Call, played, steps_done}
use Rattle.recurrence.specs.TrippedJobs.{tripped, tripped_rising}
use Rattle.border_cases.specs.Jobs.{tripped_slower, tripped_higher, pumping, pumping_slower, pump_beside, pump_beside_higher, in_three, after_refusal}

-- a node holds the same pair after both runs by a list of calls; the same inflow
abbrev pub SamePair : List ℕ → List ℕ → List Call → ℕ → Type 0
SamePair a b calls y = drive_at (played (job_of a) calls).state y ≡ drive_at (played (job_of b) calls).state y

abbrev pub SameInflow : List ℕ → List ℕ → List Call → ℕ → Type 0
SameInflow a b calls y = (drive_at (played (job_of a) calls).state y).inflow ≡ (drive_at (played (job_of b) calls).state y).inflow

pub record NodeCases : Type 0 where
  -- After no step. With k = 2 the edited pump has the same pair. With k = 1 it has the same inflow, and its speed is the exception: another one.
  pub at_the_start : SamePair pumping pumping_slower (after_refusal 0) 0
  pub inflow_at_the_start : SameInflow tripped tripped_slower (after_refusal 0) 0
  pub first_entry : ¬ SamePair tripped tripped_slower (after_refusal 0) 0
  -- With k = 1 and the reservoir edited, the pump has the same pair, and so has the reservoir, which is no pump.
  pub another_edited : SamePair tripped tripped_higher (after_refusal 0) 0
  pub not_a_pump : SamePair tripped tripped_higher (after_refusal 0) 1
  -- A tripped pump, and its reservoir, two reaches off, at 10 from step 2 on: k = 2, d = 2. The pair is the same after three steps, the inflow something else
  -- after four.
  pub at_the_pump : SamePair tripped tripped_rising (after_refusal 3) 0
  pub inflow_at_the_pump : SameInflow tripped tripped_rising (after_refusal 3) 0
  pub inflow_no_longer : ¬ SameInflow tripped tripped_rising (after_refusal 4) 0
  -- The entries of the pump itself, 1/2 from step 2 on: k = 2, d = 0. The same after one step, another inflow after two.
  pub at_the_node : SamePair pumping pumping_slower (after_refusal 1) 0
  pub at_the_node_no_longer : ¬ SameInflow pumping pumping_slower (after_refusal 2) 0

-- A pump in a main that no path joins to the edited node: k = 1, and the same after any list of calls, at every m.
pub record NodeApartCases : Type 0 where
  pub second_main : (calls : List Call) → steps_done (job_of pump_beside) calls ≡ steps_done (job_of pump_beside_higher) calls → SamePair pump_beside pump_beside_higher calls 2
  pub both_done : (steps_done (job_of pump_beside) in_three ≡ 10) × (steps_done (job_of pump_beside_higher) in_three ≡ 10)
