-- What demand 3 as a caller sees it, what ties it to the public calls, and the two laws of continued runs have to give at their border: after a start and four
-- calls on lent rows, two of them refused, the last one stopped, or of a job with a pump finished. Definitions only.
use Rattle.std.specs.Prelude.{◌≡◌, true, List, [], ◌∷◌, map, ℕ, get_or, take}
use Rattle.std.proofs.Math.Option.{some}
use Rattle.std.proofs.Math.ListN.{get_elem?}
use Rattle.std.specs.Float.Ieee.Scale.{finite}
use Rattle.fields.specs.Real.{zero64}
use Rattle.wave.specs.Figures.{num}
use Rattle.job.specs.Format.{job_of}
use Rattle.recurrence.specs.Scan.{parted, acceptable}
use Rattle.recurrence.specs.Run.{stop_answer}
use Rattle.recurrence.specs.Calls.{Row, heads, flows, highest, lowest, speeds, inflows, gathered, point_in, drive_in, state_in}
use Rattle.recurrence.specs.Lent.{LentCall, Held, Started, held_at_start, held_by, answers_by, carried, Chained, call_of}
use Rattle.recurrence.specs.Figures.{lent_sevens, refusal, done}
use Rattle.recurrence.specs.OwnFigures.{sevens, patterns, ◌are◌}
use Rattle.recurrence.specs.TrippedJobs.{tripped, tripped_rising}
use Rattle.border_cases.specs.Jobs.{parting, parting_late, parting_low, four_calls}

-- Rows with an entry more than is in use, and just enough; each run is lent its own, and its first call too few of another row.
abbrev pub calls_from : List ℕ → List LentCall
calls_from job = four_calls 9 job lent_sevens heads

abbrev pub other_calls_from : List ℕ → List LentCall
other_calls_from job = four_calls 9 job (sevens 3 2 4) flows

-- what a caller holds after a start and the calls
abbrev pub held : List ℕ → Held
held job = held_by job lent_sevens (calls_from job)

abbrev pub other_held : List ℕ → Held
other_held job = held_by job (sevens 3 2 4) (other_calls_from job)

-- The same for a job with a pump, three steps in all; the first call has too few speeds, or inflows.
abbrev pub pump_calls : List ℕ → List LentCall
pump_calls job = four_calls 2 job lent_sevens speeds

abbrev pub other_pump_calls : List ℕ → List LentCall
other_pump_calls job = four_calls 2 job (sevens 3 2 4) inflows

abbrev pub pump_held : List ℕ → Held
pump_held job = held_by job lent_sevens (pump_calls job)

abbrev pub other_pump_held : List ℕ → Held
other_pump_held job = held_by job (sevens 3 2 4) (other_pump_calls job)

-- A start and the calls meet what the claims ask of them.
pub record Met : Type 0 where
  pub started : Started parting lent_sevens
  pub chained : Chained parting (held_at_start parting lent_sevens) (calls_from parting)
  pub started_late : Started parting_late (sevens 3 2 4)
  pub chained_late : Chained parting_late (held_at_start parting_late (sevens 3 2 4)) (other_calls_from parting_late)
  pub started_low : Started parting_low (sevens 3 2 4)
  pub chained_low : Chained parting_low (held_at_start parting_low (sevens 3 2 4)) (other_calls_from parting_low)
  pub started_pump : Started tripped lent_sevens
  pub chained_pump : Chained tripped (held_at_start tripped lent_sevens) (pump_calls tripped)
  pub started_rising : Started tripped_rising (sevens 3 2 4)
  pub chained_rising : Chained tripped_rising (held_at_start tripped_rising (sevens 3 2 4)) (other_pump_calls tripped_rising)
  pub same_rising : map (call_of tripped) (pump_calls tripped) ≡ map (call_of tripped_rising) (other_pump_calls tripped_rising)
  pub same_late : map (call_of parting) (calls_from parting) ≡ map (call_of parting_late) (other_calls_from parting_late)
  pub same_low : map (call_of parting) (calls_from parting) ≡ map (call_of parting_low) (other_calls_from parting_low)

pub record RowCases : Type 0 where
  -- k = 3: the fourth call stops at step 2 in both
  pub stop_before_k : get_elem? (answers_by parting_late (sevens 3 2 4) (other_calls_from parting_late)) 3 ≡ some (stop_answer parted 1 2)
  -- k = 2, d = 0: one step is done, and section 0 holds the same
  pub at_the_node : point_in (held parting).rows 0 ≡ point_in (other_held parting_low).rows 0
  -- k = 2, d = 2: three steps are done, and the pump holds the same pair
  pub at_the_pump : drive_in (pump_held tripped).rows 0 ≡ drive_in (other_pump_held tripped_rising).rows 0

-- what ties the public calls to demand 3: answers, steps done and rows are those of the recurrence
pub record TiedCases : Type 0 where
  pub answered : answers_by parting lent_sevens (calls_from parting) ≡ refusal 20 ∷ done 1 ∷ refusal 21 ∷ stop_answer parted 1 2 ∷ []
  pub one_step : (held parting).done ≡ 1
  pub heads_left : take 3 ((held parting).rows heads) are (num 10 ∷ num 10 ∷ num 14 ∷ [])
  pub flows_left : take 3 ((held parting).rows flows) are (num 4 ∷ num 4 ∷ num 0 ∷ [])
  pub highest_left : take 3 ((held parting).rows highest) are (num 10 ∷ num 10 ∷ num 14 ∷ [])
  pub lowest_left : take 3 ((held parting).rows lowest) are (num 10 ∷ num 10 ∷ num 10 ∷ [])
  pub speeds_left : take 2 ((held parting).rows speeds) are (num 0 ∷ num 0 ∷ [])
  pub inflows_left : take 2 ((held parting).rows inflows) are (num 0 ∷ num 0 ∷ [])
  -- of the pump: 13/32 and 169/128, as in the five steps worked out for `recurrence`
  pub pump_speeds_left : patterns (take 2 ((pump_held tripped).rows speeds)) ≡ 0x3fda_0000_0000_0000 ∷ 0 ∷ []
  pub pump_inflows_left : patterns (take 2 ((pump_held tripped).rows inflows)) ≡ 0x3ff5_2000_0000_0000 ∷ 0 ∷ []

-- the last entry in use of each row: of three sections, and of two nodes
abbrev pub last_entry : Row → ℕ
last_entry = gathered 2 2 2 2 1 1 3

-- at the last section or node and at the first, in each row that a caller carries; and question 22 gets a yes
pub record ContinuedCases : Type 0 where
  pub last_finite : (x : Row) → carried x ≡ true → finite (get_or ((held parting).rows x) (last_entry x) zero64) ≡ true
  pub first_finite : (x : Row) → carried x ≡ true → finite (get_or ((held parting).rows x) 0 zero64) ≡ true
  pub pump_finite : (x : Row) → carried x ≡ true → finite (get_or ((pump_held tripped).rows x) 0 zero64) ≡ true
  pub pump_goes_on : acceptable (job_of tripped) (state_in (job_of tripped) (pump_held tripped).rows) ≡ true
  pub goes_on : acceptable (job_of parting) (state_in (job_of parting) (held parting).rows) ≡ true
