-- What demand 3 has to give at its border, each case for two jobs of bytes. Definitions only.
-- Much of it could be computed instead. The proofs take it from the claim alone, so that a claim said more weakly would not give it.
use Rattle.std.specs.Prelude.{◌≡◌, List, [], ◌∷◌, ℕ, ◌≤◌, ◌<◌, Float}
use Rattle.std.proofs.Math.Option.{some}
use Rattle.std.proofs.Math.ListN.{get_elem?}
use Rattle.wave.specs.Figures.{num, halved}
use Rattle.job.specs.Job.{laid, node_at}
use Rattle.job.specs.Format.{job_of}
use Rattle.job.specs.Questions.{Accepted}
use Rattle.job.specs.JobQ.{job_q}
use Rattle.recurrence.specs.State.{point_at}
use Rattle.recurrence.specs.Scan.{Cause, not_finite, parted}
use Rattle.recurrence.specs.Run.{Call, stop_answer, played, answers, steps_done}
use Rattle.recurrence.specs.Paths.{EndAt, AtLeast, NoPath}
use Rattle.recurrence.specs.Demand.{AlikeBut, AlikeBefore, Carried, seen_by}
use Rattle.recurrence.specs.Figures.{job_q_rising}
use Rattle.recurrence.specs.OwnFigures.{◌are◌}
use Rattle.recurrence.specs.TrippedJobs.{tripped, tripped_rising}
use Rattle.border_cases.specs.Jobs.{job_q_opening, parting, parting_late, parting_low, failing_late, drained, drained_then_high, mains_level, first_higher, second_higher, series_level, series_higher, tripped_slower, tripped_higher, pumping_slower, in_three, after_refusal}

-- ---- the jobs as they are read: levels of a reservoir, openings of a valve, speeds of a pump and its record

abbrev pub schedule : List ℕ → ℕ → List Float
schedule job node = (node_at (job_of job) node).schedule

pub record AsRead : Type 0 where
  pub opening : schedule job_q_opening 1 are (num 0 ∷ num 1 ∷ [])
  pub late : schedule parting_late 0 are (num 10 ∷ num 10 ∷ num 12 ∷ [])
  pub low : schedule parting_low 0 are (num 10 ∷ num 0 ∷ [])
  pub failing_late_figure : schedule failing_late 0 are (num 10 ∷ num 10 ∷ num 12 ∷ [])
  pub drained_first : schedule drained 0 are (num 0 ∷ [])
  pub drained_then_high_figure : schedule drained_then_high 0 are (num 0 ∷ num 12 ∷ [])
  pub first_higher_figure : schedule first_higher 0 are (num 2 ∷ [])
  pub second_higher_figure : schedule second_higher 2 are (num 2 ∷ [])
  pub tripped_rising_figure : schedule tripped_rising 1 are (num 8 ∷ num 10 ∷ [])
  pub tripped_higher_figure : schedule tripped_higher 1 are (num 10 ∷ [])
  pub tripped_slower_figure : schedule tripped_slower 0 are (halved 1 1 ∷ [])
  pub pumping_slower_figure : schedule pumping_slower 0 are (num 1 ∷ halved 1 1 ∷ [])
  pub tripped_at_2 : (job_of tripped).trips ≡ record { node = 0; step = 2; G = halved 1 2; t0 = num 1; t1 = halved 1 3 } ∷ []

-- ---- demand 3, as the cases take it

-- two accepted jobs alike but for the schedule of node x, alike before step k
pub record Edited (a b : List ℕ) (x k : ℕ) : Type 0 where
  pub accepted : Accepted a × Accepted b
  pub from_1 : 1 ≤ k
  pub alike : AlikeBut x (job_of a) (job_of b)
  pub before : AlikeBefore k x (job_of a) (job_of b)

abbrev pub Claim : Type 0
Claim =
    (a b : List ℕ) (x k : ℕ) → Edited a b x k → (calls : List Call)
    → Carried (job_of a) x k (seen_by (job_of a) calls) (seen_by (job_of b) calls)

-- ---- stops

-- call c of a list stops after m steps, for a cause at section s
abbrev pub StopsAt : List ℕ → List Call → ℕ → Cause → ℕ → ℕ → Type 0
StopsAt job calls c cause m s = get_elem? (answers (job_of job) calls) c ≡ some (stop_answer cause m s)

pub record StopCases : Type 0 where
  -- k = 3: the third call, after a refused one, stops at step 2, as 41 and as 40
  pub parted_before_k : StopsAt parting_late in_three 2 parted 1 2
  pub not_finite_before_k : StopsAt failing_late in_three 2 not_finite 1 2
  -- k = 2: the first call stops at step 1 and section 0; told of the first job by the second
  pub at_the_first_step : StopsAt drained in_three 0 parted 0 0
  -- k = 2: at step 2 the two runs stop at different sections, so that no more can be claimed
  pub edited_from_2 : Edited parting parting_low 0 2
  pub unlike_at_k : StopsAt parting in_three 2 parted 1 2 × StopsAt parting_low in_three 2 parted 1 0

-- ---- sections that a path joins to the edited node

-- a section holds the same after both runs by a list of calls
abbrev pub SameAt : List ℕ → List ℕ → List Call → ℕ → Type 0
SameAt a b calls s = point_at (played (job_of a) calls).state s ≡ point_at (played (job_of b) calls).state s

pub record NearCases : Type 0 where
  -- Job Q and job Q with its reservoir at 12 from step 2 on: k = 2. At the reservoir, d = 0: the same after one step, something else after two.
  pub at_the_node : SameAt job_q job_q_rising (after_refusal 1) 0
  pub at_the_node_no_longer : ¬ SameAt job_q job_q_rising (after_refusal 2) 0
  -- down the pipe at the last section, d = 2: the same after three steps, something else after four
  pub down_the_pipe : SameAt job_q job_q_rising (after_refusal 3) 2
  pub down_the_pipe_no_longer : ¬ SameAt job_q job_q_rising (after_refusal 4) 2
  -- Job Q and job Q with its valve open from step 2 on: k = 2. Up the pipe at the first section, d = 2: the same after three steps, something else after
  -- four.
  pub up_the_pipe : SameAt job_q job_q_opening (after_refusal 3) 0
  pub up_the_pipe_no_longer : ¬ SameAt job_q job_q_opening (after_refusal 4) 0

-- A path through a node, from one pipe into the next, k = 1: the last section is two reaches off, since the junction's ends are no reach apart.
pub record AcrossCases : Type 0 where
  pub two_off : AtLeast (laid (job_of series_level)) (EndAt (laid (job_of series_level)) 0) 3 2
  pub through_the_node : SameAt series_level series_higher (after_refusal 2) 3
  pub through_the_node_no_longer : ¬ SameAt series_level series_higher (after_refusal 3) 3

-- ---- sections that no path joins to the edited node: those of one main, to a node of the other

pub record ApartCases : Type 0 where
  pub no_path_from_0 : (s : ℕ) → 2 ≤ s → NoPath (laid (job_of mains_level)) (EndAt (laid (job_of mains_level)) 0) s
  pub no_path_from_2 : (s : ℕ) → s < 2 → NoPath (laid (job_of mains_level)) (EndAt (laid (job_of mains_level)) 2) s
  -- k = 1: the same after any list of calls, at every m
  pub second_main : (calls : List Call) → steps_done (job_of mains_level) calls ≡ steps_done (job_of first_higher) calls
      → (s : ℕ) → 2 ≤ s → s < 4 → SameAt mains_level first_higher calls s
  pub first_main : (calls : List Call) → steps_done (job_of mains_level) calls ≡ steps_done (job_of second_higher) calls
      → (s : ℕ) → s < 2 → SameAt mains_level second_higher calls s
  -- a list that both finish, ten steps, after which the edited main holds something else
  pub both_done : (steps_done (job_of mains_level) in_three ≡ 10) × (steps_done (job_of first_higher) in_three ≡ 10)
  pub edited_main : ¬ SameAt mains_level first_higher in_three 0
