-- The jobs of bytes and the lists of calls of the cases at the border. Definitions only.
use Rattle.std.specs.Prelude.{true, false, List, [], ◌∷◌, ◌++◌, ℕ, ◌+◌, ◌*◌, length, take, replicate}
use Rattle.std.specs.Float.{nan}
use Rattle.job.specs.JobQ.{job_q}
use Rattle.recurrence.specs.Run.{Call}
use Rattle.recurrence.specs.Calls.{Row, Rows, gathered, start_call, run_on_call}
use Rattle.recurrence.specs.Lent.{LentCall}
use Rattle.recurrence.specs.Figures.{patched}
use Rattle.recurrence.specs.OwnFigures.{short}
use Rattle.recurrence.specs.TrippedJobs.{f64_of, at0, half, at1, at8, at10, joined, tripping}

-- ---- bytes

abbrev pub at2 : List ℕ
at2 = f64_of 0 64

abbrev pub at12 : List ℕ
at12 = f64_of 40 64

-- ---- job Q with a valve that is shut at step 1 and opens at step 2

-- with other bytes changed, and with more levels of its reservoir after the first
unfoldable pub opening : List (ℕ × ℕ) → List (List ℕ) → List ℕ
unfolding patched
opening changes levels =
    patched (take 206 job_q) ((42, 24 + 8 * length levels) ∷ (59, 1 + length levels) ∷ (85, 2) ∷ changes) ++ joined levels ++ at0 ++ at1

abbrev pub job_q_opening : List ℕ
job_q_opening = opening [] []

-- Floors 10, and the valve's tank at 2: at step 2 the head at the valve falls below its floor. The reservoir is at 10; at 12 from step 3 on; at 0 from
-- step 2 on.
abbrev pub floors_at10 : List (ℕ × ℕ)
floors_at10 = (100, 0) ∷ (148, 36) ∷ (149, 64) ∷ (172, 36) ∷ (173, 64) ∷ (196, 36) ∷ (197, 64) ∷ []

abbrev pub parting : List ℕ
parting = opening floors_at10 []

abbrev pub parting_late : List ℕ
parting_late = opening floors_at10 (at10 ∷ at12 ∷ [])

abbrev pub parting_low : List ℕ
parting_low = opening floors_at10 (at0 ∷ [])

-- The valve's coefficient 2^400: at step 2 the argument of its root is not finite.
abbrev pub failing : List ℕ
failing = opening ((92, 240) ∷ (93, 88) ∷ []) []

abbrev pub failing_late : List ℕ
failing_late = opening ((92, 240) ∷ (93, 88) ∷ []) (at10 ∷ at12 ∷ [])

-- Floors 10 and the reservoir at 0: at step 1 its head is below the floor. In the second job it is at 12 from step 2 on.
abbrev pub drained : List ℕ
drained = opening ((204, 0) ∷ (205, 0) ∷ floors_at10) []

abbrev pub drained_then_high : List ℕ
drained_then_high = opening ((204, 0) ∷ (205, 0) ∷ floors_at10) (at12 ∷ [])

-- ---- two mains, each a pipe of one reach between two reservoirs: nodes and sections 0 and 1, nodes and sections 2 and 3

abbrev pub a_reservoir : List ℕ
a_reservoir = 1 ∷ 1 ∷ replicate 24 0

-- with the record of node 2, and the first entries of nodes 0 and 2; those of nodes 1 and 3 are 1
unfoldable pub two_mains : List ℕ → List ℕ → List ℕ → List ℕ
two_mains third first second =
    5 ∷ 0 ∷ 1 ∷ 0 ∷ 0 ∷ 0
    ∷ 46 ∷ 0 ∷ 0 ∷ 0 ∷ 24 ∷ 0 ∷ 0 ∷ 0
    ∷ 70 ∷ 0 ∷ 0 ∷ 0 ∷ 104 ∷ 0 ∷ 0 ∷ 0
    ∷ 174 ∷ 0 ∷ 0 ∷ 0 ∷ 16 ∷ 0 ∷ 0 ∷ 0
    ∷ 190 ∷ 0 ∷ 0 ∷ 0 ∷ 96 ∷ 0 ∷ 0 ∷ 0
    ∷ 30 ∷ 1 ∷ 0 ∷ 0 ∷ 32 ∷ 0 ∷ 0 ∷ 0
    ∷ 0 ∷ 1 ∷ 1 ∷ 0 ∷ at1
    ++ 2 ∷ 3 ∷ 1 ∷ 0 ∷ at1
    ++ joined (a_reservoir ∷ a_reservoir ∷ third ∷ a_reservoir ∷ [])
    ++ replicate 16 0
    ++ joined (replicate 4 (at1 ++ at0 ++ at0))
    ++ first ++ at1 ++ second ++ at1

abbrev pub mains_level : List ℕ
mains_level = two_mains a_reservoir at1 at1

abbrev pub first_higher : List ℕ
first_higher = two_mains a_reservoir at2 at1

abbrev pub second_higher : List ℕ
second_higher = two_mains a_reservoir at1 at2

-- with a pump for node 2, at full speed: a = 2, b and c are 0
abbrev pub a_pump : List ℕ
a_pump = 3 ∷ 1 ∷ at2 ++ at0 ++ at0

abbrev pub pump_beside : List ℕ
pump_beside = two_mains a_pump at1 at1

abbrev pub pump_beside_higher : List ℕ
pump_beside_higher = two_mains a_pump at2 at1

-- ---- two pipes of one reach end to end: a reservoir, a junction that nothing is drawn from, a reservoir at 1; sections 0 and 1, 2 and 3

-- with the level of node 0
unfoldable pub in_series : List ℕ → List ℕ
in_series level =
    5 ∷ 0 ∷ 1 ∷ 0 ∷ 0 ∷ 0
    ∷ 46 ∷ 0 ∷ 0 ∷ 0 ∷ 24 ∷ 0 ∷ 0 ∷ 0
    ∷ 70 ∷ 0 ∷ 0 ∷ 0 ∷ 78 ∷ 0 ∷ 0 ∷ 0
    ∷ 148 ∷ 0 ∷ 0 ∷ 0 ∷ 16 ∷ 0 ∷ 0 ∷ 0
    ∷ 164 ∷ 0 ∷ 0 ∷ 0 ∷ 96 ∷ 0 ∷ 0 ∷ 0
    ∷ 4 ∷ 1 ∷ 0 ∷ 0 ∷ 24 ∷ 0 ∷ 0 ∷ 0
    ∷ 0 ∷ 1 ∷ 1 ∷ 0 ∷ at1
    ++ 1 ∷ 2 ∷ 1 ∷ 0 ∷ at1
    ++ a_reservoir
    ++ 0 ∷ 1 ∷ replicate 24 0
    ++ a_reservoir
    ++ replicate 16 0
    ++ joined (replicate 4 (at1 ++ at0 ++ at0))
    ++ level ++ at0 ++ at1

abbrev pub series_level : List ℕ
series_level = in_series at1

abbrev pub series_higher : List ℕ
series_higher = in_series at2

-- ---- a pump two reaches from a reservoir (`tripping`), beside `tripped` and `tripped_rising`: its first entry 1/2; the reservoir at 10 from the first step on

abbrev pub tripped_slower : List ℕ
tripped_slower = tripping 2 (half ∷ []) (at8 ∷ [])

abbrev pub tripped_higher : List ℕ
tripped_higher = tripping 2 (at1 ∷ []) (at10 ∷ [])

-- not tripped before step 9: at 1, and from step 2 on at 1/2
abbrev pub pumping : List ℕ
pumping = tripping 9 (at1 ∷ []) (at8 ∷ [])

abbrev pub pumping_slower : List ℕ
pumping_slower = tripping 9 (at1 ∷ half ∷ []) (at8 ∷ [])

-- ---- lists of calls

-- a step, a call that question 20 refuses, and nine steps
abbrev pub in_three : List Call
in_three = record { count = 1; enough = true } ∷ record { count = 9; enough = false } ∷ record { count = 9; enough = true } ∷ []

-- a call that question 20 refuses, and N steps
abbrev pub after_refusal : ℕ → List Call
after_refusal N = record { count = 9; enough = false } ∷ record { count = N; enough = true } ∷ []

-- what is held by a caller, lent to a run-on: NaNs past the three sections and the two nodes, and a spare of NaNs
abbrev pub lent_on : Rows → Rows
lent_on held x = take (gathered 3 3 3 3 2 2 0 x) (held x) ++ replicate 5 nan

-- the rows that a run-on of one step after a start leaves
abbrev pub at_step1 : List ℕ → Rows → Rows
at_step1 job lent = (run_on_call job 0 1 (lent_on (start_call job lent).rows)).rows

-- After a start: a call that question 20 refuses, lent sevens, and too few of them in row x; a step; a call that question 21 refuses; N steps.
abbrev pub four_calls : ℕ → List ℕ → Rows → Row → List LentCall
four_calls N job lent x =
    record { count = 9; rows = short x }
    ∷ record { count = 1; rows = lent_on (start_call job lent).rows }
    ∷ record { count = 1_000_001; rows = at_step1 job lent }
    ∷ record { count = N; rows = at_step1 job lent }
    ∷ []
