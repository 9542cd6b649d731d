-- Figures of request 7 over steps and calls, proved in proofs/PowerFailure.antt. Those of `pumping_main` come from a model in Python, written from the papers,
-- one rounding an operation; the others were worked out by hand, in numbers that no operation rounds, and the model agrees. Definitions only.
use Rattle.std.specs.Prelude.{◌≡◌, true, List, [], ◌∷◌, ℕ, replicate, Float}
use Rattle.std.specs.Float.Ieee.{neg}
use Rattle.wave.specs.Figures.{num, tenths, halved, power}
use Rattle.job.specs.Job.{Job, Trip, junction, reservoir, pump}
use Rattle.loops.specs.Loops.{all_below}
use Rattle.recurrence.specs.State.{State, point_at, start_state}
use Rattle.recurrence.specs.Step.{advanced}
use Rattle.recurrence.specs.Scan.{finite_point, acceptable}
use Rattle.recurrence.specs.Run.{steps, left_by}
use Rattle.recurrence.specs.Calls.{Row, heads, flows, speeds, inflows, Rows, gathered, holds, run_on_call}
use Rattle.recurrence.specs.Figures.{job_q_on_floor}
use Rattle.recurrence.specs.OwnFigures.{row, cleared, patterns, ◌leaves◌, pipe, node, initially, after, answer_after}
use Rattle.recurrence.specs.DriveFigures.{quarter_at, lifting, at_rest}

-- ---- a run whose every number is rounded

-- the constants of a rundown, from step 2 on
abbrev pub constants : Float → Float → Float → Trip
constants G t0 t1 = record { node = 0; step = 2; G = G; t0 = t0; t1 = t1 }

-- One reach from a pump, scheduled 1 and then 0.5, to a reservoir at 3.
unfoldable pub pumping_main : List Trip → Job
pumping_main trips =
    let low = neg (num 100) in
    record {
      pipes = pipe 0 1 1 (tenths 7) ∷ [];
      nodes = node (pump (num 10) (halved 3 1) (num 0)) (num 1 ∷ halved 1 1 ∷ []) ∷ node reservoir (num 3 ∷ []) ∷ [];
      friction = halved 1 2 ∷ [];
      initial = initially (num 4) (halved 3 1) low ∷ initially (num 4) (halved 3 1) low ∷ [];
      trips = trips;
    }

pub record RoundedFigures : Type 0 where
  -- the start; a pump that is not tripped; from step 2 on the rundown, from the speed that the state holds and not from the entry of that step, and from the
  -- inflow of the step before
  pub speeds_0 : after (pumping_main []) 0 speeds ≡ 0x3ff0_0000_0000_0000 ∷ 0 ∷ []
  pub inflows_0 : after (pumping_main []) 0 inflows ≡ 0 ∷ 0 ∷ []
  pub scheduled_2 : after (pumping_main []) 2 speeds ≡ 0x3fe0_0000_0000_0000 ∷ 0 ∷ []
  pub later_trip : after (pumping_main (record { node = 0; step = 3; G = num 1; t0 = num 1; t1 = num 1 } ∷ [])) 2 speeds ≡ 0x3fe0_0000_0000_0000 ∷ 0 ∷ []
  pub other_trip : after (pumping_main (record { node = 1; step = 1; G = num 1; t0 = num 1; t1 = num 1 } ∷ [])) 2 speeds ≡ 0x3fe0_0000_0000_0000 ∷ 0 ∷ []
  pub speeds_1 : after (pumping_main (constants (tenths 1) (tenths 9) (tenths 11) ∷ [])) 1 speeds ≡ 0x3ff0_0000_0000_0000 ∷ 0 ∷ []
  pub inflows_1 : after (pumping_main (constants (tenths 1) (tenths 9) (tenths 11) ∷ [])) 1 inflows ≡ 0x3ffc_955d_6a35_07f8 ∷ 0 ∷ []
  pub speeds_2 : after (pumping_main (constants (tenths 1) (tenths 9) (tenths 11) ∷ [])) 2 speeds ≡ 0x3fe6_d4e6_5427_887c ∷ 0 ∷ []
  pub inflows_2 : after (pumping_main (constants (tenths 1) (tenths 9) (tenths 11) ∷ [])) 2 inflows ≡ 0x3ff1_e38f_efec_80ab ∷ 0 ∷ []
  pub speeds_3 : after (pumping_main (constants (tenths 1) (tenths 9) (tenths 11) ∷ [])) 3 speeds ≡ 0x3fe2_8ebb_9d97_428d ∷ 0 ∷ []
  pub inflows_3 : after (pumping_main (constants (tenths 1) (tenths 9) (tenths 11) ∷ [])) 3 inflows ≡ 0x3fe5_f9c7_6ed1_043c ∷ 0 ∷ []
  pub heads_3 : after (pumping_main (constants (tenths 1) (tenths 9) (tenths 11) ∷ [])) 3 heads ≡ 0x4005_3edb_ff72_3f21 ∷ 0x4008_0000_0000_0000 ∷ []

-- ---- two pumps of which one trips

-- Two pipes of one reach, S = 1, no friction, from two pumps of h = v·v·8 (b is 0, so that q is y) to one junction from which 16 is drawn; at rest with head
-- and flow 8. The first trips at step 3 with G = 1/4, t0 = 1, t1 = 1/8; its third entry is 1/4. The second has 1, and at step 5 1/2.
unfoldable pub two_pumps : Job
two_pumps =
    let rest = initially (num 8) (num 8) (num 0) in
    record {
      pipes = pipe 0 1 1 (num 1) ∷ pipe 2 1 1 (num 1) ∷ [];
      nodes =
          node (pump (num 8) (num 0) (num 0)) (num 1 ∷ num 1 ∷ halved 1 2 ∷ [])
          ∷ node junction (num 16 ∷ [])
          ∷ node (pump (num 8) (num 0) (num 0)) (num 1 ∷ num 1 ∷ num 1 ∷ num 1 ∷ halved 1 1 ∷ [])
          ∷ [];
      friction = num 0 ∷ num 0 ∷ [];
      initial = rest ∷ rest ∷ rest ∷ rest ∷ [];
      trips = quarter_at 3 ∷ [];
    }

-- By hand: at a pump B = H - Q of the section next to it, H is h where h > B, and q = h - B, the end's flow. At the junction K = Q + H of each pump's end,
-- H = (K + K' - 16)/2, and each end's flow K - H.
pub record FiveSteps : Type 0 where
  -- steps 1 and 2: B = 8 - 8, h = 8; the junction's K are 16, its H 8
  pub speeds_2 : after two_pumps 2 speeds ≡ 0x3ff0_0000_0000_0000 ∷ 0 ∷ 0x3ff0_0000_0000_0000 ∷ []
  pub inflows_2 : after two_pumps 2 inflows ≡ 0x4020_0000_0000_0000 ∷ 0 ∷ 0x4020_0000_0000_0000 ∷ []
  -- step 3: 1 - 1/4·(1·1·1 + 1/8·1·8) = 1/2; h = 8/4, B = 0
  pub speeds_3 : after two_pumps 3 speeds ≡ 0x3fe0_0000_0000_0000 ∷ 0 ∷ 0x3ff0_0000_0000_0000 ∷ []
  pub inflows_3 : after two_pumps 3 inflows ≡ 0x4000_0000_0000_0000 ∷ 0 ∷ 0x4020_0000_0000_0000 ∷ []
  -- step 4: 1/2 - 1/4·(1·1/2·1/2 + 1/8·1/2·2) = 1/2 - 3/32; h = 8·169/1024. The junction's K are 4 and 16, its H 2, its flows 2 and 14.
  pub speeds_4 : after two_pumps 4 speeds ≡ 0x3fda_0000_0000_0000 ∷ 0 ∷ 0x3ff0_0000_0000_0000 ∷ []
  pub inflows_4 : after two_pumps 4 inflows ≡ 0x3ff5_2000_0000_0000 ∷ 0 ∷ 0x4020_0000_0000_0000 ∷ []
  -- step 5: 13/32 - 1/4·(169/1024 + 1/8·13/32·169/128) = (53,248 - 7,605)/2^17; h = 8·(45,643/2^17)², B = 2 - 2. The other pump: h = 2, B = 2 - 14. The
  -- junction's K are 169/64 and 16, its H 169/128.
  pub speeds_5 : after two_pumps 5 speeds ≡ 0x3fd6_4960_0000_0000 ∷ 0 ∷ 0x3fe0_0000_0000_0000 ∷ []
  pub inflows_5 : after two_pumps 5 inflows ≡ 0x3fef_0b18_7e40_0000 ∷ 0 ∷ 0x402c_0000_0000_0000 ∷ []
  pub heads_5 : after two_pumps 5 heads ≡ 0x3fef_0b18_7e40_0000 ∷ 0x3ff5_2000_0000_0000 ∷ 0x4000_0000_0000_0000 ∷ 0x3ff5_2000_0000_0000 ∷ []
  pub flows_5 : after two_pumps 5 flows ≡ 0x3fef_0b18_7e40_0000 ∷ 0x3ff5_2000_0000_0000 ∷ 0x402c_0000_0000_0000 ∷ 0x402d_5c00_0000_0000 ∷ []

-- ---- trip steps 0, 1 and 2, and speeds at the edge of the rule

-- the speeds of `lifting` after N steps, with entries 1 and 1/4 by a trip step; with one entry by a record
abbrev pub tripping : ℕ → ℕ → List ℕ
tripping step N = after (lifting (quarter_at step ∷ []) (num 1 ∷ halved 1 2 ∷ [])) N speeds

abbrev pub from1 : Float → Float → Float → Trip
from1 G t0 t1 = record { node = 0; step = 1; G = G; t0 = t0; t1 = t1 }

pub record TripFigures : Type 0 where
  -- the start writes the first entry even then; at step 1 the inflow of the start is +0: 1 - 1/4·1; at step 2 3/4 - 1/4·(9/16 + 1/8·3/4·9/2) = 129/256
  pub at_0_start : tripping 0 0 ≡ patterns (num 1 ∷ num 0 ∷ [])
  pub at_0_step_1 : tripping 0 1 ≡ patterns (halved 3 2 ∷ num 0 ∷ [])
  pub at_0_step_2 : tripping 0 2 ≡ patterns (halved 129 8 ∷ num 0 ∷ [])
  pub at_1_start : tripping 1 0 ≡ patterns (num 1 ∷ num 0 ∷ [])
  pub at_1_step_1 : tripping 1 1 ≡ patterns (halved 3 2 ∷ num 0 ∷ [])
  pub at_1_step_2 : tripping 1 2 ≡ patterns (halved 129 8 ∷ num 0 ∷ [])
  -- the entry at step 1, and 1 - 1/4·(1 + 1/8·8) at step 2, not from the entry 1/4
  pub at_2_step_1 : tripping 2 1 ≡ patterns (num 1 ∷ num 0 ∷ [])
  pub at_2_step_2 : tripping 2 2 ≡ patterns (halved 1 1 ∷ num 0 ∷ [])
  -- "or +0 where that is below zero": 1 - 4, and minus infinity, which does not stop the run; -0 is not below zero
  pub below_zero : after (lifting (from1 (num 4) (num 1) (num 1) ∷ []) (num 1 ∷ [])) 1 speeds ≡ 0 ∷ 0 ∷ []
  pub minus_infinity : after (lifting (from1 (power 1000) (power 1000) (num 1) ∷ []) (num 1 ∷ [])) 1 speeds ≡ 0 ∷ 0 ∷ []
  pub minus_infinity_runs : answer_after (lifting (from1 (power 1000) (power 1000) (num 1) ∷ []) (num 1 ∷ [])) 2 ≡ record { number = 0; steps = 2; section = 0 }
  pub minus_zero_figure : after (lifting (quarter_at 1 ∷ []) (neg (num 0) ∷ [])) 2 speeds ≡ 0x8000_0000_0000_0000 ∷ 0 ∷ []

-- ---- stops

-- Three reaches between two reservoirs at 2; the pump stands at the finish of the second, section 3, and at the start of the third, section 4. F is section
-- 3's floor, Q section 4's flow. At step 2 its B is 3 + (2 - Q), and T is 2.
unfoldable pub between2 : List Trip → Float → Float → Job
between2 trips F Q =
    let low = neg (num 100) in
    let rest = initially (num 2) (num 1) low in
    record {
      pipes = pipe 1 2 1 (num 1) ∷ pipe 1 0 1 (num 1) ∷ pipe 0 2 1 (num 1) ∷ [];
      nodes = node (pump (num 10) (halved 3 1) (num 0)) (num 1 ∷ []) ∷ node reservoir (num 2 ∷ []) ∷ node reservoir (num 2 ∷ []) ∷ [];
      friction = num 0 ∷ num 0 ∷ num 0 ∷ [];
      initial = rest ∷ rest ∷ rest ∷ initially (num 2) (num 1) F ∷ initially (num 2) Q low ∷ rest ∷ [];
      trips = trips;
    }

-- G is 0, and the bracket overflows by the inflow of step 1: 0·infinity, so that the speed of step 2 is no number; then y is none, q is +0 and H is B/T
abbrev pub no_number : List Trip
no_number = constants (num 0) (power 1023) (power 1023) ∷ []

-- the state that a step from the state after step 1 works out
unfoldable pub second_step : Job → State
second_step j = advanced j 2 (advanced j 1 (start_state j))

pub record StopFigures : Type 0 where
  -- "stops the run as 40 at the node's lowest section", though every head and flow is finite
  pub lowest_section : answer_after (between2 no_number (neg (num 100)) (num 1)) 4 ≡ record { number = 40; steps = 1; section = 3 }
  pub heads_finite : all_below (λ s. finite_point (point_at (second_step (between2 no_number (neg (num 100)) (num 1))) s)) 6 ≡ true
  -- with Q = 3 its head is 1 then, under a floor of 3/2: 40 precedes 41, which a speed of +0 stops as
  pub not_finite_first : answer_after (between2 no_number (halved 3 1) (num 3)) 4 ≡ record { number = 40; steps = 1; section = 3 }
  pub below_the_floor : answer_after (between2 (constants (power 1000) (power 1000) (num 0) ∷ []) (halved 3 1) (num 3)) 4 ≡ record { number = 41; steps = 1; section = 3 }

-- ---- a state of the caller's own

-- A row of `lifting` after step 5, from its state at rest with a pair of the pump and sevens for the pair of the reservoir; and what a run-on of N answers.
abbrev pub own : Float → Float → State
own speed inflow =
    record { points = (at_rest record { speed = speed; inflow = inflow }).points; drives = record { speed = speed; inflow = inflow } ∷ record { speed = num 7; inflow = num 7 } ∷ [] }

abbrev pub own_after : List Trip → ℕ → Float → Float → Row → List ℕ
own_after trips N speed inflow x =
    let j = lifting trips (num 1 ∷ []) in
    patterns (holds j (left_by record { done = 4; state = own speed inflow } (steps j N 4 (own speed inflow))).state x)

-- Job Q with floors 10 before its fifth step, which stops, with sevens for its speeds and inflows and 7 past the entries in use.
abbrev pub sevens_before_stop : Rows
sevens_before_stop =
    gathered
    (row (num 10) (num 10) (num 14))
    (row (neg (num 4)) (neg (num 4)) (num 0))
    (row (num 10) (num 14) (num 14))
    (row (num 10) (num 10) (num 10))
    (replicate 3 (num 7))
    (replicate 3 (num 7))
    cleared

pub record OwnStateFigures : Type 0 where
  -- a tripped pump runs down from the speed and inflow that are lent: 7 - 1/64·(49 + 7/8·0) = 399/64; -3 - ((-3)·(-3) + (-3)·8) = 12
  pub from_7 : own_after (from1 (halved 1 6) (num 1) (halved 1 3) ∷ []) 1 (num 7) (num 0) speeds ≡ patterns (halved 399 6 ∷ num 0 ∷ [])
  pub from_minus_3 : own_after (from1 (num 1) (num 1) (num 1) ∷ []) 1 (neg (num 3)) (num 8) speeds ≡ patterns (num 12 ∷ num 0 ∷ [])
  pub minus_3_accepted : acceptable (lifting [] (num 1 ∷ [])) (own (neg (num 3)) (num 8)) ≡ true
  -- one that is not has its entry 1, whatever is lent; the pair that is lent at the reservoir has no effect and is +0 afterwards
  pub not_tripped : own_after [] 1 (neg (num 3)) (num 5) speeds ≡ patterns (num 1 ∷ num 0 ∷ [])
  pub not_tripped_inflow : own_after [] 1 (neg (num 3)) (num 5) inflows ≡ patterns (num 8 ∷ num 0 ∷ [])
  pub not_tripped_heads : own_after [] 1 (neg (num 3)) (num 5) heads ≡ patterns (num 8 ∷ num 8 ∷ [])
  -- no step, and a step that stops: the pairs as they were lent
  pub no_step_speeds : own_after [] 0 (neg (num 3)) (num 5) speeds ≡ patterns (neg (num 3) ∷ num 7 ∷ [])
  pub no_step_inflows : own_after [] 0 (neg (num 3)) (num 5) inflows ≡ patterns (num 5 ∷ num 7 ∷ [])
  pub stopped_step : run_on_call job_q_on_floor 4 9 sevens_before_stop leaves record { rows = sevens_before_stop; answer = record { number = 41; steps = 4; section = 2 } }
