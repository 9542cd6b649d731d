-- Our own figures of the recurrence, proved in proofs/Figures.antt. They were worked out apart from the definitions, in IEEE arithmetic, one rounding
-- an operation, and chosen so that a slip in a definition changes at least one. Definitions only.
use Rattle.std.specs.Prelude.{◌≡◌, true, false, cond, List, [], ◌∷◌, map, ℕ, eqb, set, take, replicate, Float}
use Rattle.std.specs.Float.{nan, binary64}
use Rattle.std.specs.Float.Ieee.{neg, to_bits}
use Rattle.fields.specs.Real.{zero64, infinity64}
use Rattle.wave.specs.Figures.{num, tenths, halved, power}
use Rattle.job.specs.Job.{Job, Pipe, Kind, junction, reservoir, valve, ScheduledNode, Initial}
use Rattle.job.specs.OwnJobs.{job_of_all_kinds}
use Rattle.job.specs.JobQ.{job_q}
use Rattle.job.specs.SixPairs.{job_q_long_counts}
use Rattle.recurrence.specs.State.{start_state}
use Rattle.recurrence.specs.Run.{Answer, answer_of, started, steps, left_by}
use Rattle.recurrence.specs.Calls.{Row, heads, flows, highest, lowest, speeds, inflows, spare, all_rows, Rows, gathered, enough_lent, holds, Called, start_call, run_on_call}
use Rattle.recurrence.specs.Figures.{job_q_on_floor, job_q_closing, job_q_too_open, lent_sevens, ran_on, refusal, done}

-- ---- what the calls leave in the rows

-- three entries, and the seven that was lent past them; the spare of one pipe cleared, and what was lent past it
abbrev pub row : Float → Float → Float → List Float
row x y z = x ∷ y ∷ z ∷ num 7 ∷ []

abbrev pub cleared_but : Float → List Float
cleared_but v = num 0 ∷ num 0 ∷ num 0 ∷ num 0 ∷ v ∷ []

abbrev pub cleared : List Float
cleared = cleared_but (num 7)

-- rows compared by their bits, and what a call leaves and answers by the bits of the rows
abbrev pub patterns : List Float → List ℕ
patterns xs = map (to_bits binary64) xs

infix 50 ◌are◌ ◌leaves◌
abbrev pub ◌are◌ : List Float → List Float → Type 0
xs are ys = patterns xs ≡ patterns ys

abbrev pub shown : Called → List (List ℕ)
shown c = (c.answer.number ∷ c.answer.steps ∷ c.answer.section ∷ []) ∷ map (λ x. patterns (c.rows x)) all_rows

abbrev pub ◌leaves◌ : Called → Called → Type 0
c leaves d = shown c ≡ shown d

-- the place of each row in the order in which they are lent
abbrev pub number : Row → ℕ
number = gathered 0 1 2 3 4 5 6

-- rows as given, but for row x
abbrev pub but : Rows → Row → List Float → Rows
but r x l y = cond (eqb (number x) (number y)) l (r y)

-- heads, flows and envelopes as given, speeds and inflows of two nodes that aren't pumps, and the spare cleared
abbrev pub without_pump : List Float → List Float → List Float → List Float → Rows
without_pump h q u l = gathered h q u l (num 0 ∷ num 0 ∷ num 7 ∷ []) (num 0 ∷ num 0 ∷ num 7 ∷ []) cleared

pub record RowFigures : Type 0 where
  -- the rows in the order in which they are lent, each once
  pub in_order : map number all_rows ≡ 0 ∷ 1 ∷ 2 ∷ 3 ∷ 4 ∷ 5 ∷ 6 ∷ []
  pub start : start_call job_q lent_sevens leaves record { rows = without_pump (row (num 10) (num 10) (num 10)) (row (num 4) (num 4) (num 4)) (row (num 10) (num 10) (num 10)) (row (num 10) (num 10) (num 10)); answer = done 0 }
  -- document 01's listing of job Q
  pub one_step : ran_on job_q 1 leaves record { rows = without_pump (row (num 10) (num 10) (num 14)) (row (num 4) (num 4) (num 0)) (row (num 10) (num 10) (num 14)) (row (num 10) (num 10) (num 10)); answer = done 1 }
  -- the minimum is lowered
  pub five_steps : ran_on job_q 5 leaves record { rows = without_pump (row (num 10) (num 10) (num 6)) (row (neg (num 4)) (neg (num 4)) (num 0)) (row (num 10) (num 14) (num 14)) (row (num 10) (num 10) (num 6)); answer = done 5 }
  -- a stop at the fifth step leaves the fourth's state and envelopes
  pub stop : ran_on job_q_on_floor 9 leaves record { rows = without_pump (row (num 10) (num 10) (num 14)) (row (neg (num 4)) (neg (num 4)) (num 0)) (row (num 10) (num 14) (num 14)) (row (num 10) (num 10) (num 10)); answer = record { number = 41; steps = 4; section = 2 } }
  -- a spare lent full of NaNs: the same step, and past the entries in use a NaN is left
  pub nan_spare : run_on_call job_q 0 1 (but (start_call job_q lent_sevens).rows spare (replicate 5 nan)) leaves record { rows = but (ran_on job_q 1).rows spare (cleared_but nan); answer = done 1 }
  -- no step: the spare is cleared
  pub no_step : run_on_call job_q 3 0 lent_sevens leaves record { rows = but lent_sevens spare cleared; answer = done 3 }

-- ---- refusals: the rows as they were, and the number alone

abbrev pub refused_by : ℕ → Rows → Called
refused_by q lent = record { rows = lent; answer = refusal q }

-- sevens with one fewer in row x than is in use; with v for its last entry in use
abbrev pub short : Row → Rows
short x = but lent_sevens x (replicate (gathered 2 2 2 2 1 1 3 x) (num 7))

abbrev pub holding : Float → Row → Rows
holding v x = but lent_sevens x (set (lent_sevens x) (gathered 2 2 2 2 1 1 3 x) v)

-- sevens in so many entries of each row of sections, of nodes, and of the spare
abbrev pub sevens : ℕ → ℕ → ℕ → Rows
sevens n y m x = replicate (gathered n n n n y y m x) (num 7)

-- a pipe of n reaches, and a job of which only the pipes matter
abbrev pub pipe : ℕ → ℕ → ℕ → Float → Pipe
pipe s f n S = record { start = s; finish = f; reaches = n; S = S }

abbrev pub pipes_only : List Pipe → Job
pipes_only ps = record { pipes = ps; nodes = []; friction = []; initial = []; trips = [] }

pub record RefusalFigures : Type 0 where
  -- question 20, of whichever row: two entries are too few for three sections, one for two nodes, three for the spare of one pipe, which is the section
  -- count; one more is enough
  pub short_run_on : (x : Row) → run_on_call job_q 0 0 (short x) leaves refused_by 20 (short x)
  pub short_start : (x : Row) → start_call job_q (short x) leaves refused_by 20 (short x)
  pub just_enough : run_on_call job_q 0 0 (sevens 3 2 4) leaves record { rows = but (sevens 3 2 4) spare (replicate 4 (num 0)); answer = done 0 }
  -- the spare goes by the pipes and not by the sections: four entries for five sections in one pipe, eight for four sections in two
  pub long_pipe : enough_lent (pipes_only (pipe 0 1 4 (num 1) ∷ [])) (sevens 5 0 4) ≡ true
  pub two_short : enough_lent (pipes_only (pipe 0 1 1 (num 1) ∷ pipe 1 2 1 (num 1) ∷ [])) (sevens 4 0 7) ≡ false
  pub two_enough : enough_lent (pipes_only (pipe 0 1 1 (num 1) ∷ pipe 1 2 1 (num 1) ∷ [])) (sevens 4 0 8) ≡ true
  -- question 21
  pub m_too_great : run_on_call job_q 1_000_001 0 lent_sevens leaves refused_by 21 lent_sevens
  pub n_too_great : run_on_call job_q 0 1_000_001 lent_sevens leaves refused_by 21 lent_sevens
  pub both_too_great : run_on_call job_q 999_999 2 lent_sevens leaves refused_by 21 lent_sevens
  pub both_great : (run_on_call job_q 999_999 1 lent_sevens).answer ≡ done 1_000_000
  -- question 22: each row, and the floor; past the section count nothing is asked
  pub head_not_finite : run_on_call job_q 0 0 (holding nan heads) leaves refused_by 22 (holding nan heads)
  pub head_below_floor : run_on_call job_q 0 0 (holding (neg (num 1)) heads) leaves refused_by 22 (holding (neg (num 1)) heads)
  pub head_on_floor : (run_on_call job_q 0 0 (holding (neg (num 0)) heads)).answer ≡ done 0
  pub flow_not_finite : (run_on_call job_q 0 0 (holding infinity64 flows)).answer ≡ refusal 22
  pub highest_not_finite : (run_on_call job_q 0 0 (holding infinity64 highest)).answer ≡ refusal 22
  pub lowest_not_finite : (run_on_call job_q 0 0 (holding (neg infinity64) lowest)).answer ≡ refusal 22
  pub speed_not_finite : run_on_call job_q 0 0 (holding nan speeds) leaves refused_by 22 (holding nan speeds)
  pub inflow_not_finite : (run_on_call job_q 0 0 (holding infinity64 inflows)).answer ≡ refusal 22
  pub past_the_count : (run_on_call job_q 0 0 (λ x. set (lent_sevens x) (gathered 3 3 3 3 2 2 4 x) nan)).answer ≡ done 0
  -- "The first no decides": 1 to 15, 50 and 53, 20, 21, 22
  pub fifteen_before_20 : run_on_call job_q_too_open 0 1 (short heads) leaves refused_by 15 (short heads)
  pub fifteen_before_20_start : start_call job_q_too_open (short heads) leaves refused_by 15 (short heads)
  pub fifty_before_20 : run_on_call (set job_q_long_counts 222 0) 0 1 (short heads) leaves refused_by 50 (short heads)
  pub fifty_before_20_start : start_call (set job_q_long_counts 222 0) (short heads) leaves refused_by 50 (short heads)
  pub one_before_20 : (start_call (take 45 job_q) (short heads)).answer ≡ refusal 1
  pub twenty_before_21 : (run_on_call job_q 1_000_001 0 (short heads)).answer ≡ refusal 20
  pub twenty_one_before_22 : (run_on_call job_q 1_000_001 0 (holding nan heads)).answer ≡ refusal 21

-- ---- the steps

-- a row after N steps from the start, as bit patterns, and the answer to a run-on of N
unfoldable pub after : Job → ℕ → Row → List ℕ
after j N x = patterns (holds j (left_by (started j) (steps j N 0 (start_state j))).state x)

unfoldable pub answer_after : Job → ℕ → Answer
answer_after j N = answer_of (steps j N 0 (start_state j))

abbrev pub node : Kind → List Float → ScheduledNode
node k vs = record { kind = k; schedule = vs }

abbrev pub initially : Float → Float → Float → Initial
initially H Q F = record { head = H; flow = Q; floor = F }

-- Pipes of one reach and of three from a reservoir over a junction to a valve: four R, two entries of each schedule but the draw-off's. The valve
-- discharges at steps 1 and 2 (y is about 4.14 and 3.46) and draws nothing at step 3 (about -0.52).
unfoldable pub two_pipes : Job
two_pipes =
    let low = neg (num 100) in
    record {
      pipes = pipe 0 1 1 (num 2) ∷ pipe 1 2 3 (tenths 7) ∷ [];
      nodes = node reservoir (num 11 ∷ num 5 ∷ []) ∷ node junction (halved 1 1 ∷ []) ∷ node (valve (num 2) (num 6)) (num 1 ∷ halved 1 1 ∷ []) ∷ [];
      friction = halved 1 2 ∷ halved 1 1 ∷ halved 1 3 ∷ halved 1 4 ∷ [];
      initial =
          initially (num 13) (num 4) low
          ∷ initially (num 11) (num 1) low
          ∷ initially (num 11) (num 4) low
          ∷ initially (num 9) (num 4) low
          ∷ initially (num 7) (num 5) low
          ∷ initially (num 7) (num 4) low
          ∷ [];
      trips = [];
    }

-- One reach of S = 0.1, no friction, from a reservoir at b to a valve at b whose w·w is infinite; at rest but for a flow at the reservoir.
unfoldable pub outlet_at : Float → Float → Job
outlet_at b Q = record {
  pipes = pipe 0 1 1 (tenths 1) ∷ [];
  nodes = node reservoir (b ∷ []) ∷ node (valve (power 400) b) (num 1 ∷ []) ∷ [];
  friction = num 0 ∷ [];
  initial = initially b Q (num 0) ∷ initially b (num 0) (num 0) ∷ [];
  trips = [];
}

-- Three pipes that end at one junction, whose K are 2^53, 1 and 1: their sum turns on its order.
unfoldable pub three_pipes : Job
three_pipes =
    let none = initially (num 0) (num 0) (num 0) in
    record {
      pipes = pipe 1 0 1 (num 1) ∷ pipe 2 0 1 (num 1) ∷ pipe 3 0 1 (num 2) ∷ [];
      nodes = node junction (num 0 ∷ []) ∷ node reservoir (num 0 ∷ []) ∷ node reservoir (num 0 ∷ []) ∷ node reservoir (num 0 ∷ []) ∷ [];
      friction = num 0 ∷ num 0 ∷ num 0 ∷ [];
      initial = initially (num 0) (power 53) (num 0) ∷ none ∷ initially (num 0) (num 1) (num 0) ∷ none ∷ initially (num 0) (num 1) (num 0) ∷ none ∷ [];
      trips = [];
    }

-- One pipe of two reaches from a reservoir at 5 to a junction, no friction.
abbrev pub one_pipe : List Initial → Job
one_pipe initial = record {
  pipes = pipe 0 1 2 (num 1) ∷ [];
  nodes = node reservoir (num 5 ∷ []) ∷ node junction (num 0 ∷ []) ∷ [];
  friction = num 0 ∷ num 0 ∷ [];
  initial = initial;
  trips = [];
}

-- Section 1 comes to head 0 under its floor 1, with a flow that is not finite.
unfoldable pub both_faults : Job
both_faults = one_pipe (initially (num 0) (power 1023) (num 0) ∷ initially (num 2) (num 0) (num 1) ∷ initially (num 0) (power 1023) (num 0) ∷ [])

-- Section 1 comes to head -1 under its floor 0, and section 2's head is not finite.
unfoldable pub faults_upward : Job
faults_upward = one_pipe (initially (num 1) (num 0) (num 0) ∷ initially (power 1023) (power 1023) (num 0) ∷ initially (num 0) (num 3) (num 0) ∷ [])

-- Reservoirs at -0, and heads that begin at +0.
unfoldable pub minus_zero : Job
minus_zero =
    let zero = initially (num 0) (num 0) (neg (num 1)) in
    record {
      pipes = pipe 0 1 1 (num 1) ∷ [];
      nodes = node reservoir (neg (num 0) ∷ []) ∷ node reservoir (neg (num 0) ∷ []) ∷ [];
      friction = num 0 ∷ [];
      initial = zero ∷ zero ∷ [];
      trips = [];
    }

pub record StepFigures : Type 0 where
  -- the valve moves at step 2, not before, and stays: entry n at step n, the last afterwards
  pub closing_1 : (ran_on job_q_closing 1).rows heads are row (num 10) (num 10) (num 10)
  pub closing_2 : (ran_on job_q_closing 2).rows heads are row (num 10) (num 10) (num 14)
  pub closing_3 : (ran_on job_q_closing 3).rows heads are row (num 10) (num 14) (num 14)
  -- and a run-on with m = 1 begins at step 2
  pub closing_from_1 : (run_on_call job_q_closing 1 1 (start_call job_q_closing lent_sevens).rows).rows heads are row (num 10) (num 10) (num 14)
  -- R of each reach, S of each pipe, each kind's value of the step; at steps 1 and 2 the valve's end has K - S·H, which is q but for rounding. With the
  -- root cut down section 5, the valve's, would have another head at step 1, section 4 at step 2, sections 3 and 5 at step 3.
  pub heads_1 : after two_pipes 1 heads ≡ 0x4026_0000_0000_0000 ∷ 0x402a_84bd_a12f_684b ∷ 0x402a_84bd_a12f_684b ∷ 0x4013_36db_6db6_db6d ∷ 0x401d_2492_4924_9249 ∷ 0x401f_be19_9860_0ddf ∷ []
  pub flows_1 : after two_pipes 1 flows ≡ 0x3fe8_0000_0000_0000 ∷ 0xbfe0_97b4_25ed_0960 ∷ 0xbff0_4bda_12f6_84c8 ∷ 0x3fd5_9999_9999_9998 ∷ 0x4009_9999_9999_999b ∷ 0x4006_42a8_f779_862c ∷ []
  pub heads_2 : after two_pipes 2 heads ≡ 0x4014_0000_0000_0000 ∷ 0x4022_a905_b05b_05b0 ∷ 0x4022_a905_b05b_05b0 ∷ 0x4021_168c_2011_0439 ∷ 0x4013_d5a1_d2ab_b894 ∷ 0x4021_412c_d6ff_e0c3 ∷ []
  pub flows_2 : after two_pipes 2 flows ≡ 0xc030_f846_3bb2_be54 ∷ 0x400f_97d2_7d27_d280 ∷ 0x400b_97d2_7d27_d27d ∷ 0x4006_6817_b5f2_34c8 ∷ 0x3fcb_7c14_9b36_e3a8 ∷ 0x3ff9_ef2d_db5c_d7e8 ∷ []
  pub heads_3 : after two_pipes 3 heads ≡ 0x4014_0000_0000_0000 ∷ 0x403a_8739_af8d_76ac ∷ 0x403a_8739_af8d_76ac ∷ 0x4014_d711_63b1_acee ∷ 0x4021_b0d2_0d5c_3858 ∷ 0x4015_0b87_0455_2874 ∷ []
  pub flows_3 : after two_pipes 3 flows ≡ 0xc021_3854_ca04_cdd0 ∷ 0x4027_ef54_9908_1020 ∷ 0x4026_ef54_9908_1020 ∷ 0x3fd8_a2e5_2fe1_08e4 ∷ 0x3ff9_bfce_39e2_0530 ∷ 0 ∷ []
  pub highest_3 : after two_pipes 3 highest ≡ 0x402a_0000_0000_0000 ∷ 0x403a_8739_af8d_76ac ∷ 0x403a_8739_af8d_76ac ∷ 0x4022_0000_0000_0000 ∷ 0x4021_b0d2_0d5c_3858 ∷ 0x4021_412c_d6ff_e0c3 ∷ []
  pub lowest_3 : after two_pipes 3 lowest ≡ 0x4014_0000_0000_0000 ∷ 0x4022_a905_b05b_05b0 ∷ 0x4022_a905_b05b_05b0 ∷ 0x4013_36db_6db6_db6d ∷ 0x4013_d5a1_d2ab_b894 ∷ 0x4015_0b87_0455_2874 ∷ []
  -- y decides, not B/T against b. At 6 y is +0 and B/T the next f64 above b: nothing is drawn or judged, and H is B/T. At 2.4 y is 2^-55 and B/T is b: the
  -- root is judged.
  pub outlet_level : after (outlet_at (num 6) (num 0)) 1 heads ≡ 0x4018_0000_0000_0000 ∷ 0x4018_0000_0000_0001 ∷ []
  pub outlet_above : answer_after (outlet_at (tenths 24) (halved 1 55)) 1 ≡ record { number = 40; steps = 0; section = 1 }
  -- the sums rise by pipe number
  pub rising : after three_pipes 1 heads ≡ 0 ∷ 0x4320_0000_0000_0000 ∷ 0 ∷ 0x4320_0000_0000_0000 ∷ 0 ∷ 0x4320_0000_0000_0000 ∷ []
  -- "At one section 40 precedes 41", and sections go upward
  pub both_faults_figure : answer_after both_faults 1 ≡ record { number = 40; steps = 0; section = 1 }
  pub faults_upward_figure : answer_after faults_upward 1 ≡ record { number = 41; steps = 0; section = 1 }
  pub all_kinds : (run_on_call job_of_all_kinds 0 7 (start_call job_of_all_kinds (λ x. replicate 20 zero64)).rows).answer ≡ record { number = 41; steps = 0; section = 3 }
  -- -0 is neither greater nor less than +0
  pub zero_head : after minus_zero 1 heads ≡ 0x8000_0000_0000_0000 ∷ 0x8000_0000_0000_0000 ∷ []
  pub zero_highest : after minus_zero 1 highest ≡ 0 ∷ 0 ∷ []
  pub zero_lowest : after minus_zero 1 lowest ≡ 0 ∷ 0 ∷ []
