-- Figures of the parts of a step and of a run, proved in proofs/DetailFigures.antt before any other figure. Each was worked out apart from the
-- definitions, and is so small that where a slip changes it both numbers can be read in the error. Definitions only.
use Rattle.std.specs.Prelude.{◌≡◌, true, false, List, [], ◌∷◌, ℕ, suc}
use Rattle.std.specs.Float.Ieee.{neg, to_bits}
use Rattle.std.specs.Float.{binary64}
use Rattle.fields.specs.Real.{infinity64}
use Rattle.wave.specs.Figures.{num, power}
use Rattle.wave.specs.declared.Sums.{Sums}
use Rattle.job.specs.Job.{Job, Pipe, junction, reservoir, ScheduledNode, Initial, Laid, laid, scheduled}
use Rattle.recurrence.specs.State.{Point, point_at, start_point, start_state}
use Rattle.recurrence.specs.Step.{AlongPipes, along_pipes, nodes_with, cm_before, sums_at, head_at, updated, new_point, advanced}
use Rattle.recurrence.specs.Scan.{parted, fault, stopped, scan}
use Rattle.recurrence.specs.Run.{answer_of, refused, onward, within_limit}
use Rattle.recurrence.specs.Calls.{heads}
use Rattle.recurrence.specs.OwnFigures.{pipe, node, initially, after}

-- a job without friction
abbrev pub smooth : List Pipe → List ScheduledNode → List Initial → Job
smooth pipes nodes initial = record { pipes = pipes; nodes = nodes; friction = num 0 ∷ num 0 ∷ num 0 ∷ []; initial = initial; trips = [] }

abbrev pub still : Initial
still = initially (num 0) (num 0) (num 0)

-- Three pipes that end at one junction, whose K are 2^53, 1 and 1, and so are their S: both sums are 2^53, and from the last pipe on 2^53 + 2.
abbrev pub uneven : Job
uneven =
    smooth
    (pipe 1 0 1 (power 53) ∷ pipe 2 0 1 (num 1) ∷ pipe 3 0 1 (num 1) ∷ [])
    (node junction (num 0 ∷ []) ∷ node reservoir (num 0 ∷ []) ∷ node reservoir (num 0 ∷ []) ∷ node reservoir (num 0 ∷ []) ∷ [])
    (initially (num 0) (power 53) (num 0) ∷ still ∷ initially (num 0) (num 1) (num 0) ∷ still ∷ initially (num 0) (num 1) (num 0) ∷ still ∷ [])

abbrev pub uneven_sums : Sums
uneven_sums = sums_at (laid uneven) (along_pipes uneven (start_state uneven)) 0

-- One reach from a reservoir at 5, and from step 2 on at 6, to a reservoir at 0.
abbrev pub two_levels : Job
two_levels = smooth (pipe 0 1 1 (num 1) ∷ []) (node reservoir (num 5 ∷ num 6 ∷ []) ∷ node reservoir (num 0 ∷ []) ∷ []) (still ∷ still ∷ [])

-- the head of its section 0 after step n
abbrev pub level_at : ℕ → ℕ
level_at n = to_bits binary64 (point_at (advanced two_levels n (start_state two_levels)) 0).head

-- One pipe of two reaches from a reservoir at 5, at the initial states given.
abbrev pub two_reaches : List Initial → Job
two_reaches initial = smooth (pipe 0 1 2 (num 1) ∷ []) (node reservoir (num 5 ∷ []) ∷ node junction (num 0 ∷ []) ∷ []) initial

-- the head of its section 1 after a step from rest at 0: the reservoir's 5 has not come there
abbrev pub inner_head : ℕ
inner_head =
    let j = two_reaches (still ∷ still ∷ still ∷ []) in
    let st = start_state j in
    to_bits binary64 (new_point (laid j) (along_pipes j st) (nodes_with j (scheduled j 1)) st 1).head

-- section 1 below its floor, and section 2's head not finite
abbrev pub two_faults : Job
two_faults = two_reaches (still ∷ initially (neg (num 1)) (num 0) (num 0) ∷ initially infinity64 (num 0) (num 0) ∷ [])

-- R of reach i is i + 1; section s has head 0 and flow s
abbrev pub rising : AlongPipes
rising = record { friction = λ i. num (suc i); old = λ s. record { head = num 0; flow = num s } }

abbrev pub three_reaches : Laid
three_reaches = record { pipe = pipe 0 1 3 (num 1); first_section = 0; first_reach = 0 }

-- a point's four numbers
abbrev pub four : Point → List ℕ
four p = to_bits binary64 p.head ∷ to_bits binary64 p.flow ∷ to_bits binary64 p.highest ∷ to_bits binary64 p.lowest ∷ []

pub record DetailFigures : Type 0 where
  -- "Both envelopes as the initial heads": head 3, flow 4
  pub begun : four (start_point (initially (num 3) (num 4) (num 0))) ≡ 0x4008_0000_0000_0000 ∷ 0x4010_0000_0000_0000 ∷ 0x4008_0000_0000_0000 ∷ 0x4008_0000_0000_0000 ∷ []
  -- head 1 after head 2 lowers the minimum, and the maximum stays
  pub lowered_to_1 : to_bits binary64 (updated record { head = num 1; flow = num 4 } (start_point (initially (num 2) (num 0) (num 0)))).lowest ≡ 0x3ff0_0000_0000_0000
  pub still_2 : to_bits binary64 (updated record { head = num 1; flow = num 4 } (start_point (initially (num 2) (num 0) (num 0)))).highest ≡ 0x4000_0000_0000_0000
  -- CM of section 0: section 1, flow 1, over reach 0, R = 1. By reach 1 it would be -1, from section 2 it would be -2.
  pub cm_of_first : to_bits binary64 (cm_before rising three_reaches 0) ≡ 0
  -- B and T of a node, and its head, which is 1; with B or T in falling pipe number it is the f64 next above or the second below
  pub rising_b : to_bits binary64 uneven_sums.b ≡ 0x4340_0000_0000_0000
  pub rising_t : to_bits binary64 uneven_sums.t ≡ 0x4340_0000_0000_0000
  pub rising_head : to_bits binary64 (head_at (laid uneven) (along_pipes uneven (start_state uneven)) (nodes_with uneven (scheduled uneven 1)) 0) ≡ 0x3ff0_0000_0000_0000
  -- a section reads its neighbours' old values
  pub old_neighbour : inner_head ≡ 0
  -- entry n at step n, the last afterwards
  pub level_1 : level_at 1 ≡ 0x4014_0000_0000_0000
  pub level_2 : level_at 2 ≡ 0x4018_0000_0000_0000
  pub level_3 : level_at 3 ≡ 0x4018_0000_0000_0000
  -- two steps are done, not one
  pub two_steps : after two_levels 2 heads ≡ 0x4018_0000_0000_0000 ∷ 0 ∷ []
  -- the first section at fault decides, and the step that stops is not counted
  pub first_fault_figure : scan two_faults (start_state two_faults) ≡ fault parted 1
  pub stopped_after_4 : answer_of (onward 4 (start_state two_levels) (λ new. refused 0) (stopped parted 2)) ≡ record { number = 41; steps = 4; section = 2 }
  -- question 21: N at most 1,000,000 - m
  pub none_left : within_limit 1_000_000 0 ≡ true
  pub one_too_many : within_limit 1_000_000 1 ≡ false
