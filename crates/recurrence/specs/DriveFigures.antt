-- Figures of the parts of a step that request 7 brings, proved in proofs/DriveFigures.antt before the figures of runs: each is so small that where a slip
-- changes it both numbers can be read in the error. Worked out by hand, in numbers that no operation rounds. Definitions only.
use Rattle.std.specs.Prelude.{◌≡◌, true, false, List, [], ◌∷◌, ℕ, get_or, Float}
use Rattle.std.specs.Float.{nan, binary64}
use Rattle.std.specs.Float.Ieee.{neg, to_bits}
use Rattle.fields.specs.Real.{zero64, infinity64}
use Rattle.wave.specs.Figures.{num, halved, power}
use Rattle.job.specs.Job.{Job, Trip, Kind, junction, reservoir, valve, pump, Laid}
use Rattle.recurrence.specs.State.{Point, Drive, State, drive_at, drive_of, start_drive}
use Rattle.recurrence.specs.Step.{place, value_by, advanced}
use Rattle.recurrence.specs.Scan.{not_finite, parted, fault, none, finite_drive, driven_at, fault_of, acceptable}
use Rattle.recurrence.specs.Run.{steps, left_by}
use Rattle.recurrence.specs.Calls.{speeds, inflows, in_use, holds}
use Rattle.recurrence.specs.OwnFigures.{pipe, node, initially}
use Rattle.recurrence.specs.DetailFigures.{two_reaches}

-- speed 1 and inflow 8; a record of node 0 with the trip step given, by which they run down to 1 - 1/4·((1·1)·1 + (1/8·1)·8) = 1/2
abbrev pub running : Drive
running = record { speed = num 1; inflow = num 8 }

abbrev pub quarter_at : ℕ → Trip
quarter_at step = record { node = 0; step = step; G = halved 1 2; t0 = num 1; t1 = halved 1 3 }

-- v of a node at step n, with entry 1/4 at that step, by that record alone
abbrev pub value_with : Trip → ℕ → ℕ → ℕ
value_with t n y = to_bits binary64 (value_by (t ∷ []) n y running (halved 1 2))

-- One reach of S = 1, without friction, from a pump of h = v·v·8 (b is 0, so that its q is y) to a reservoir at 8, at rest with flow 8: T·h - B is h there.
abbrev pub lifting : List Trip → List Float → Job
lifting trips entries = record {
  pipes = pipe 0 1 1 (num 1) ∷ [];
  nodes = node (pump (num 8) (num 0) (num 0)) entries ∷ node reservoir (num 8 ∷ []) ∷ [];
  friction = num 0 ∷ [];
  initial = initially (num 8) (num 8) (num 0) ∷ initially (num 8) (num 8) (num 0) ∷ [];
  trips = trips;
}

-- its state at rest, with a drive of the pump
abbrev pub at_rest : Drive → State
at_rest d =
    let p : Point = record { head = num 8; flow = num 8; highest = num 8; lowest = num 8 } in
    record { points = p ∷ p ∷ []; drives = d ∷ record { speed = num 0; inflow = num 0 } ∷ [] }

-- the pump's drive after a step from there, entry 1/4, tripped
abbrev pub stepped : Drive
stepped = drive_at (advanced (lifting (quarter_at 3 ∷ []) (halved 1 2 ∷ [])) 3 (at_rest running)) 0

-- a drive's two numbers
abbrev pub pair : Drive → List ℕ
pair d = to_bits binary64 d.speed ∷ to_bits binary64 d.inflow ∷ []

-- what a node of a kind holds with v = 3 and q = 5
abbrev pub kept : Kind → List ℕ
kept k = pair (drive_of k (num 3) (num 5))

-- head 1
abbrev pub head1 : Point
head1 = record { head = num 1; flow = num 0; highest = num 1; lowest = num 1 }

-- one reach from node 1 to node 0, where node 0's speed is no number
abbrev pub to_node0 : Laid
to_node0 = record { pipe = pipe 1 0 1 (num 1); first_section = 0; first_reach = 0 }

abbrev pub broken : State
broken = record { points = []; drives = record { speed = nan; inflow = num 0 } ∷ running ∷ [] }

-- The pump's drive after a step that stops at its section: speed 2 and inflow 1, and G is 0 where the bracket is not finite.
abbrev pub after_stop : Drive
after_stop =
    let old = at_rest record { speed = num 2; inflow = num 1 } in
    let j = lifting (record { node = 0; step = 1; G = num 0; t0 = power 1023; t1 = num 0 } ∷ []) (num 1 ∷ []) in
    drive_at (left_by record { done = 0; state = old } (steps j 1 0 old)).state 0

pub record DriveFigures : Type 0 where
  -- a record with trip step 3: the entry at step 2, the rundown from the old speed at 3 and at 4; another node has its entry
  pub before_the_trip : value_with (quarter_at 3) 2 0 ≡ 0x3fd0_0000_0000_0000
  pub at_the_trip : value_with (quarter_at 3) 3 0 ≡ 0x3fe0_0000_0000_0000
  pub after_the_trip : value_with (quarter_at 3) 4 0 ≡ 0x3fe0_0000_0000_0000
  pub another_node : value_with (quarter_at 3) 3 1 ≡ 0x3fd0_0000_0000_0000
  -- trip step 0 acts as 1
  pub trip_step_0 : value_with (quarter_at 0) 1 0 ≡ 0x3fe0_0000_0000_0000
  -- of a step: speed 1/2 by the old inflow 8; by the new one, which is 2, it would be 11/16. Then h = 2, so that 2 flows in.
  pub new_speed : to_bits binary64 stepped.speed ≡ 0x3fe0_0000_0000_0000
  pub new_inflow : to_bits binary64 stepped.inflow ≡ 0x4000_0000_0000_0000
  -- "+0 twice at nodes that aren't pumps"
  pub of_pump : kept (pump (num 1) (num 1) (num 1)) ≡ 0x4008_0000_0000_0000 ∷ 0x4014_0000_0000_0000 ∷ []
  pub of_junction : kept junction ≡ 0 ∷ 0 ∷ []
  pub of_reservoir : kept reservoir ≡ 0 ∷ 0 ∷ []
  pub of_valve : kept (valve (num 1) (num 1)) ≡ 0 ∷ 0 ∷ []
  -- the start: the first entry with its bits, and +0; a trip step of 0 changes nothing in it
  pub first_inflow : to_bits binary64 (start_drive (lifting [] (num 1 ∷ [])) 0).inflow ≡ 0
  pub first_entry : to_bits binary64 (start_drive (lifting [] (num 1 ∷ num 0 ∷ [])) 0).speed ≡ 0x3ff0_0000_0000_0000
  pub first_minus_zero : to_bits binary64 (start_drive (lifting [] (neg (num 0) ∷ [])) 0).speed ≡ 0x8000_0000_0000_0000
  pub first_tripped : to_bits binary64 (start_drive (lifting (quarter_at 0 ∷ []) (num 1 ∷ [])) 0).speed ≡ 0x3ff0_0000_0000_0000
  pub first_reservoir : to_bits binary64 (start_drive (lifting [] (num 1 ∷ [])) 1).speed ≡ 0
  -- what the rows of speeds and of inflows hold of a state
  pub speed_held : to_bits binary64 (get_or (holds (lifting [] []) (at_rest running) speeds) 0 zero64) ≡ 0x3ff0_0000_0000_0000
  pub inflow_held : to_bits binary64 (get_or (holds (lifting [] []) (at_rest running) inflows) 0 zero64) ≡ 0x4020_0000_0000_0000
  -- a speed and an inflow are judged, and before the floor, which is 2 over a head of 1
  pub speed_judged : fault_of (num 2) 5 head1 record { speed = nan; inflow = num 0 } ≡ fault not_finite 5
  pub inflow_judged : fault_of (num 2) 5 head1 record { speed = num 0; inflow = infinity64 } ≡ fault not_finite 5
  pub both_finite : fault_of (num 2) 5 head1 running ≡ fault parted 5
  pub on_floor : fault_of (num 1) 5 head1 running ≡ none
  -- "A stopped step changes no state": the pair as it was lent
  pub stop_leaves : pair after_stop ≡ 0x4000_0000_0000_0000 ∷ 0x3ff0_0000_0000_0000 ∷ []
  -- at a pipe's start and at its finish, each with its own node's
  pub judged_at_start : finite_drive (driven_at broken (place to_node0 0)) ≡ true
  pub judged_at_finish : finite_drive (driven_at broken (place to_node0 1)) ≡ false
  -- question 22 asks every node: that of the reservoir too
  pub asked_of_pump : acceptable (lifting [] []) (at_rest record { speed = num 0; inflow = infinity64 }) ≡ false
  pub asked_of_reservoir : acceptable (lifting [] []) record { points = (at_rest running).points; drives = running ∷ record { speed = nan; inflow = num 0 } ∷ [] } ≡ false
  -- "Question 20 asks that these slices hold the node count": of two nodes and three sections
  pub speeds_in_use : in_use (two_reaches []) speeds ≡ 2
  pub inflows_in_use : in_use (two_reaches []) inflows ≡ 2
