-- What a run holds between steps, and what the start writes. Definitions only.
use Rattle.std.specs.Prelude.{List, ℕ, length, get_or, Float}
use Rattle.fields.specs.Real.{zero64}
use Rattle.job.specs.Job.{Job, Kind, junction, reservoir, valve, pump, Initial, sections, initial_at, node_at, scheduled}
use Rattle.loops.specs.Loops.{listed}

-- What one section holds: its head and flow, and the two envelopes, the highest and the lowest head so far.
pub record Point : Type 0 where
  pub head : Float
  pub flow : Float
  pub highest : Float
  pub lowest : Float

-- What one node holds. Request 7: "The state gains a speed and an inflow per node."
pub record Drive : Type 0 where
  pub speed : Float
  pub inflow : Float

-- What a run holds: a point for each section, numbered through all pipes from 0, and a drive for each node.
pub record State : Type 0 where
  pub points : List Point
  pub drives : List Drive

unfoldable pub no_point : Point
no_point = record { head = zero64; flow = zero64; highest = zero64; lowest = zero64 }

unfoldable pub no_drive : Drive
no_drive = record { speed = zero64; inflow = zero64 }

-- the point of section s, and the drive of a node
unfoldable pub point_at : State → ℕ → Point
point_at st s = get_or st.points s no_point

unfoldable pub drive_at : State → ℕ → Drive
drive_at st node = get_or st.drives node no_drive

-- speed v and inflow q of a pump; start and step "both write +0 twice at nodes that aren't pumps"
unfoldable pub drive_of : Kind → Float → Float → Drive
drive_of junction v q = no_drive
drive_of reservoir v q = no_drive
drive_of (valve a b) v q = no_drive
drive_of (pump a b c) v q = record { speed = v; inflow = q }

-- "The start writes the initial heads and flows, and both envelopes as the initial heads"; "the first scheduled speed and +0"
unfoldable pub start_point : Initial → Point
start_point i = record { head = i.head; flow = i.flow; highest = i.head; lowest = i.head }

unfoldable pub start_drive : Job → ℕ → Drive
start_drive j node = drive_of (node_at j node).kind (scheduled j 1 node) zero64

unfoldable pub start_state : Job → State
start_state j = record { points = listed (sections j) (λ s. start_point (initial_at j s)); drives = listed (length j.nodes) (start_drive j) }
