-- The scan that a step ends with. Definitions only.
use Rattle.std.specs.Prelude.{Bool, cond, not, ◌&&◌, ℕ, length, Float}
use Rattle.std.specs.Float.Ieee.{lt}
use Rattle.std.specs.Float.Ieee.Scale.{finite}
use Rattle.loops.specs.Loops.{all_below, first_below}
use Rattle.job.specs.Job.{Job, laid, sections, floor_at}
use Rattle.recurrence.specs.State.{Point, Drive, State, no_drive, point_at, drive_at}
use Rattle.recurrence.specs.Step.{Place, nowhere, place, located, end_to_end, advanced}

-- why a run stops: a head, a flow, a speed or an inflow is not finite, or a head is below its floor
pub data Cause : Type 0 where
  not_finite : Cause
  parted : Cause

-- the number of each
unfoldable pub cause_number : Cause → ℕ
cause_number not_finite = 40
cause_number parted = 41

-- what a scan finds: no fault, or one at a section
pub data Fault : Type 0 where
  none : Fault
  fault : Cause → ℕ → Fault

-- whether all that a step works out at a section, and at a node, is finite
unfoldable pub finite_point : Point → Bool
finite_point p = finite p.head && finite p.flow

unfoldable pub finite_drive : Drive → Bool
finite_drive d = finite d.speed && finite d.inflow

-- The drive that is judged with a section: its node's where it is a pipe end. So every end of a node is at fault with the node, and the first that the
-- scan comes to is "the node's lowest section".
unfoldable pub driven_at : State → Place → Drive
driven_at st nowhere = no_drive
driven_at st (place l i) = end_to_end l.pipe.reaches (drive_at st l.pipe.start) (drive_at st l.pipe.finish) (λ _. no_drive) i

-- "With a head or flow not finite .. as 40; with a head below its floor, as 41. .. At one section 40 precedes 41." Request 7: "A speed or inflow that isn't
-- finite stops the run as 40."
unfoldable pub fault_of : Float → ℕ → Point → Drive → Fault
fault_of floor s p d = cond (finite_point p && finite_drive d) (cond (lt p.head floor) (fault parted s) none) (fault not_finite s)

-- the first of two
unfoldable pub earlier : Fault → Fault → Fault
earlier none b = b
earlier (fault c s) b = fault c s

-- "Then scans sections upward: the first .. stops the run."
unfoldable pub scan : Job → State → Fault
scan j st = first_below earlier none (λ s. fault_of (floor_at j s) s (point_at st s) (driven_at st (located (laid j) s))) (sections j)

-- a step finishes with a new state, or stops the run for a cause at a section
pub data Outcome : Type 0 where
  finished : State → Outcome
  stopped : Cause → ℕ → Outcome

unfoldable pub outcome_of : State → Fault → Outcome
outcome_of new none = finished new
outcome_of new (fault c s) = stopped c s

-- step n, counted from 1: "A stopped step changes no state or envelope."
unfoldable pub step : Job → ℕ → State → Outcome
step j n st = let new = advanced j n st in outcome_of new (scan j new)

-- question 22 at one section: "are heads, flows and envelopes finite .., no head below its floor?"
unfoldable pub acceptable_at : Float → Point → Bool
acceptable_at floor p = finite_point p && finite p.highest && finite p.lowest && not (lt p.head floor)

-- and at every node: "that they are finite"
unfoldable pub acceptable : Job → State → Bool
acceptable j st = all_below (λ s. acceptable_at (floor_at j s) (point_at st s)) (sections j) && all_below (λ y. finite_drive (drive_at st y)) (length j.nodes)
