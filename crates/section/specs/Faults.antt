-- The scan and question 22 over lent rows: what they ask of section s, by the recurrence's own definitions. Definitions only.
use Rattle.std.specs.Prelude.{◌≡◌, Bool, true, false, cond, List, ℕ, ◌*◌, ◌≤◌, length, Float, Result, Ok, Err, ⊤}
use Rattle.loops.specs.Loops.{first_below}
use Rattle.fields.specs.Real.{zero64}
use Rattle.wave.specs.declared.HeadFlow.{HeadFlow}
use Rattle.job.specs.Format.{section_in}
use Rattle.job.specs.Questions.{initial_fits}
use Rattle.recurrence.specs.State.{Point, no_drive}
use Rattle.recurrence.specs.Scan.{Fault, none, fault, not_finite, parted, fault_of, earlier, acceptable_at}
use Rattle.section.specs.declared.Fault as Code
use Rattle.section.specs.declared.Fault.TheVariants.{NotFinite, Parted}
use Rattle.section.specs.SectionRows.{entry}

-- the floor head of section s, in the bytes of table 4
abbrev pub floor_in : List ℕ → ℕ → Float
floor_in initial s = (section_in initial s).floor

-- a head and a flow as a point: a scan looks at no envelope, so +0 stands for both
abbrev pub head_flow_point : Float → Float → Point
head_flow_point head flow = record { head = head; flow = flow; highest = zero64; lowest = zero64 }

-- what a section with this floor, head and flow shows; a node whose pair is not finite hands plus infinity to its ends as their head, so no pair is asked
abbrev pub fault_with : Float → ℕ → HeadFlow → Fault
fault_with floor s x = fault_of floor s (head_flow_point x.head x.flow) no_drive

-- whether there is no fault
unfoldable pub is_sound : Fault → Bool
is_sound none = true
is_sound (fault c s) = false

-- whether a section with this floor, head and flow has no fault; its number does not matter
abbrev pub sound_with : Float → HeadFlow → Bool
sound_with floor x = is_sound (fault_with floor 0 x)

-- 1 for a fault, else 0
abbrev pub counted : Float → HeadFlow → ℕ
counted floor x = cond (sound_with floor x) 0 1

-- the fault of section s, where x has the head and flow of each
unfoldable pub fault_at : List ℕ → (ℕ → HeadFlow) → ℕ → Fault
fault_at initial x s = fault_with (floor_in initial s) s (x s)

-- "Then scans sections upward": the first fault among the first n sections
unfoldable pub first_fault : List ℕ → ℕ → (ℕ → HeadFlow) → Fault
first_fault initial n x = first_below earlier none (fault_at initial x) n

-- the fault that an answer of the code stands for
unfoldable pub found_fault : Result ⊤ Code.Fault → Fault
found_fault (Ok _) = none
found_fault (Err (NotFinite s)) = fault not_finite s
found_fault (Err (Parted s)) = fault parted s

-- Table 4, in which question 14 has a yes, and the rows of heads and flows have the first n sections.
pub record Covered (initial : List ℕ) (n : ℕ) (heads flows : List Float) : Type 0 where
  pub table_long : n * 24 ≤ length initial
  pub table_fits : initial_fits initial ≡ true
  pub heads_long : n ≤ length heads
  pub flows_long : n ≤ length flows

-- what section s holds in four rows
abbrev pub point_of : List Float → List Float → List Float → List Float → ℕ → Point
point_of heads flows highest lowest s =
    record { head = entry heads s; flow = entry flows s; highest = entry highest s; lowest = entry lowest s }

-- question 22 at section s
unfoldable pub acceptable_in : List ℕ → List Float → List Float → List Float → List Float → ℕ → Bool
acceptable_in initial heads flows highest lowest s = acceptable_at (floor_in initial s) (point_of heads flows highest lowest s)
