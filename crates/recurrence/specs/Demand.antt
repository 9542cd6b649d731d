-- Demand 3, stated on the bytes of two accepted jobs. Definitions only.
use Rattle.std.specs.Prelude.{◌≡◌, ◌↔◌, List, ℕ, suc, ◌+◌, ◌-◌, ◌≤◌, ◌<◌, length}
use Rattle.std.proofs.Math.Option.{some}
use Rattle.std.proofs.Math.ListN.{get_elem?}
use Rattle.job.specs.Job.{Job, Kind, junction, reservoir, valve, pump, laid, sections, node_at, scheduled}
use Rattle.job.specs.Format.{job_of}
use Rattle.job.specs.Questions.{Accepted}
use Rattle.recurrence.specs.State.{Point, Drive, point_at, drive_at}
use Rattle.recurrence.specs.Scan.{Cause}
use Rattle.recurrence.specs.Run.{Answer, Call, stop_answer, played, answers, steps_done}
use Rattle.recurrence.specs.Paths.{EndAt, AtLeast, NoPath}

-- "Jobs alike but for one node's scheduled values may differ in that node's schedule count": x is the node.
pub record AlikeBut (x : ℕ) (A B : Job) : Type 0 where
  pub pipes : A.pipes ≡ B.pipes
  pub friction : A.friction ≡ B.friction
  pub initial : A.initial ≡ B.initial
  pub trips : A.trips ≡ B.trips
  pub count : length A.nodes ≡ length B.nodes
  pub kind : (node_at A x).kind ≡ (node_at B x).kind
  pub others : (y : ℕ) → ¬ (y ≡ x) → node_at A y ≡ node_at B y

-- "'Alike before step k' is said of v's bits at each step."
pub record AlikeBefore (k x : ℕ) (A B : Job) : Type 0 where
  pub values : (n : ℕ) → 1 ≤ n → n < k → scheduled A n x ≡ scheduled B n x

-- What is seen after a list of calls: m, the steps done; what each section and each node holds; and what each call was answered.
pub record Seen : Type 0 where
  pub done : ℕ
  pub point : ℕ → Point
  pub drive : ℕ → Drive
  pub answers : List Answer

abbrev pub IsPump : Kind → Type 0
IsPump junction = ⊥
IsPump reservoir = ⊥
IsPump (valve a b) = ⊥
IsPump (pump a b c) = Unit {0}

-- "Save the speed that the start writes at the edited pump itself: with k = 1 it follows the edited first entry": node y after m steps.
pub record FirstEntry (j : Job) (x k m y : ℕ) : Type 0 where
  pub at_the_start : m ≡ 0
  pub itself : y ≡ x
  pub is_a_pump : IsPump (node_at j y).kind
  pub edited : k ≡ 1

-- What two runs by one list of calls have alike, where both have done m steps: each section at least d reaches from the node x by every path holds the
-- same head, flow and envelopes whenever m ≤ k + d - 1, one that no path joins at every m. "The same distance rule covers" the speed and the inflow of a
-- node y, "with d counted from the edited node to that pump's node": to any end of it, since ends at one node are no reach apart. And a call that stops at
-- a step before k stops in both, at the same step and section, for the same cause: "A stop's step is the one after the steps done." j is either job: they
-- are laid alike.
pub record Carried (j : Job) (x k : ℕ) (a b : Seen) : Type 0 where
  pub near : (d s : ℕ) → a.done ≡ b.done → s < sections j → AtLeast (laid j) (EndAt (laid j) x) s d → a.done ≤ k + d - 1 → a.point s ≡ b.point s
  pub apart : (s : ℕ) → a.done ≡ b.done → s < sections j → NoPath (laid j) (EndAt (laid j) x) s → a.point s ≡ b.point s
  pub node_near : (d y s : ℕ) → a.done ≡ b.done → y < length j.nodes → EndAt (laid j) y s → AtLeast (laid j) (EndAt (laid j) x) s d
      → a.done ≤ k + d - 1 → ¬ FirstEntry j x k a.done y → a.drive y ≡ b.drive y
  pub inflow_near : (d y s : ℕ) → a.done ≡ b.done → y < length j.nodes → EndAt (laid j) y s → AtLeast (laid j) (EndAt (laid j) x) s d
      → a.done ≤ k + d - 1 → (a.drive y).inflow ≡ (b.drive y).inflow
  pub node_apart : (y s : ℕ) → a.done ≡ b.done → y < length j.nodes → EndAt (laid j) y s → NoPath (laid j) (EndAt (laid j) x) s
      → a.drive y ≡ b.drive y
  pub stops : (c : ℕ) (cause : Cause) (m s : ℕ) → suc m < k
      → (get_elem? a.answers c ≡ some (stop_answer cause m s)) ↔ (get_elem? b.answers c ≡ some (stop_answer cause m s))

-- after a start and the calls, by the recurrence
abbrev pub seen_by : Job → List Call → Seen
seen_by j calls =
    let st = (played j calls).state in
    record { done = steps_done j calls; point = point_at st; drive = drive_at st; answers = answers j calls }

-- Demand 3: "k is any whole number from 1, d any from 0."
abbrev pub Demand3 : Type 0
Demand3 =
    (a b : List ℕ) → Accepted a → Accepted b → (x k : ℕ) → 1 ≤ k → AlikeBut x (job_of a) (job_of b) → AlikeBefore k x (job_of a) (job_of b)
    → (calls : List Call) → Carried (job_of a) x k (seen_by (job_of a) calls) (seen_by (job_of b) calls)
