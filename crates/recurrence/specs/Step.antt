-- One step: every section from the old state. Definitions only.
use Rattle.std.specs.Prelude.{Bool, cond, ◌&&◌, List, [], ◌∷◌, ℕ, zero, suc, pred, ◌+◌, ◌-◌, leb, eqb, length, Float}
use Rattle.std.specs.Float.Ieee.{lt}
use Rattle.fields.specs.Real.{zero64}
use Rattle.wave.specs.declared.Node.{Node}
use Rattle.wave.specs.declared.Sums.{Sums}
use Rattle.wave.specs.declared.HeadFlow.{HeadFlow}
use Rattle.wave.specs.Wave.{from_above, from_below, inner, finish_k, start_k, finish_end, start_end, sums_of}
use Rattle.wave.specs.Nodes.{node_head, node_inflow, rundown}
use Rattle.job.specs.Job.{Job, Trip, Laid, laid, sections, friction_at, node_at, scheduled, with_value}
use Rattle.loops.specs.Loops.{listed}
use Rattle.recurrence.specs.State.{Point, Drive, State, point_at, drive_at, drive_of}

-- ---- what a step reads, beside the layout

-- What is read along the pipes: R of each reach, and the old head and flow of each section.
pub record AlongPipes : Type 0 where
  pub friction : ℕ → Float
  pub old : ℕ → HeadFlow

-- of the old state, heads and flows alone
unfoldable pub along_pipes : Job → State → AlongPipes
along_pipes j st = record { friction = friction_at j; old = λ s. record { head = (point_at st s).head; flow = (point_at st s).flow } }

-- what the last of a list that passes a test gives, and x where none does
unfoldable pub last_that : {T A : Type 0} → (T → Bool) → (T → A) → A → List T → A
last_that passes of x [] = x
last_that passes of x (t ∷ ts) = last_that passes of (cond (passes t) (of t) x) ts

-- v of a node at step n. Request 7: "from the trip step on" the rundown, "a pump not yet tripped, or in no record, has its scheduled speed"; "α and q are the
-- speed and the pump inflow that the lent slices hold from the step before". Steps are counted from 1, so that trip step 0 acts as 1. A record names a
-- pump, and no node stands in two (53), so that the last is the one.
unfoldable pub value_by : List Trip → ℕ → ℕ → Drive → Float → Float
value_by trips n node old v = last_that (λ t. eqb t.node node && leb t.step n) (λ t. rundown t.G t.t0 t.t1 old.speed old.inflow) v trips

unfoldable pub value_at : Job → ℕ → State → ℕ → Float
value_at j n st node = value_by j.trips n node (drive_at st node) (scheduled j n node)

-- Each node with its value v at the step; the values are handed in.
unfoldable pub nodes_with : Job → (ℕ → Float) → ℕ → Node
nodes_with j v node = with_value (node_at j node).kind (v node)

-- ---- along a reach: reach i of a pipe joins its sections i and i + 1

-- An equation of S, R, H and Q, along reach i of a laid pipe and from its section s: "Q and H are the neighbour's old values, R belongs to the
-- reach between."
unfoldable pub along : (Float → Float → Float → Float → Float) → AlongPipes → Laid → ℕ → ℕ → Float
along equation w l i s =
    let neighbour = w.old (l.first_section + s) in
    equation l.pipe.S (w.friction (l.first_reach + i)) neighbour.head neighbour.flow

-- CP of section i + 1, and CM of section i
unfoldable pub cp_after : AlongPipes → Laid → ℕ → Float
cp_after w l i = along from_above w l i i

unfoldable pub cm_before : AlongPipes → Laid → ℕ → Float
cm_before w l i = along from_below w l i (suc i)

-- K at a pipe's finish and at its start: "section 0, which has CM", "section n after n reaches, which has CP"
unfoldable pub k_at_finish : AlongPipes → Laid → Float
k_at_finish w l = along finish_k w l (pred l.pipe.reaches) (pred l.pipe.reaches)

unfoldable pub k_at_start : AlongPipes → Laid → Float
k_at_start w l = along start_k w l 0 1

-- ---- the nodes

-- What the pipe ends at a node give, in rising pipe number. A pipe's two nodes differ, so it has one end there at most.
unfoldable pub ends_of : {A : Type 0} → (Laid → A) → (Laid → A) → ℕ → List Laid → List A
ends_of ofStart ofFinish node [] = []
ends_of ofStart ofFinish node (l ∷ ls) =
    let rest = ends_of ofStart ofFinish node ls in
    cond (eqb l.pipe.start node) (ofStart l ∷ rest) (cond (eqb l.pipe.finish node) (ofFinish l ∷ rest) rest)

-- "For a node, B is the sum of K and T the sum of S over its pipe ends, added to +0 in rising pipe number."
unfoldable pub sums_at : List Laid → AlongPipes → ℕ → Sums
sums_at ls w node = sums_of (ends_of (k_at_start w) (k_at_finish w) node ls) (ends_of (λ l. l.pipe.S) (λ l. l.pipe.S) node ls)

-- H of a node
unfoldable pub head_at : List Laid → AlongPipes → (ℕ → Node) → ℕ → Float
head_at ls w nodes node = node_head (nodes node) (sums_at ls w node)

-- what a node holds after the step: "a finished step the new pair"
unfoldable pub new_drive : Job → List Laid → AlongPipes → (ℕ → Float) → ℕ → Drive
new_drive j ls w v node = drive_of (node_at j node).kind (v node) (node_inflow (nodes_with j v node) (sums_at ls w node))

-- ---- the sections

-- where a section stands: at offset i of a laid pipe
pub data Place : Type 0 where
  nowhere : Place
  place : Laid → ℕ → Place

unfoldable pub located : List Laid → ℕ → Place
located [] s = nowhere
located (l ∷ ls) s =
    let later = located ls s in
    cond (leb l.first_section s && leb s (l.first_section + l.pipe.reaches)) (place l (s - l.first_section)) later

-- head and flow at each end of a pipe, from the end's own K and the head there
unfoldable pub at_finish : List Laid → AlongPipes → (ℕ → Node) → Laid → HeadFlow
at_finish ls w nodes l = finish_end l.pipe.S (k_at_finish w l) (head_at ls w nodes l.pipe.finish)

unfoldable pub at_start : List Laid → AlongPipes → (ℕ → Node) → Laid → HeadFlow
at_start ls w nodes l = start_end l.pipe.S (k_at_start w l) (head_at ls w nodes l.pipe.start)

-- section i + 1 of a pipe, between its ends
unfoldable pub between : AlongPipes → Laid → ℕ → HeadFlow
between w l i = inner l.pipe.S (cp_after w l i) (cm_before w l (suc i))

-- at offset i of a pipe of so many reaches: its start, its finish, or one between them
unfoldable pub end_to_end : {A : Type 0} → ℕ → A → A → (ℕ → A) → ℕ → A
end_to_end reaches start finish inside zero = start
end_to_end reaches start finish inside (suc i) = cond (eqb (suc i) reaches) finish (inside i)

-- the new head and flow at offset i of a laid pipe, and at a section
unfoldable pub new_in : List Laid → AlongPipes → (ℕ → Node) → Laid → ℕ → HeadFlow
new_in ls w nodes l = end_to_end l.pipe.reaches (at_start ls w nodes l) (at_finish ls w nodes l) (between w l)

unfoldable pub new_at : List Laid → AlongPipes → (ℕ → Node) → Place → HeadFlow
new_at ls w nodes nowhere = record { head = zero64; flow = zero64 }
new_at ls w nodes (place l i) = new_in ls w nodes l i

-- "A finished step raises the maximum where the head is greater, lowers the minimum where it is less."
unfoldable pub raised : Float → Float → Float
raised highest head = cond (lt highest head) head highest

unfoldable pub lowered : Float → Float → Float
lowered lowest head = cond (lt head lowest) head lowest

unfoldable pub updated : HeadFlow → Point → Point
updated new old = record {
  head = new.head;
  flow = new.flow;
  highest = raised old.highest new.head;
  lowest = lowered old.lowest new.head;
}

unfoldable pub new_point : List Laid → AlongPipes → (ℕ → Node) → State → ℕ → Point
new_point ls w nodes st s = updated (new_at ls w nodes (located ls s)) (point_at st s)

-- "A step works out every section from the old state": step n, counted from 1.
unfoldable pub advanced : Job → ℕ → State → State
advanced j n st =
    let v = value_at j n st in
    record {
      points = listed (sections j) (new_point (laid j) (along_pipes j st) (nodes_with j v) st);
      drives = listed (length j.nodes) (new_drive j (laid j) (along_pipes j st) v);
    }
