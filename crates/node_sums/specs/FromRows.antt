-- What a step works out from the rows of heads and flows, in the recurrence's own terms. Inner definitions: no public call cites them.
use Rattle.std.specs.Prelude.{◌≡◌, Bool, true, cond, ◌&&◌, List, [], ℕ, ◌≤◌, ◌<◌, length, get_or, Float}
use Rattle.std.specs.Float.{nan}
use Rattle.std.specs.Float.Ieee.Scale.{finite}
use Rattle.fields.specs.Real.{zero64, infinity64}
use Rattle.loops.specs.Loops.{listed}
use Rattle.wave.specs.declared.HeadFlow.{HeadFlow}
use Rattle.wave.specs.declared.Sums.{Sums}
use Rattle.wave.specs.declared.Node.{Node}
use Rattle.wave.specs.declared.Node.TheVariants.{Junction, Reservoir, Valve, Pump}
use Rattle.wave.specs.Wave.{sums_of}
use Rattle.wave.specs.Nodes.{node_head, node_inflow}
use Rattle.job.specs.Job.{laid, sections, friction_at}
use Rattle.job.specs.Format.{job_of, node_table, node_count}
use Rattle.job.specs.Questions.{Accepted}
use Rattle.recurrence.specs.Step.{AlongPipes, nodes_with, ends_of, sums_at, head_at, located, new_at}

-- what is read along the pipes: R in the job, heads and flows in two rows
abbrev pub along_rows : List ℕ → List Float → List Float → AlongPipes
along_rows job heads flows =
    record { friction = friction_at (job_of job); old = λ s. record { head = get_or heads s zero64; flow = get_or flows s zero64 } }

-- an accepted job, with heads and flows for each of its sections
pub record Lent (job : List ℕ) (heads flows : List Float) : Type 0 where
  pub accepted : Accepted job
  pub heads_long : sections (job_of job) ≤ length heads
  pub flows_long : sections (job_of job) ≤ length flows

-- ---- the nodes, in rows of 32

-- the sums of each node before any K: T, and +0 for B
unfoldable pub constant_sums : List ℕ → List Sums
constant_sums job = listed 32 (λ node. sums_of [] (ends_of (λ l. l.pipe.S) (λ l. l.pipe.S) node (laid (job_of job))))

-- the sums of each node
unfoldable pub node_sums : List ℕ → List Float → List Float → List Sums
node_sums job heads flows = listed 32 (sums_at (laid (job_of job)) (along_rows job heads flows))

-- a row has f of each node of the job
pub record OverNodes (job : List ℕ) (f : ℕ → Float) (row : List Float) : Type 0 where
  pub long : node_count (node_table job) ≤ length row
  pub at : (node : ℕ) → node < node_count (node_table job) → get_or row node nan ≡ f node

-- v of a node, in a row
abbrev pub value_in : List Float → ℕ → Float
value_in values node = get_or values node nan

-- whether the pair that a node would hold, with the inflow q, is finite: that of a node that isn't a pump is +0 twice
unfoldable pub pair_finite : Node → Float → Bool
pair_finite (Junction v) q = true
pair_finite (Reservoir v) q = true
pair_finite (Valve v a b) q = true
pair_finite (Pump v a b c) q = finite v && finite q

-- A node as its pipe ends take it. Where its pair is not finite a level of plus infinity stands for it, so that the check stops at its first end, which is
-- "the node's lowest section"; on a finished step it is the node itself.
unfoldable pub for_ends : Node → Sums → Node
for_ends n s = cond (pair_finite n (node_inflow n s)) n (Reservoir infinity64)

-- of a node, by a row of values and a row of sums: the node and its sums, H for its ends, and its inflow
abbrev pub sums_in : List Sums → ℕ → Sums
sums_in sums node = get_or sums node record { b = nan; t = nan }

abbrev pub head_by : List ℕ → List Float → List Sums → ℕ → Float
head_by job values sums node = node_head (for_ends (nodes_with (job_of job) (value_in values) node) (sums_in sums node)) (sums_in sums node)

abbrev pub inflow_by : List ℕ → List Float → List Sums → ℕ → Float
inflow_by job values sums node = node_inflow (nodes_with (job_of job) (value_in values) node) (sums_in sums node)

-- the nodes as their pipe ends take them, and the inflow of each, where v has the value of each
unfoldable pub end_nodes : List ℕ → (ℕ → Float) → List Float → List Float → ℕ → Node
end_nodes job v heads flows node = for_ends (nodes_with (job_of job) v node) (sums_at (laid (job_of job)) (along_rows job heads flows) node)

unfoldable pub inflow_at : List ℕ → (ℕ → Float) → List Float → List Float → ℕ → Float
inflow_at job v heads flows node = node_inflow (nodes_with (job_of job) v node) (sums_at (laid (job_of job)) (along_rows job heads flows) node)

-- H of a node, by the nodes
abbrev pub node_head_at : List ℕ → (ℕ → Node) → List Float → List Float → ℕ → Float
node_head_at job nodes heads flows = head_at (laid (job_of job)) (along_rows job heads flows) nodes

-- ---- the sections

-- the new head and flow of section s
unfoldable pub new_section : List ℕ → (ℕ → Node) → List Float → List Float → ℕ → HeadFlow
new_section job nodes heads flows s = new_at (laid (job_of job)) (along_rows job heads flows) nodes (located (laid (job_of job)) s)
