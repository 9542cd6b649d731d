-- The values of the nodes at a step and their pairs, from the rows of speeds and inflows. Inner definitions: no public call cites them.
use Rattle.std.specs.Prelude.{◌≡◌, List, ℕ, get_or, Float}
use Rattle.fields.specs.Real.{zero64}
use Rattle.loops.specs.Fill.{fill}
use Rattle.job.specs.Job.{node_at, scheduled}
use Rattle.job.specs.Format.{job_of, node_table, node_count}
use Rattle.recurrence.specs.State.{Drive, drive_of}
use Rattle.recurrence.specs.Step.{value_by}
use Rattle.recurrence.specs.Slices.{LentSlice}
use Rattle.node_sums.specs.FromRows.{value_in}

-- the pair that a node holds in the rows
abbrev pub pair_in : List Float → List Float → ℕ → Drive
pair_in speeds inflows node = record { speed = get_or speeds node zero64; inflow = get_or inflows node zero64 }

-- v of a node at step n, from the pair that it holds
abbrev pub value_from : List ℕ → ℕ → List Float → List Float → ℕ → Float
value_from job n speeds inflows node = value_by (job_of job).trips n node (pair_in speeds inflows node) (scheduled (job_of job) n node)

-- the pair of a node by its kind, from rows of values and of inflows
abbrev pub pair_of : List ℕ → List Float → List Float → ℕ → Drive
pair_of job values found node = drive_of (node_at (job_of job) node).kind (value_in values node) (value_in found node)

-- two rows after the pair of each node is stored
abbrev pub PairsLeft : List ℕ → List Float → List Float → List Float → List Float → List Float → List Float → Type 0
PairsLeft job values found speeds inflows newSpeeds newInflows =
    (newSpeeds ≡ fill (λ node. (pair_of job values found node).speed) speeds 0 (node_count (node_table job)))
    × (newInflows ≡ fill (λ node. (pair_of job values found node).inflow) inflows 0 (node_count (node_table job)))

-- the same of two lent rows
abbrev pub PairsStored : List ℕ → List Float → List Float → LentSlice → LentSlice → Type 0
PairsStored job values found speeds inflows = PairsLeft job values found speeds.entry.now inflows.entry.now speeds.exit.now inflows.exit.now
