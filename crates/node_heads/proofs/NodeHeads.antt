-- The heads of the nodes as their ends take them, and their inflows: by the rows of sums and of values each is the recurrence's. Assumes nothing.
use mathlib.Core.Path.{◌≡◌, refl}
use mathlib.Core.Bool.{◌&&◌}
use mathlib.Core.List.{List}
use Prim.Native.Nat.{ℕ, ◌<◌}
use native.Mathlib.Omega.{arith}
use lib.Ieee.{Float}
use lib.Ieee.Scale.{finite}
use Rattle.fields.specs.Real.{infinity64}
use Rattle.loops.proofs.Tests.{cond_all}
use Rattle.loops.proofs.Listed.{get_or-listed}
use Rattle.wave.specs.declared.Sums.{Sums}
use Rattle.wave.specs.declared.Node.TheVariants.{Reservoir}
use Rattle.wave.specs.Nodes.{judged, node_head}
use Rattle.job.specs.Job.{laid}
use Rattle.job.specs.Format.{job_of, node_table, node_count}
use Rattle.job.specs.Questions.{Accepted}
use Rattle.recurrence.specs.Step.{sums_at, head_at}
use Rattle.pipe_layout.proofs.Acceptance.{few_nodes}
use Rattle.node_sums.proofs.OverNodes.{over_cong}
use Rattle.node_sums.specs.FromRows.{along_rows, node_sums, OverNodes, value_in, sums_in, head_by, inflow_by, end_nodes, inflow_at, node_head_at}

module _ (job : List ℕ) (ok : Accepted job) where
  module _ (heads flows values : List Float) {sums : List Sums} (es : sums ≡ node_sums job heads flows) where
    sums_read : (node : ℕ) → node < node_count (node_table job) → sums_in sums node ≡ sums_at (laid (job_of job)) (along_rows job heads flows) node
    unfolding node_sums
    sums_read node h = rw es (get_or-listed 32 _ node _ (omega (arith, few_nodes job ok)))

    pub heads_by_sums : {row : List Float} → OverNodes job (head_by job values sums) row → OverNodes job (node_head_at job (end_nodes job (value_in values) heads flows) heads flows) row
    unfolding head_at end_nodes
    heads_by_sums o = over_cong job _ _ o (λ node h. rw (sums_read node h))

    pub inflows_by_sums : {row : List Float} → OverNodes job (inflow_by job values sums) row → OverNodes job (inflow_at job (value_in values) heads flows) row
    unfolding inflow_at
    inflows_by_sums o = over_cong job _ _ o (λ node h. rw (sums_read node h))

-- a level of plus infinity has that head, whether its sums are finite or not
pub head_infinite : (s : Sums) → node_head (Reservoir infinity64) s ≡ infinity64
unfolding node_head judged
head_infinite s = cond_all (λ H. H ≡ infinity64) (finite s.b && finite s.t) refl refl
