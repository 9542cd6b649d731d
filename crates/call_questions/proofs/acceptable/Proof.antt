-- `call_questions::acceptable` meets its contract: the floors are those of table 4, the pairs those of the job's nodes, and a test of the rows' entries is
-- one of the state that they hold. Assumes nothing.
use mathlib.Core.Path.{◌≡◌, sym, ap₂, ◌∙◌}
use mathlib.Core.Bool.{Bool, ◌&&◌}
use mathlib.Core.List.{List}
use Prim.Native.Nat.{ℕ}
use native.Mathlib.Omega.{arith}
use lib.Ieee.{Float}
use Rattle.loops.specs.Loops.{all_below}
use Rattle.recurrence.specs.Scan.{acceptable, finite_drive}
use Rattle.recurrence.specs.Calls.{gathered, drive_in, state_in}
use Rattle.job.specs.Job.{sections}
use Rattle.job.specs.Format.{job_of, node_table, initial_table, node_count}
use Rattle.job.specs.Questions.{Accepted}
use Rattle.job.proofs.Accepted.{initial_length, initial_fits_lem, nodes_length}
use Rattle.section.specs.Faults.{acceptable_in}
use Rattle.section.proofs.RecurrenceTies.{acceptable_is}
use Rattle.pipe_layout.proofs.Acceptance.{pairs_accepted, floor_read}
use Rattle.node_values.specs.Pairs.{pair_in}
use Rattle.call_questions.proofs.acceptable.Statement.{statement}
use Rattle.call_questions.proofs.acceptable.Tie as tie

-- the function's entry, and where the nodes are counted
abbrev entry : tie.After-shared_slice_known-7-1 → tie.Start
entry c = c.before.before.before.before.before.before.before

abbrev start : tie.After-node_count-nodes → tie.Start
start c = let table : tie.After-initial-initial = c.before in entry table.before

-- question 22 of the rows, by what the code counts and reads
judged :
    (job : List ℕ) → Accepted job → (heads flows highest lowest speeds inflows e : List Float) {initial : List ℕ} {n y : ℕ} {points pairs : Bool}
    → initial ≡ initial_table job → n ≡ sections (job_of job) → y ≡ node_count (node_table job)
    → points ≡ all_below (acceptable_in initial heads flows highest lowest) n → pairs ≡ all_below (λ (z : ℕ). finite_drive (pair_in speeds inflows z)) y
    → points && pairs ≡ acceptable (job_of job) (state_in (job_of job) (gathered heads flows highest lowest speeds inflows e))
unfolding drive_in
judged job ok heads flows highest lowest speeds inflows e table sections nodes points pairs =
    ap₂ ◌&&◌ points pairs
    ∙ rw (table, sections, nodes, sym (nodes_length job ok)) (acceptable_is (job_of job) _ (floor_read job ok) (gathered heads flows highest lowest speeds inflows e))

-- It stands before what the calls ask, and both tests are spelled out, so that of another row, count or test the prover tells this first.
returns : tie.Need-returns
returns c e =
    let points : tie.After-acceptable-points = c.before in
    let counted : tie.After-node_count-nodes = points.before in
    let s = start counted in
    let a = s.args in
    let j = job_of a.job.now in
    let rows = gathered a.heads.now a.flows.now a.highest.now a.lowest.now a.speeds.now a.inflows.now e in
    let pairs : c.finite_pairs-pairs.result ≡ all_below (λ (y : ℕ). finite_drive (pair_in a.speeds.now a.inflows.now y)) counted.node_count-nodes.result =
    c.finite_pairs-pairs.ensures in
    let both : points.acceptable-points.result && c.finite_pairs-pairs.result ≡ acceptable j (state_in j rows) =
    judged _ s.requires.0.0 _ _ _ _ _ _ e counted.before.initial-initial.ensures s.requires.0.1 counted.node_count-nodes.ensures points.acceptable-points.ensures pairs in
    both

acceptable-requires : tie.Need-acceptable-points-requires
acceptable-requires c κs =
    let pre = (start c).requires in
    rw c.before.initial-initial.ensures (
      record {
        table_long = omega (arith, initial_length _ pre.0.0, pre.0.1);
        table_fits = initial_fits_lem _ pre.0.0;
        heads_long = pre.1.0.0;
        flows_long = pre.1.0.1;
      },
      (pre.1.0.2, pre.1.0.3),
    )

finite-pairs-requires : tie.Need-finite_pairs-pairs-requires
finite-pairs-requires c κs =
    let counted : tie.After-node_count-nodes = c.before in
    rw counted.node_count-nodes.ensures (start counted).requires.1.1

pub acceptable_spec : {M : Type 1} → statement M
acceptable_spec =
    tie.close (tie.spec (λ c κs. pairs_accepted _ (entry c).requires.0.0) (λ c κs. (entry c.before).requires.0.0) acceptable-requires finite-pairs-requires returns)
