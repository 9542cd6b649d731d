-- The nodes' values, as the code works them out: records taken one after the other leave the last that passes. Assumes nothing.
use mathlib.Core.Path.{◌≡◌, refl, sym, ap, ◌∙◌}
use mathlib.Core.Bool.{Bool, true, false, cond, ◌&&◌}
use mathlib.Core.List.{List}
use Prim.Native.Nat.{ℕ, suc, ◌+◌, ◌<◌, ◌≤◌}
use native.Mathlib.Omega.{arith}
use lib.Dec.{eqb, leb}
use lib.ListN.{length, get_or, set, take}
use lib.Seq.{take_all}
use lib.Ieee.{Float, nan}
use borrow.Author.Tests.{eqb-true}
use Rattle.wave.specs.Nodes.{rundown}
use Rattle.job.specs.Job.{Trip, scheduled}
use Rattle.job.specs.Format.{job_of, node_table, trip_table, node_count, b_of, trip_count, trip_in}
use Rattle.job.specs.Questions.{Accepted}
use Rattle.job.proofs.AcceptedTrips.{trips_length, trip_listed, accepted_trip}
use Rattle.recurrence.specs.State.{Drive}
use Rattle.recurrence.specs.Step.{value_by}
use Rattle.recurrence.proofs.StepLaws.{last_next}
use Rattle.section.proofs.Entries.{read}
use Rattle.node_sums.specs.FromRows.{OverNodes}
use Rattle.node_sums.proofs.OverNodes.{over_set, over_cong}
use Rattle.node_values.specs.Pairs.{pair_in, value_from}

-- ---- the records one after the other

-- v of each node by the first i records
abbrev pub value_up_to : List ℕ → ℕ → List Float → List Float → ℕ → ℕ → Float
value_up_to job n speeds inflows i node = value_by (take i (job_of job).trips) n node (pair_in speeds inflows node) (scheduled (job_of job) n node)

-- what record t makes of v, for a node that it names
abbrev by_record : Trip → ℕ → Drive → Float → Float
by_record t n old v = cond (leb t.step n) (rundown t.G t.t0 t.t1 old.speed old.inflow) v

module _ (job : List ℕ) (ok : Accepted job) (n : ℕ) (speeds inflows : List Float) (i : ℕ) (h : i < trip_count (trip_table job)) where
  abbrev t : Trip
  t = trip_in (trip_table job) i

  abbrev old : ℕ → Drive
  old = pair_in speeds inflows

  abbrev up_to : ℕ → ℕ → Float
  up_to = value_up_to job n speeds inflows

  -- at any node, named or not
  next_value : (y : ℕ) → cond (eqb t.node y) (by_record t n (old t.node) (up_to i t.node)) (up_to i y) ≡ up_to (suc i) y
  unfolding value_by
  next_value y =
      go (eqb t.node y) refl
      ∙ sym (last_next (λ t. eqb t.node y && leb t.step n) (λ t. rundown t.G t.t0 t.t1 (old y).speed (old y).inflow) (scheduled (job_of job) n y) (job_of job).trips i t (trip_listed job ok i h))
    where
      go : (b : Bool) → eqb t.node y ≡ b
          → cond b (by_record t n (old t.node) (up_to i t.node)) (up_to i y) ≡ cond (b && leb t.step n) (rundown t.G t.t0 t.t1 (old y).speed (old y).inflow) (up_to i y)
      go true e = rw (eqb-true t.node y e)
      go false e = refl

  -- and in the row, by what the code reads: the record's node and constants, the pair and the value that stand there
  pub record_taken :
      {trips : List ℕ} {node : ℕ} {row : List Float} {v : Float} → trips ≡ trip_table job → node ≡ (trip_in trips i).node → node < length speeds → node < length inflows
      → OverNodes job (up_to i) row → v ≡ by_record (trip_in trips i) n record { speed = get_or speeds node nan; inflow = get_or inflows node nan } (get_or row node nan)
      → OverNodes job (up_to (i + 1)) (set row node v)
  record_taken {trips} {node} {row} {v} table names there here is e =
      let at : node ≡ t.node = names ∙ ap (λ (l : List ℕ). (trip_in l i).node) table in
      let present : node < node_count (node_table job) = omega (arith, at, (accepted_trip job ok i h).present) in
      let speed = read speeds node there in
      let inflow = read inflows node here in
      let value = is.at node present in
      let one : v ≡ by_record t n (old t.node) (up_to i t.node) = e ∙ rw (speed, inflow, value, table, at) in
      let next : suc i ≡ i + 1 = omega arith in
      over_cong job _ (up_to (i + 1)) (over_set job (up_to i) is node v present) (λ y _. rw (at, one) (next_value y ∙ ap (λ (k : ℕ). up_to k y) next))

-- after the last record
pub all_taken : (job : List ℕ) → Accepted job → (n : ℕ) (speeds inflows : List Float) {i : ℕ} {row : List Float} → trip_count (trip_table job) ≤ i
    → OverNodes job (value_up_to job n speeds inflows i) row → OverNodes job (value_from job n speeds inflows) row
all_taken job ok n speeds inflows {i} h is =
    let all : take i (job_of job).trips ≡ (job_of job).trips = take_all i (job_of job).trips (omega (arith, trips_length job ok)) in
    over_cong job _ _ is (λ y _. ap (λ (ts : List Trip). value_by ts n y (pair_in speeds inflows y) (scheduled (job_of job) n y)) all)
