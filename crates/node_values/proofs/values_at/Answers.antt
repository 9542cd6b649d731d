use mathlib.Core.Path.{◌≡◌, ap, ◌∙◌}
use mathlib.Core.List.{List}
use Prim.Native.Nat.{ℕ, ◌<◌}
use native.Mathlib.Omega.{arith}
use lib.ListN.{length}
use Rattle.job.specs.Format.{node_table, trip_table, node_count, trip_count, trip_in}
use Rattle.job.specs.Questions.{Accepted}
use Rattle.job.proofs.AcceptedTrips.{accepted_trip}
use Rattle.recurrence.specs.Step.{last_that, value_by}
use Rattle.pipe_layout.proofs.Acceptance.{pairs_accepted}
use Rattle.node_values.proofs.NodeValues.{record_taken, all_taken}
use Rattle.node_values.proofs.values_at.Goals as goal

-- the record at hand is one of table 7, and its node, as the code read it, is there
module _ (job : List ℕ) (ok : Accepted job) {trips : List ℕ} {count i : ℕ} (table : trips ≡ trip_table job) (counted : count ≡ trip_count trips) (h : i < count) where
  here : i < trip_count (trip_table job)
  here = rw (← table, ← counted) h

  present : {node : ℕ} → node ≡ (trip_in trips i).node → node < node_count (node_table job)
  present e = let is = e ∙ ap (λ (l : List ℕ). (trip_in l i).node) table in omega (arith, is, (accepted_trip job ok i here).present)

pub trips-trips-requires : goal.trips-trips-requires
trips-trips-requires c = pairs_accepted _ c.requires.accepted.0

pub loop-i-init : goal.loop-i-init
unfolding value_by last_that
loop-i-init c = c.scheduled_at.ensures

pub loop-i-preserved : goal.loop-i-preserved
loop-i-preserved c =
    let there = present _ c.requires.accepted.0 c.trips-trips.ensures c.trip_count-count.ensures c.loop-i-test.true c.node_of-node.ensures in
    record_taken _ c.requires.accepted.0 _ c.args.speeds.now c.args.inflows.now _ (here _ c.requires.accepted.0 c.trips-trips.ensures c.trip_count-count.ensures c.loop-i-test.true)
    c.trips-trips.ensures c.node_of-node.ensures (omega arith) (omega arith) c.loop-i.invariant c.value_by.ensures

pub bounds-speeds-node : goal.bounds-speeds-node
bounds-speeds-node c =
    omega (arith, present _ c.requires.accepted.0 c.trips-trips.ensures c.trip_count-count.ensures c.loop-i-test.true c.node_of-node.ensures)

pub bounds-inflows-node : goal.bounds-inflows-node
bounds-inflows-node c =
    omega (arith, present _ c.requires.accepted.0 c.trips-trips.ensures c.trip_count-count.ensures c.loop-i-test.true c.node_of-node.ensures)

pub bounds-values-node : goal.bounds-values-node
bounds-values-node c =
    omega (arith, present _ c.requires.accepted.0 c.trips-trips.ensures c.trip_count-count.ensures c.loop-i-test.true c.node_of-node.ensures)

pub bounds-values-node-in-loop-i : goal.bounds-values-node-in-loop-i
bounds-values-node-in-loop-i c =
    omega (arith, present _ c.requires.accepted.0 c.trips-trips.ensures c.trip_count-count.ensures c.loop-i-test.true c.node_of-node.ensures)

-- It stands after what a turn leaves, so that of another record the prover tells that first.
pub value_by-requires : goal.value_by-requires
value_by-requires c =
    let h = here _ c.requires.accepted.0 c.trips-trips.ensures c.trip_count-count.ensures c.loop-i-test.true in
    rw c.trips-trips.ensures (h, (accepted_trip _ c.requires.accepted.0 _ h).rundown)

pub returns : goal.returns
returns c =
    all_taken _ c.requires.accepted.0 _ c.args.speeds.now c.args.inflows.now {i = c.loop-i.i}
    (omega (arith, c.trip_count-count.ensures, ap length c.trips-trips.ensures, c.loop-i-test.false)) c.loop-i.invariant
