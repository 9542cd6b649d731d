-- What question 53's yes says of an accepted job's trips: each record names a pump that no other record names, and its three constants are finite and not below
-- zero. Assumes nothing.
use mathlib.Core.Path.{◌≡◌}
use mathlib.Core.Bool.{true, ◌&&◌}
use mathlib.Core.List.{List}
use mathlib.Core.Option.{some}
use Prim.Native.Nat.{ℕ, ◌*◌, ◌+◌, ◌%◌, ◌<◌}
use lib.ListN.{length, get_elem?}
use lib.Dec.{eqb, ltb}
use lib.Ieee.Scale.{finite}
use borrow.Author.Tests.{ltb-true, eqb-true}
use Rattle.fields.specs.Finite.{finite_at}
use Rattle.loops.specs.Loops.{all_below}
use Rattle.loops.proofs.All.{all_at}
use Rattle.loops.proofs.Tests.{both}
use Rattle.loops.proofs.Listed.{length-listed, at_listed}
use Rattle.job.specs.Format.{node_table, trip_table, node_count, kind_number, trip_count, trip_in, trips_in, job_of}
use Rattle.job.specs.Questions.{finite_not_below_zero, is_pump, first_of_node, rundown_fits, trip_fits, trips_fit, Accepted}
use Rattle.job.proofs.Accepted.{tables_right}

-- the constants of a record whose rundown fits
pub record FiniteRundown (trips : List ℕ) (i : ℕ) : Type 0 where
  pub G : finite_at trips (i * 30 + 6) ≡ true
  pub t0 : finite_at trips (i * 30 + 14) ≡ true
  pub t1 : finite_at trips (i * 30 + 22) ≡ true

pub finite_rundown : (trips : List ℕ) (i : ℕ) → rundown_fits (trip_in trips i) ≡ true → FiniteRundown trips i
unfolding rundown_fits finite_at
finite_rundown trips i h =
    let t = trip_in trips i in
    let gs-t1 = both (finite_not_below_zero t.G && finite_not_below_zero t.t0) (finite_not_below_zero t.t1) h in
    let g-t0 = both (finite_not_below_zero t.G) (finite_not_below_zero t.t0) gs-t1.0 in
    record {
      G = (both (finite t.G) _ g-t0.0).0;
      t0 = (both (finite t.t0) _ g-t0.1).0;
      t1 = (both (finite t.t1) _ gs-t1.1).0;
    }

-- what question 53 asks of record i
pub record GoodTrip (nodes trips : List ℕ) (i : ℕ) : Type 0 where
  pub present : (trip_in trips i).node < node_count nodes
  pub is_a_pump : kind_number nodes (trip_in trips i).node ≡ 3
  pub first : first_of_node trips i ≡ true
  pub rundown : rundown_fits (trip_in trips i) ≡ true

trip_good : (nodes trips : List ℕ) (i : ℕ) → trip_fits nodes trips i ≡ true → GoodTrip nodes trips i
unfolding trip_fits is_pump
trip_good nodes trips i h =
    let node = (trip_in trips i).node in
    let asked = both (is_pump nodes node && first_of_node trips i) (rundown_fits (trip_in trips i)) h in
    let named = both (is_pump nodes node) (first_of_node trips i) asked.0 in
    let pumps = both (ltb node (node_count nodes)) (eqb (kind_number nodes node) 3) named.0 in
    record { present = ltb-true _ _ pumps.0; is_a_pump = eqb-true _ _ pumps.1; first = named.1; rundown = asked.1 }

module _ (job : List ℕ) (h : Accepted job) where
  pub trips_length : length (job_of job).trips ≡ trip_count (trip_table job)
  unfolding job_of trips_in
  trips_length = length-listed _ _

  module _ (i : ℕ) (l : i < trip_count (trip_table job)) where
    pub trip_listed : get_elem? (job_of job).trips i ≡ some (trip_in (trip_table job) i)
    unfolding job_of trips_in
    trip_listed = at_listed (trip_count (trip_table job)) (trip_in (trip_table job)) i l

    pub accepted_trip : GoodTrip (node_table job) (trip_table job) i
    unfolding trips_fit
    accepted_trip =
        let nodes = node_table job in
        let trips = trip_table job in
        let each = (both (eqb (length trips % 30) 0) (all_below (trip_fits nodes trips) (trip_count trips)) (tables_right job h).trips).1 in
        trip_good nodes trips i (all_at (trip_fits nodes trips) i (trip_count trips) each l)
