-- The figures of the parts that request 7 brings, by computation on the definitions. They stand before the figures of runs, so that a slip is shown by the
-- smallest figure that it changes. Assumes nothing.
use mathlib.Core.Path.{refl}
use Rattle.recurrence.specs.DriveFigures.{DriveFigures}
use Rattle.recurrence.proofs.AllDefinitions.{opened}

pub drive_figures : DriveFigures
unfolding opened
drive_figures = record {
  before_the_trip = refl;
  at_the_trip = refl;
  after_the_trip = refl;
  another_node = refl;
  trip_step_0 = refl;
  new_speed = refl;
  new_inflow = refl;
  of_pump = refl;
  of_junction = refl;
  of_reservoir = refl;
  of_valve = refl;
  first_inflow = refl;
  first_entry = refl;
  first_minus_zero = refl;
  first_tripped = refl;
  first_reservoir = refl;
  speed_held = refl;
  inflow_held = refl;
  speed_judged = refl;
  inflow_judged = refl;
  both_finite = refl;
  on_floor = refl;
  stop_leaves = refl;
  judged_at_start = refl;
  judged_at_finish = refl;
  asked_of_pump = refl;
  asked_of_reservoir = refl;
  speeds_in_use = refl;
  inflows_in_use = refl;
}
