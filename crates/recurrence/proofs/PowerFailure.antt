-- The figures of request 7 over steps and calls, each by computation on the definitions. Assumes nothing.
use mathlib.Core.Path.{refl}
use Rattle.recurrence.specs.PowerFailure.{pumping_main, RoundedFigures, two_pumps, FiveSteps, TripFigures, between2, second_step, StopFigures, OwnStateFigures}
use Rattle.recurrence.proofs.AllDefinitions.{opened}

pub rounded_figures : RoundedFigures
unfolding opened pumping_main
rounded_figures = record {
  speeds_0 = refl;
  inflows_0 = refl;
  scheduled_2 = refl;
  later_trip = refl;
  other_trip = refl;
  speeds_1 = refl;
  inflows_1 = refl;
  speeds_2 = refl;
  inflows_2 = refl;
  speeds_3 = refl;
  inflows_3 = refl;
  heads_3 = refl;
}

pub five_steps : FiveSteps
unfolding opened two_pumps
five_steps = record {
  speeds_2 = refl;
  inflows_2 = refl;
  speeds_3 = refl;
  inflows_3 = refl;
  speeds_4 = refl;
  inflows_4 = refl;
  speeds_5 = refl;
  inflows_5 = refl;
  heads_5 = refl;
  flows_5 = refl;
}

pub trip_figures : TripFigures
unfolding opened
trip_figures = record {
  at_0_start = refl;
  at_0_step_1 = refl;
  at_0_step_2 = refl;
  at_1_start = refl;
  at_1_step_1 = refl;
  at_1_step_2 = refl;
  at_2_step_1 = refl;
  at_2_step_2 = refl;
  below_zero = refl;
  minus_infinity = refl;
  minus_infinity_runs = refl;
  minus_zero_figure = refl;
}

pub stop_figures : StopFigures
unfolding opened between2 second_step
stop_figures = record {
  lowest_section = refl;
  heads_finite = refl;
  not_finite_first = refl;
  below_the_floor = refl;
}

pub own_state_figures : OwnStateFigures
unfolding opened
own_state_figures = record {
  from_7 = refl;
  from_minus_3 = refl;
  minus_3_accepted = refl;
  not_tripped = refl;
  not_tripped_inflow = refl;
  not_tripped_heads = refl;
  no_step_speeds = refl;
  no_step_inflows = refl;
  stopped_step = refl;
}
