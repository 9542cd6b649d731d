-- The jobs of the cases as they are read, by computation on their bytes. Assumes nothing.
use mathlib.Core.Path.{refl}
use Rattle.recurrence.proofs.AllDefinitions.{opened}
use Rattle.recurrence.specs.TrippedJobs.{tripping}
use Rattle.border_cases.specs.Jobs.{opening, two_mains}
use Rattle.border_cases.specs.Cases.{AsRead}

pub as_read : AsRead
unfolding opened opening two_mains tripping
as_read = record {
  opening = refl;
  late = refl;
  low = refl;
  failing_late_figure = refl;
  drained_first = refl;
  drained_then_high_figure = refl;
  first_higher_figure = refl;
  second_higher_figure = refl;
  tripped_rising_figure = refl;
  tripped_higher_figure = refl;
  tripped_slower_figure = refl;
  pumping_slower_figure = refl;
  tripped_at_2 = refl;
}
