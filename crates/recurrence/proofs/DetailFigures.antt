-- The figures of the parts of a step and of a run, by computation on the definitions. They stand before the figures of whole calls, so that a slip is
-- shown by the smallest figure that it changes. Assumes nothing.
use mathlib.Core.Path.{refl}
use Rattle.recurrence.specs.DetailFigures.{DetailFigures}
use Rattle.recurrence.proofs.AllDefinitions.{opened}

pub detail_figures : DetailFigures
unfolding opened
detail_figures = record {
  begun = refl;
  lowered_to_1 = refl;
  still_2 = refl;
  cm_of_first = refl;
  rising_b = refl;
  rising_t = refl;
  rising_head = refl;
  old_neighbour = refl;
  level_1 = refl;
  level_2 = refl;
  level_3 = refl;
  two_steps = refl;
  first_fault_figure = refl;
  stopped_after_4 = refl;
  none_left = refl;
  one_too_many = refl;
}
