-- The figures of the heads, the coefficient and the verdict, each by computation on the definitions. Assumes nothing.
use mathlib.Core.Path.{refl}
use Rattle.setting.specs.Figures.{HeadFigures, CoefficientFigures, VerdictFigures}
use Rattle.setting.proofs.AllDefinitions.{opened}

pub head_figures : HeadFigures
unfolding opened
head_figures = record {
  forward = refl;
  backward = refl;
  rounded = refl;
  overflow = refl;
  underflow = refl;
  one_node = refl;
  two_nodes = refl;
  reach_by_reach = refl;
  each_rounded = refl;
  last = refl;
  on_floor = refl;
  on_zero_floor = refl;
  below_floor = refl;
  on_lowest_floor = refl;
  minus_infinite = refl;
  plus_infinite = refl;
  no_number = refl;
}

pub coefficient_figures : CoefficientFigures
unfolding opened
coefficient_figures = record {
  job_q_valve = refl;
  b_below_zero = refl;
  rounded = refl;
  at_b = refl;
  b_of_last = refl;
}

pub verdict_figures : VerdictFigures
unfolding opened
verdict_figures = record {
  given = refl;
  no_flow = refl;
  minus_no_flow = refl;
  flow_below_zero = refl;
  least_flow = refl;
  on_floors = refl;
  below_first = refl;
  below_last = refl;
  at_b = refl;
  below_b = refl;
  above_b = refl;
  falls_to_b = refl;
  head_overflows = refl;
  difference_overflows = refl;
  difference_greatest = refl;
  a_overflows = refl;
  a_great = refl;
  a_zero = refl;
  just_enough = refl;
  one_node = refl;
  two_pipes_figure = refl;
  each_rounded = refl;
  on_each_floor = refl;
  below_one = refl;
}
