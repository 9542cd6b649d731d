-- The figures, each by computation on the definitions. Assumes nothing.
use mathlib.Core.Path.{refl}
use lib.Ieee.{of_bits, to_bits, of_int, add, sub, mul, div, neg, lt, eq}
use Rattle.root.specs.Root.{root_of}
use Rattle.wave.specs.Wave.{magnitude, from_above, from_below, inner, finish_k, start_k, finish_end, start_end, sum_from, sums_of}
use Rattle.wave.specs.Adding.{no_sums, with_k, with_s}
use Rattle.wave.specs.Nodes.{rooted, valve_w, valve_y, orifice_argument, orifice_rate, orifice_flow, valve_flow, pump_h, pump_y, pump_argument, lift_flow, pump_flow, head_less, head_more, judged, node_head}
use Rattle.wave.specs.Figures.{BenchFigures, WaveFigures, NodeFigures}

pub bench_figures : BenchFigures
unfolding magnitude from_above sum_from sums_of rooted valve_w valve_y orifice_argument orifice_rate orifice_flow valve_flow pump_h pump_y pump_argument lift_flow pump_flow head_less head_more judged node_head root_of of_bits to_bits of_int add sub mul div neg lt eq
bench_figures = record {
  p4 = refl;
  p5 = refl;
  p6_q = refl;
  p6_h = refl;
  p7_q = refl;
  p7_h = refl;
  p8_q = refl;
  p8_h = refl;
  p8_idle_q = refl;
  p8_idle_h = refl;
  p9 = refl;
}

pub wave_figures : WaveFigures
unfolding magnitude from_above from_below inner finish_k start_k finish_end start_end sum_from sums_of no_sums with_k with_s of_bits to_bits of_int add sub mul div neg lt eq
wave_figures = record {
  above = refl;
  below = refl;
  below_backward = refl;
  above_rounded = refl;
  below_rounded = refl;
  above_zero = refl;
  magnitude_zero = refl;
  inner_section_head = refl;
  inner_section_flow = refl;
  inner_rounded_head = refl;
  inner_rounded_flow = refl;
  inner_overflow_head = refl;
  inner_overflow_flow = refl;
  finish_k_figure = refl;
  start_k_figure = refl;
  finish_end_head = refl;
  finish_end_flow = refl;
  start_end_head = refl;
  start_end_flow = refl;
  finish_end_zero_flow = refl;
  start_end_zero_flow = refl;
  sums_rising_b = refl;
  sums_rising_t = refl;
  sums_zero_b = refl;
  sums_zero_t = refl;
  sums_none_b = refl;
  sums_none_t = refl;
  added_from_zero_b = refl;
  added_from_zero_t = refl;
  added_last_b = refl;
  added_last_t = refl;
}

pub node_figures : NodeFigures
unfolding rooted valve_w valve_y orifice_argument orifice_rate orifice_flow valve_flow pump_h pump_y pump_argument lift_flow pump_flow head_less head_more judged node_head root_of of_bits to_bits of_int add sub mul div neg lt eq
node_figures = record {
  junction_rounded = refl;
  junction_b_infinite = refl;
  junction_t_infinite = refl;
  reservoir = refl;
  reservoir_b_infinite = refl;
  reservoir_t_infinite = refl;
  valve_q = refl;
  valve_h = refl;
  valve_w_rounded = refl;
  orifice_rounded = refl;
  orifice_to_nearest = refl;
  orifice_below_middle = refl;
  orifice_subnormal = refl;
  orifice_z_overflow = refl;
  orifice_y_zero = refl;
  orifice_y_minus_zero = refl;
  orifice_y_below_zero = refl;
  orifice_y_minus_infinite = refl;
  orifice_y_no_number = refl;
  orifice_w_zero = refl;
  orifice_w_minus_zero = refl;
  orifice_w_zero_y_infinite = refl;
  valve_root_infinite_q = refl;
  valve_root_infinite_h = refl;
  valve_shut_y_infinite = refl;
  valve_shut_minus_zero = refl;
  valve_shut_t_infinite = refl;
  valve_y_zero_h = refl;
  valve_y_minus_zero_h = refl;
  valve_y_below_zero_q = refl;
  valve_y_below_zero_h = refl;
  valve_y_minus_infinite_h = refl;
  valve_y_below_zero_t_infinite = refl;
  valve_y_below_zero_b_infinite = refl;
  valve_above_by_y = refl;
  valve_level_by_y_q = refl;
  valve_level_by_y_h = refl;
  valve_h_rounded = refl;
  pump_q = refl;
  pump_head_level = refl;
  pump_h_rounded = refl;
  lift_rounded = refl;
  lift_to_nearest = refl;
  lift_below_middle = refl;
  lift_near_overflow = refl;
  lift_root_infinite = refl;
  lift_y_zero = refl;
  lift_y_minus_zero = refl;
  lift_y_below_zero = refl;
  pump_root_infinite_h = refl;
  pump_idle_minus_zero = refl;
  pump_idle_t_infinite = refl;
  pump_idle_b_infinite = refl;
  pump_head_rounded = refl;
}
