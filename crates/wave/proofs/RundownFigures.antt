-- The figures of a pump's inflow and rundown, each by computation on the definitions. Assumes nothing.
use mathlib.Core.Path.{refl}
use lib.Ieee.{of_bits, to_bits, of_int, add, sub, mul, div, neg, lt, eq}
use Rattle.root.specs.Root.{root_of}
use Rattle.wave.specs.Nodes.{rooted, pump_h, pump_y, pump_argument, lift_flow, pump_flow, valve_w, valve_y, orifice_argument, orifice_rate, orifice_flow, valve_flow, head_more, judged, node_head, inflow_of, node_inflow, rundown}
use Rattle.wave.specs.RundownFigures.{RundownFigures}

pub rundown_figures : RundownFigures
unfolding rooted pump_h pump_y pump_argument lift_flow pump_flow valve_w valve_y orifice_argument orifice_rate orifice_flow valve_flow head_more judged node_head inflow_of node_inflow rundown root_of of_bits to_bits of_int add sub mul div neg lt eq
rundown_figures = record {
  exact = refl;
  rounded = refl;
  below_zero = refl;
  minus_infinite = refl;
  minus_zero_figure = refl;
  no_number = refl;
  inflow = refl;
  inflow_infinite = refl;
  no_lift = refl;
  no_lift_head = refl;
  no_inflow = refl;
}
