-- The bench figures and our own, each by computation on the definitions. Assumes nothing.
use mathlib.Core.Path.{refl}
use Rattle.root.proofs.Figures.{p10}
use Rattle.wave.proofs.Figures.{bench_figures}
use Rattle.recurrence.specs.Figures.{BenchTable}
use Rattle.recurrence.specs.OwnFigures.{RowFigures, RefusalFigures, StepFigures}
use Rattle.recurrence.proofs.EachRow.{each}
use Rattle.recurrence.proofs.AllDefinitions.{opened}

pub bench_table : BenchTable
unfolding opened
bench_table = record {
  p1_head = refl;
  p1_flow = refl;
  p2 = refl;
  p3 = refl;
  p4_to_p9 = bench_figures;
  p10 = p10;
  reaches_511 = refl;
  reaches_512 = refl;
  on_floor = refl;
  limit = refl;
  limit_passed = refl;
}

pub row_figures : RowFigures
unfolding opened
row_figures = record { in_order = refl; start = refl; one_step = refl; five_steps = refl; stop = refl; nan_spare = refl; no_step = refl }

pub refusal_figures : RefusalFigures
unfolding opened
refusal_figures = record {
  short_run_on = each _ refl refl refl refl refl refl refl;
  short_start = each _ refl refl refl refl refl refl refl;
  just_enough = refl;
  long_pipe = refl;
  two_short = refl;
  two_enough = refl;
  m_too_great = refl;
  n_too_great = refl;
  both_too_great = refl;
  both_great = refl;
  head_not_finite = refl;
  head_below_floor = refl;
  head_on_floor = refl;
  flow_not_finite = refl;
  highest_not_finite = refl;
  lowest_not_finite = refl;
  speed_not_finite = refl;
  inflow_not_finite = refl;
  past_the_count = refl;
  fifteen_before_20 = refl;
  fifteen_before_20_start = refl;
  fifty_before_20 = refl;
  fifty_before_20_start = refl;
  one_before_20 = refl;
  twenty_before_21 = refl;
  twenty_one_before_22 = refl;
}

pub step_figures : StepFigures
unfolding opened
step_figures = record {
  closing_1 = refl;
  closing_2 = refl;
  closing_3 = refl;
  closing_from_1 = refl;
  heads_1 = refl;
  flows_1 = refl;
  heads_2 = refl;
  flows_2 = refl;
  heads_3 = refl;
  flows_3 = refl;
  highest_3 = refl;
  lowest_3 = refl;
  outlet_level = refl;
  outlet_above = refl;
  rising = refl;
  both_faults_figure = refl;
  faults_upward_figure = refl;
  all_kinds = refl;
  zero_head = refl;
  zero_highest = refl;
  zero_lowest = refl;
}
