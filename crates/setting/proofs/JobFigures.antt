-- The figures of the call, each by computation on the definition. Assumes nothing.
use mathlib.Core.Path.{refl}
use Rattle.setting.specs.JobFigures.{JobFigures}
use Rattle.setting.proofs.AllDefinitions.{opened}

pub job_figures : JobFigures
unfolding opened
job_figures = record {
  job_q_figure = refl;
  six_pairs = refl;
  seven_pairs = refl;
  two_pipes_figure = refl;
  below_floor = refl;
  no_flow = refl;
  at_b = refl;
  not_a_chain = refl;
  with_draw_off = refl;
  level_not_finite = refl;
  flow_not_finite = refl;
  level_no_number = refl;
  heads_short = refl;
  flows_short = refl;
  just_enough = refl;
  short_no_flow = refl;
  fifty_one_first = refl;
  fifty_one_first_flow = refl;
  fifteen_first = refl;
  fifty_first = refl;
  fifty_three_first = refl;
  one_first = refl;
}
