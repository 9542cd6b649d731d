-- The figures of a chain, each by computation on the definition. Assumes nothing.
use mathlib.Core.Path.{refl}
use lib.Ieee.{of_bits, of_int, neg, eq}
use Rattle.loops.specs.Loops.{all_below}
use Rattle.job.specs.Job.{node_at}
use Rattle.chain.specs.Chain.{pipe_at, pipe_fits, is_junction, is_reservoir, is_valve, all_zero, node_fits, is_chain}
use Rattle.chain.specs.Figures.{ChainFigures}

pub chain_figures : ChainFigures
unfolding of_bits of_int neg eq all_below node_at pipe_at pipe_fits is_junction is_reservoir is_valve all_zero node_fits is_chain
chain_figures = record {
  shortest = refl;
  any_level = refl;
  zeros = refl;
  minus_zero_figure = refl;
  backward = refl;
  backward_first = refl;
  backward_last = refl;
  pipes_exchanged = refl;
  nodes_exchanged = refl;
  finish_skips = refl;
  start_skips = refl;
  branch = refl;
  node_too_many = refl;
  junction_too_many = refl;
  side_by_side = refl;
  node_too_few = refl;
  first_junction = refl;
  first_valve = refl;
  first_pump = refl;
  last_junction = refl;
  last_reservoir = refl;
  last_pump = refl;
  middle_reservoir = refl;
  middle_valve = refl;
  middle_pump = refl;
  second_reservoir = refl;
  second_pump = refl;
  draws = refl;
  draws_first = refl;
  draws_middle = refl;
  draws_last = refl;
  feeds = refl;
  draws_least = refl;
  feeds_least = refl;
  second_draws = refl;
  second_draws_first = refl;
}
