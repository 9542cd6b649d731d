-- All definitions that a figure computes through: `unfolding opened` opens each of them. Assumes nothing.
use lib.Ieee.{to_bits, of_int, add, sub, mul, div, neg, eq}
use Rattle.root.specs.Root.{root_of}
use Rattle.wave.specs.Wave.{magnitude}
use Rattle.job.proofs.AllDefinitions as Job
use Rattle.chain.specs.Chain.{pipe_at, pipe_fits, is_junction, is_reservoir, is_valve, all_zero, node_fits, is_chain}
use Rattle.setting.specs.Setting.{head_after, head_along, head_in, heads_from, heads_of, head_at, last_head, head_behind, outlet_head, coefficient_for, head_fits, is_given, written, kept, set_or_none, is_chain_with, rows_hold, set_valve}
use Rattle.setting.specs.ChainJob.{chain_job}
use Rattle.setting.specs.Figures.{same, two_pipes, two_heads, two, two_but, across, three, decimals, decimal_heads, reach_over, reach, falling}

unfoldable pub opened : Unit {0}
unfolding Job.opened to_bits of_int add sub mul div neg eq root_of magnitude pipe_at pipe_fits is_junction is_reservoir is_valve all_zero node_fits is_chain head_after head_along head_in heads_from heads_of head_at last_head head_behind outlet_head coefficient_for head_fits is_given written kept set_or_none is_chain_with rows_hold set_valve chain_job same two_pipes two_heads two two_but across three decimals decimal_heads reach_over reach falling
opened = tt
