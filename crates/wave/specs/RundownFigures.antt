-- Figures of a pump's inflow and of its speed after a power failure (document 02, 7/12), proved in proofs/RundownFigures.antt. They were worked out apart
-- from the definitions. Definitions only.
use Rattle.std.specs.Prelude.{◌≡◌}
use Rattle.std.specs.Float.{nan, binary64}
use Rattle.std.specs.Float.Ieee.{neg, to_bits}
use Rattle.fields.specs.Real.{infinity64}
use Rattle.wave.specs.declared.Node.TheVariants.{Valve, Pump}
use Rattle.wave.specs.Nodes.{node_head, node_inflow, rundown}
use Rattle.wave.specs.Figures.{◌is◌, num, tenths, halved, power, sums}

-- of a rundown: G, t0, t1, then the old speed and the old inflow
pub record RundownFigures : Type 0 where
  -- 4 - 1/2·((1/4·4)·4 + (1/8·4)·5) = 4 - 1/2·13/2 = 3/4; with t0 and t1 exchanged 4 - 1/2·7 = 1/2, with q·q for α·q 4 - 1/2·57/8 = 7/16
  pub exact : to_bits binary64 (rundown (halved 1 1) (halved 1 2) (halved 1 3) (num 4) (num 5)) ≡ 0x3fe8_0000_0000_0000
  -- the brackets and the order, by a model in Python
  pub rounded : to_bits binary64 (rundown (tenths 3) (tenths 25) (tenths 7) (tenths 1) (tenths 8)) ≡ 0x3fb3_6113_404e_a4aa
  -- a speed below zero is +0, minus infinity too; -0 and what is no number stay
  pub below_zero : to_bits binary64 (rundown (num 1) (num 2) (num 0) (num 1) (num 0)) ≡ 0
  pub minus_infinite : to_bits binary64 (rundown (power 1000) (power 1000) (num 0) (num 1) (num 0)) ≡ 0
  pub minus_zero_figure : to_bits binary64 (rundown (num 1) (num 1) (num 1) (neg (num 0)) (num 0)) ≡ 0x8000_0000_0000_0000
  pub no_number : rundown (num 0) (power 1023) (num 0) (num 2) (num 0) ≡ nan
  -- q of a pump is handed on, where it has none infinity; a valve's is not, which is 4 here
  pub inflow : node_inflow (Pump (num 1) (num 10) (halved 3 1) (num 0)) (sums (num 2) (num 1)) is num 2
  pub inflow_infinite : node_inflow (Pump (num 1) (num 10) (power 1023) (num 0)) (sums (num 2) (num 4)) is infinity64
  pub no_inflow : to_bits binary64 (node_inflow (Valve (num 1) (num 2) (num 6)) (sums (num 14) (num 1))) ≡ 0
  -- y that is no number, by a speed of 2^600 where a is 0, is not above zero: q is +0, and H is B/T
  pub no_lift : node_inflow (Pump (power 600) (num 0) (halved 3 1) (num 0)) (sums (num 2) (num 1)) is num 0
  pub no_lift_head : node_head (Pump (power 600) (num 0) (halved 3 1) (num 0)) (sums (num 2) (num 1)) is num 2
