-- An arm of the match is the definition's clause for that kind; a pump's asks for its speed and the inflow. Assumes nothing.
use mathlib.Core.Path.{◌≡◌}
use mathlib.Core.Bool.{◌&&◌}
use lib.Ieee.Scale.{finite}
use borrow.Author.Rules.{rules}
use Rattle.node_sums.specs.FromRows.{pair_finite}
use Rattle.node_heads.proofs.pair_finite.Statement.{statement}
use Rattle.node_heads.proofs.pair_finite.Tie as tie

returns : tie.Need-returns-in-Junction
unfolding pair_finite
returns c = rw c.in-Junction.is

returns-2 : tie.Need-returns-in-Reservoir
unfolding pair_finite
returns-2 c = rw c.in-Reservoir.is

returns-3 : tie.Need-returns-in-Valve
unfolding pair_finite
returns-3 c = rw c.in-Valve.is

returns-4 : tie.Need-returns-in-Pump
unfolding pair_finite
returns-4 c =
    let speed = c.in-Pump.speed in
    let inflow = c.args.inflow in
    let is : c.both_finite.result ≡ finite speed && finite inflow = c.both_finite.ensures in
    rw c.in-Pump.is is

pub pair_finite_spec : {M : Type 1} → statement M
pair_finite_spec =
    tie.close
    (tie.spec
    (λ c. search rules)
    (λ c. search rules)
    (λ c. search rules)
    (λ c. search rules)
    (λ c κs. search rules)
    returns
    returns-2
    returns-3
    returns-4)
