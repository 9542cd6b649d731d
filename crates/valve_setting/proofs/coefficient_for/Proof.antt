-- `valve_setting::coefficient_for` meets its contract: the difference, its root, the quotient, in this order. Assumes nothing.
use mathlib.Core.Path.{ap}
use lib.Ieee.{Float}
use Rattle.fields.specs.Real.{◌⊘◌}
use borrow.Author.Rules.{rules}
use Rattle.setting.specs.Setting.{coefficient_for}
use Rattle.valve_setting.proofs.coefficient_for.Statement.{statement}
use Rattle.valve_setting.proofs.coefficient_for.Tie as tie

returns : tie.Need-returns
unfolding coefficient_for
returns c = ap (λ (r : Float). c.before.args.q ⊘ r) c.root_of.ensures

pub coefficient_for_spec : {M : Type 1} → statement M
coefficient_for_spec = tie.close (tie.spec (λ c κs. search rules) returns)
