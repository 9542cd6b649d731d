-- `fields::is_finite` meets its contract: std's test and the logic's `finite` agree at each kind of f64. Assumes nothing.
use Rattle.std.specs.Prelude.{Float, ◌≡◌}
use Rattle.std.specs.Float.{float_is_finite, nan, inf, fin}
use Rattle.std.specs.Float.Ieee.Scale.{finite}
use Rattle.std.proofs.Common.{refl, ◌∙◌}
use Rattle.fields.proofs.is_finite.Goals as goal

-- std's test and the logic's are one
same : (x : Float) → float_is_finite x ≡ finite x
unfolding float_is_finite
same nan = refl
same (inf s) = refl
same (fin s m e) = refl

pub returns : goal.returns
returns c = c.is_finite.ensures.value ∙ same c.args.x
