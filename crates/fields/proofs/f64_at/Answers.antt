-- `fields::f64_at` meets its contract: the pattern of a finite f64 is no NaN's. Assumes nothing.
use Rattle.fields.specs.Bytes.{f64_at}
use Rattle.fields.specs.Finite.{finite_at}
use Rattle.fields.proofs.Patterns.{finite_no_nan}
use Rattle.fields.proofs.f64_at.Goals as goal

pub float_from_bits-result : goal.float_from_bits-result
unfolding finite_at f64_at
float_from_bits-result c = rw c.u64_at.ensures (finite_no_nan _ c.requires.1)
