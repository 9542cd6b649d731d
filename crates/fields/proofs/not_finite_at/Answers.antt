-- `fields::not_finite_at` meets its contract: only an exponent's field that is all ones gives 2048 with 1 added. Assumes
-- nothing.
use Rattle.std.proofs.Common.{rules}
use Rattle.fields.specs.Finite.{finite_at}
use Rattle.fields.proofs.Patterns.{pattern_not_finite}
use Rattle.fields.proofs.not_finite_at.Goals as goal

pub returns : goal.returns
unfolding finite_at
returns c = (search rules, pattern_not_finite c.u64_at.result c.u64_at.ensures)
