-- Each reach has eight bytes of table 3, its R as an f64 number. Assumes nothing.
use Rattle.std.proofs.Common.{rules}
use Rattle.fields.specs.Finite.{finite_at}
use Rattle.inner_sections.proofs.friction_at.Goals as goal

pub f64_at-requires : goal.f64_at-requires
unfolding finite_at
f64_at-requires c = (search rules, c.requires.1)
