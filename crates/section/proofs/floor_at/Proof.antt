-- A section has 24 bytes, and its floor is the f64 number at byte 16 of them. Assumes nothing.
use borrow.Author.Rules.{rules}
use Rattle.fields.specs.Finite.{finite_at}
use Rattle.section.proofs.floor_at.Statement.{statement}
use Rattle.section.proofs.floor_at.Tie as tie

returns : tie.Need-returns
returns c = c.f64_at.ensures

f64-at-requires : tie.Need-f64_at-requires
unfolding finite_at
f64-at-requires c κs = (search rules, c.before.requires.1)

pub floor_at_spec : {M : Type 1} → statement M
floor_at_spec = tie.close (tie.spec (λ c. search rules) (λ c. search rules) f64-at-requires returns)
