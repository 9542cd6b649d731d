-- `job::values::r_at` meets its contract: question 13's yes says that R is finite, so that it may be read. Assumes nothing.
use mathlib.Core.Path.{sym, ◌∙◌}
use Rattle.fields.specs.Finite.{finite_at}
use Rattle.job.proofs.SectionLaws.{r_finite, r_is}
use borrow.Author.Rules.{rules}
use Rattle.job.proofs.values.r_at.Statement.{statement}
use Rattle.job.proofs.values.r_at.Tie as tie

f64-at-requires : tie.Need-f64_at-requires
unfolding finite_at
f64-at-requires c κs = let start = c.before in (search rules, r_finite _ start.requires.0 _ start.requires.1)

pub r_at_spec : {M : Type 1} → statement M
r_at_spec = tie.close (tie.spec (λ c. search rules) f64-at-requires (λ c. c.f64_at.ensures ∙ sym (r_is _ _ c.before.before.requires.1)))
