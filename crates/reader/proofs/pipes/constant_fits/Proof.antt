-- `reader::pipes::constant_fits` meets its contract: S is compared only where it is finite, and one that is not finite is a no. Assumes nothing.
use mathlib.Core.Path.{sym, ◌∙◌}
use Rattle.fields.specs.Finite.{finite_at}
use Rattle.job.specs.Questions.{constant_fits}
use borrow.Author.Rules.{rules}
use Rattle.reader.proofs.pipes.constant_fits.Statement.{statement}
use Rattle.reader.proofs.pipes.constant_fits.Tie as tie

s-of-requires : tie.Need-s_of-requires
unfolding finite_at
s-of-requires c κs = (search rules, sym c.before.finite_at.ensures ∙ c.if-finite_at.true)

pub constant_fits_spec : {M : Type 1} → statement M
unfolding constant_fits finite_at
constant_fits_spec =
    tie.close
    (tie.spec
    (λ c. search rules)
    (λ c. search rules)
    (λ c κs. search rules)
    s-of-requires
    (λ c. rw (c.s_of.ensures, sym c.before.before.finite_at.ensures ∙ c.before.if-finite_at.true))
    (λ c. rw (sym c.before.finite_at.ensures ∙ c.if-finite_at.false)))
