-- `node_questions::trips::constant_fits` meets its contract: a number that is finite may be compared, and one that is not is a no. Assumes nothing.
use mathlib.Core.Path.{sym, ◌∙◌}
use Rattle.fields.specs.Finite.{finite_at}
use borrow.Author.Rules.{rules}
use Rattle.node_questions.proofs.trips.constant_fits.Statement.{statement}
use Rattle.node_questions.proofs.trips.constant_fits.Tie as tie

pub constant_fits_spec : {M : Type 1} → statement M
unfolding finite_at
constant_fits_spec =
    tie.close
    (tie.spec
    (λ c κs. search rules)
    (λ c κs. (search rules, sym c.before.finite_at.ensures ∙ c.if-finite_at.true))
    (λ c. rw (sym c.before.before.finite_at.ensures ∙ c.before.if-finite_at.true) c.not_below_zero.ensures)
    (λ c. rw (sym c.before.finite_at.ensures ∙ c.if-finite_at.false)))
