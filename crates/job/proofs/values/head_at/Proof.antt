-- `job::values::head_at` meets its contract: question 14's yes says that the head is finite, so that it may be read. Assumes nothing.
use mathlib.Core.Path.{sym, ap, ◌∙◌}
use Rattle.fields.specs.Finite.{finite_at}
use Rattle.job.specs.Job.{Initial}
use Rattle.job.proofs.SectionLaws.{section_finite, section_is}
use borrow.Author.Rules.{rules}
use Rattle.job.proofs.values.head_at.Statement.{statement}
use Rattle.job.proofs.values.head_at.Tie as tie

f64-at-requires : tie.Need-f64_at-requires
unfolding finite_at
f64-at-requires c κs = let start = c.before in (search rules, (section_finite _ start.requires.0 _ start.requires.1).head)

returns : tie.Need-returns
returns c = c.f64_at.ensures ∙ sym (ap (λ (i : Initial). i.head) (section_is _ _ c.before.before.requires.1))

pub head_at_spec : {M : Type 1} → statement M
head_at_spec = tie.close (tie.spec (λ c. search rules) f64-at-requires returns)
