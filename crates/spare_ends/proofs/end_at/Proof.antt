-- `spare_ends::end_at` meets its contract: it reads the two numbers of the definition. Assumes nothing.
use mathlib.Core.Path.{refl}
use borrow.Author.Rules.{rules}
use Rattle.spare_ends.proofs.end_at.Statement.{statement}
use Rattle.spare_ends.proofs.end_at.Tie as tie

returns : tie.Need-returns
returns c = refl

pub end_at_spec : {M : Type 1} → statement M
end_at_spec = tie.close (tie.spec (λ c. search rules) (λ c. search rules) (λ c. search rules) (λ c. search rules) (λ c. search rules) returns)
