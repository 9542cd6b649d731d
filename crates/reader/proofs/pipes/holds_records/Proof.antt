-- `reader::pipes::holds_records` meets its contract: the three tests are the question's own. Assumes nothing.
use mathlib.Core.Path.{refl}
use Rattle.job.specs.Questions.{holds_records}
use borrow.Author.Rules.{rules}
use Rattle.reader.proofs.pipes.holds_records.Statement.{statement}
use Rattle.reader.proofs.pipes.holds_records.Tie as tie

pub holds_records_spec : {M : Type 1} → statement M
unfolding holds_records
holds_records_spec = tie.close (tie.spec (λ c. search rules) (λ c. search rules) (λ c. refl))
