-- `node_questions::count_fits` meets its contract: the count is table 6's and the byte the node's. Assumes nothing.
use mathlib.Core.Path.{refl}
use Rattle.job.specs.Questions.{count_fits}
use borrow.Author.Rules.{rules}
use Rattle.node_questions.proofs.count_fits.Statement.{statement}
use Rattle.node_questions.proofs.count_fits.Tie as tie

pub count_fits_spec : {M : Type 1} → statement M
unfolding count_fits
count_fits_spec =
    tie.close (tie.spec (λ c κs. search rules) (λ c κs. search rules) (λ c. rw (c.before.long_count-count.ensures.0, c.count_byte-byte.ensures.0) refl))
