-- `reader::pairs::size_fits` meets its contract: the least number of pairs ends where the question has it end. Assumes nothing.
use mathlib.Core.Path.{refl}
use Rattle.job.specs.Questions.{size_fits}
use borrow.Author.Rules.{rules}
use Rattle.reader.proofs.pairs.size_fits.Statement.{statement}
use Rattle.reader.proofs.pairs.size_fits.Tie as tie

pub size_fits_spec : {M : Type 1} → statement M
unfolding size_fits
size_fits_spec = tie.close (tie.spec (λ c κs. search rules) (λ c. rw c.pairs_end.ensures refl))
