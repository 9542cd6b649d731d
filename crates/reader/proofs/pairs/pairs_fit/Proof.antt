-- `reader::pairs::pairs_fit` meets its contract: the count is the one that the question reads, and so many pairs end where it has them end. Assumes nothing.
use mathlib.Core.Path.{refl}
use Rattle.job.specs.Questions.{pairs_fit}
use borrow.Author.Rules.{rules}
use Rattle.reader.proofs.pairs.pairs_fit.Statement.{statement}
use Rattle.reader.proofs.pairs.pairs_fit.Tie as tie

pub pairs_fit_spec : {M : Type 1} → statement M
unfolding pairs_fit
pairs_fit_spec =
    tie.close
    (tie.spec
    (λ c κs. search rules)
    (λ c κs. search rules)
    (λ c. rw (c.pairs_end.ensures, c.before.pair_count-n.ensures.0) refl))
