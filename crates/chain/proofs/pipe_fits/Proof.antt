-- `chain::pipe_fits` meets its contract: both ends are read from the pipe's own record. Assumes nothing.
use mathlib.Core.Path.{ap₂}
use mathlib.Core.Bool.{◌&&◌}
use Prim.Native.Nat.{ℕ, ◌+◌}
use lib.Dec.{eqb}
use borrow.Author.Rules.{rules}
use Rattle.chain.specs.Chain.{pipe_fits}
use Rattle.chain.proofs.pipe_fits.Statement.{statement}
use Rattle.chain.proofs.pipe_fits.Tie as tie

returns : tie.Need-returns
unfolding pipe_fits
returns c =
    let p = c.before.before.before.args.p in
    ap₂ (λ (start finish : ℕ). eqb start p && eqb finish (p + 1)) c.before.start-start.ensures.0 c.finish-finish.ensures.0

pub pipe_fits_spec : {M : Type 1} → statement M
pipe_fits_spec = tie.close (tie.spec (λ c κs. search rules) (λ c κs. search rules) (λ c. search rules) returns)
