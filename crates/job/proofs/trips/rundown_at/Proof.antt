-- `job::trips::rundown_at` meets its contract: question 53's yes says that the constants are finite, so that they may be read; they stand 6, 14 and 22 bytes into
-- the record. Assumes nothing.
use Rattle.job.proofs.AcceptedTrips.{FiniteRundown, finite_rundown}
use borrow.Author.Rules.{rules}
use Rattle.job.proofs.trips.rundown_at.Statement.{statement}
use Rattle.job.proofs.trips.rundown_at.Tie as tie

constants : (start : tie.Start) → FiniteRundown start.args.trips.now start.args.i
constants start = finite_rundown _ _ start.requires.1

-- It stands before the needs of the calls, so that of a constant read elsewhere the prover tells this first.
returns : tie.Need-returns
returns c =
    let read : tie.After-f64_at-t1 = c.before in
    rw (← read.before.before.f64_at-g.ensures, ← read.before.f64_at-t0.ensures, ← read.f64_at-t1.ensures) c.rundown.ensures

pub rundown_at_spec : {M : Type 1} → statement M
rundown_at_spec =
    tie.close
    (tie.spec
    (λ c. search rules)
    (λ c. search rules)
    (λ c κs. (search rules, (constants c.before).G))
    (λ c. search rules)
    (λ c κs. (search rules, (constants c.before.before).t0))
    (λ c. search rules)
    (λ c κs. (search rules, (constants c.before.before.before).t1))
    (λ c κs. search rules)
    returns)
