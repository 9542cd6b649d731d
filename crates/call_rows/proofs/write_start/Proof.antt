-- `call_rows::write_start` meets its contract: table 4 has the initial heads and flows of the job's sections. Assumes nothing.
use native.Mathlib.Omega.{arith}
use borrow.Author.Rules.{rules}
use Rattle.job.specs.Job.{initial_at}
use Rattle.job.specs.Format.{job_of}
use Rattle.job.proofs.Accepted.{initial_length, initial_fits_lem}
use Rattle.pipe_layout.proofs.Acceptance.{pairs_accepted}
use Rattle.call_rows.proofs.write_start.Statement.{statement}
use Rattle.call_rows.proofs.write_start.Tie as tie

-- the function's entry
abbrev entry : tie.After-slice_known-4-1 → tie.Start
entry c = c.before.before.before.before.before

write-initial-requires : tie.Need-write_initial-requires
write-initial-requires c κs =
    let table : tie.After-initial-initial = c.before.before.before.before in
    let pre = (entry table.before).requires in
    let long = pre.1 in (
      rw table.initial-initial.ensures (initial_fits_lem _ pre.0.0, omega (arith, initial_length _ pre.0.0, pre.0.1)),
      (omega (arith, long.0), omega (arith, long.1), omega (arith, long.2), omega (arith, long.3)),
    )

returns : tie.Need-returns
unfolding initial_at job_of
returns c =
    let flows : tie.After-flows-1 = c.before.before.before.before.before in
    let written : tie.After-write_initial = flows.before.before.before in
    let table : tie.After-initial-initial = written.before.before.before.before.before in
    let t = table.initial-initial.ensures in
    let w = written.write_initial.ensures in
    (rw t at w.0, rw t at w.1, rw t at w.2, rw t at w.3)

pub write_start_spec : {M : Type 1} → statement M
write_start_spec =
    tie.close
    (tie.spec
    (λ c κs. pairs_accepted _ (entry c).requires.0.0)
    write-initial-requires
    (λ c. search rules)
    (λ c. search rules)
    (λ c. search rules)
    (λ c. search rules)
    returns)
