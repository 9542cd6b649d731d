-- `pipe_layout::numbered_at` meets its contract: each field is read from the pipe's own record, and where the walk stands the pipe is laid.
-- Assumes nothing.
use mathlib.Core.Path.{refl, sym, ◌∙◌}
use mathlib.Core.Option.{some}
use Rattle.job.specs.Job.{laid}
use Rattle.job.specs.Format.{job_of}
use Rattle.job.proofs.Accepted.{constant_fits_lem}
use Rattle.job.proofs.WalkLaws.{walk_here, pipe_at_lem}
use Rattle.pipe_layout.proofs.Acceptance.{pairs_accepted}
use Rattle.pipe_layout.proofs.numbered_at.Statement.{statement}
use Rattle.pipe_layout.proofs.numbered_at.Tie as tie

start-requires : tie.Need-start-requires
start-requires c κs = rw c.pipes-pipes.ensures c.before.before.requires.1

finish-requires : tie.Need-finish-requires
finish-requires c κs = start-requires c.before κs

reaches-requires : tie.Need-reaches-requires
reaches-requires c κs = start-requires c.before.before κs

s-of-requires : tie.Need-s_of-requires
s-of-requires c κs =
    let table : tie.After-pipes-pipes = c.before.before.before in
    let pre = table.before.before.requires in
    rw table.pipes-pipes.ensures (pre.1, (constant_fits_lem _ pre.0 _ pre.1).0)

returns : tie.Need-returns
unfolding laid job_of
returns c =
    let table : tie.After-pipes-pipes = c.before.before.before.before in
    let entry = table.before.before in
    let t = table.pipes-pipes.ensures in
    let a = rw t at c.before.before.before.start.ensures.0 in
    let b = rw t at c.before.before.finish.ensures.0 in
    let n = rw t at c.before.reaches.ensures.0 in
    let s = rw t at c.s_of.ensures in
    (walk_here (pipe_at_lem _ _ entry.requires.1) entry.requires.2 ∙ sym (λ i. some record { pipe = record { start = a i; finish = b i; reaches = n i; S = s i }; first_section = entry.args.at.section; first_reach = entry.args.at.reach }), refl)

pub numbered_at_spec : {M : Type 1} → statement M
numbered_at_spec =
    tie.close
    (tie.spec
    (λ c κs. pairs_accepted _ c.before.requires.0)
    start-requires
    finish-requires
    reaches-requires
    s-of-requires
    returns)
