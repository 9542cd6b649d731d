-- `call_rows::start_pairs` meets its contract: the values stored are those of the schedules at step 1, and the inflows +0. Assumes nothing.
use mathlib.Core.Path.{◌≡◌, ap, ◌∙◌}
use mathlib.Core.List.{List}
use Prim.Native.Nat.{ℕ, ◌<◌}
use native.Mathlib.Omega.{arith}
use lib.ListN.{replicate, get_or-replicate}
use lib.Ieee.{Float, nan}
use borrow.Author.Rules.{rules}
use Rattle.fields.specs.Real.{zero64}
use Rattle.loops.proofs.Fill.{fill_cong}
use Rattle.job.specs.Job.{scheduled}
use Rattle.job.specs.Format.{job_of, node_table, node_count}
use Rattle.job.specs.Questions.{Accepted}
use Rattle.recurrence.specs.State.{Drive, start_drive}
use Rattle.pipe_layout.proofs.Acceptance.{few_nodes}
use Rattle.node_sums.specs.FromRows.{OverNodes}
use Rattle.node_values.specs.Pairs.{pair_of, PairsLeft}
use Rattle.call_rows.proofs.start_pairs.Statement.{statement}
use Rattle.call_rows.proofs.start_pairs.Tie as tie

-- the pair that is stored for a node is the start's
start_pair : (job : List ℕ) → Accepted job → (values : List Float) → OverNodes job (scheduled (job_of job) 1) values → (y : ℕ) → y < node_count (node_table job)
    → pair_of job values (replicate 32 zero64) y ≡ start_drive (job_of job) y
unfolding start_drive
start_pair job ok values e y h =
    let value = e.at y h in
    let none = get_or-replicate 32 y zero64 nan (omega (arith, few_nodes job ok)) in
    rw (value, none)

-- the function's entry, and where the schedules are read
abbrev start : tie.After-scheduled_at → tie.Start
start c = c.before.before.before.before.before

abbrev read : tie.After-write_pairs-arg-2-1 → tie.After-scheduled_at
read c = c.before.before.before.before.before

scheduled-at-requires : tie.Need-scheduled_at-requires
scheduled-at-requires c κs =
    let ok = (let s : tie.Start = c.before.before.before.before in s.requires.0) in
    (ok, search rules, few_nodes _ ok)

write-pairs-requires : tie.Need-write_pairs-requires
write-pairs-requires c κs =
    let from = read c in
    let pre = (start from).requires in
    ((pre.0, from.scheduled_at.ensures.long, few_nodes _ pre.0), pre.1)

returns : tie.Need-returns
returns c =
    let stored : tie.After-write_pairs = c.before.before.before.before in
    let from = read stored.before in
    let pair = start_pair _ (start from).requires.0 _ from.scheduled_at.ensures in
    let a = (start from).args in
    let values = from.scheduled_at.new.values in
    let left = stored.write_pairs.new in
    let is : PairsLeft a.job.now values (replicate 32 zero64) a.speeds.now a.inflows.now left.speeds left.inflows = stored.write_pairs.ensures in (
      is.0 ∙ fill_cong _ _ _ 0 _ (λ y h. ap (λ (d : Drive). d.speed) (pair y h)),
      is.1 ∙ fill_cong _ _ _ 0 _ (λ y h. ap (λ (d : Drive). d.inflow) (pair y h)),
    )

pub start_pairs_spec : {M : Type 1} → statement M
start_pairs_spec =
    tie.close
    (tie.spec
    (λ c. search rules)
    scheduled-at-requires
    (λ c. search rules)
    (λ c. search rules)
    write-pairs-requires
    (λ c. search rules)
    (λ c. search rules)
    returns)
