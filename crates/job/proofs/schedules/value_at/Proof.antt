-- `job::schedules::value_at` meets its contract: the entry that is read is entry n at step n and the last after it, one of the schedule's own, and so within the
-- table and finite. Assumes nothing.
use mathlib.Core.Path.{sym, ◌∙◌}
use Prim.Native.Nat.{◌<◌}
use native.Mathlib.Omega.{arith}
use Rattle.fields.specs.Finite.{finite_at}
use Rattle.loops.proofs.All.{all_at}
use Rattle.job.proofs.NodeLaws.{entry_of}
use borrow.Author.Rules.{rules}
use Rattle.job.proofs.schedules.value_at.Statement.{statement}
use Rattle.job.proofs.schedules.value_at.Tie as tie

-- the function's entry
abbrev start : tie.After-entry_index → tie.Start
start c = c.before.before

-- the entry is one of the schedule's own
own : (c : tie.After-entry_index) → c.entry_index.result < (start c).args.count
own c = omega (arith, c.entry_index.ensures, (start c).requires.0)

-- It stands before the needs of the call, so that of another entry the prover tells this first.
returns : tie.Need-returns
returns c =
    let chosen : tie.After-entry_index = c.before in
    c.f64_at.ensures ∙ sym (entry_of _ _ _ _ (start chosen).requires.1 (start chosen).requires.0 chosen.entry_index.ensures)

f64-at-requires : tie.Need-f64_at-requires
unfolding finite_at
f64-at-requires c κs = (omega (arith, own c, (start c).requires.2), all_at _ _ _ (start c).requires.3 (own c))

pub value_at_spec : {M : Type 1} → statement M
value_at_spec =
    tie.close
    (tie.spec
    (λ c κs. search rules)
    (λ c. omega (arith, own c, (start c).requires.2))
    (λ c. omega (arith, own c, (start c).requires.2))
    f64-at-requires
    returns)
