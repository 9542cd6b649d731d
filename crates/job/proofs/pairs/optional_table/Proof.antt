-- `job::pairs::optional_table` meets its contract: a table without a pair is empty, and one with a pair is its part of the file. Assumes nothing.
use Prim.Native.Nat.{◌≤◌}
use native.Mathlib.Omega.{arith}
use Rattle.job.specs.Format.{pair_count}
use Rattle.job.proofs.TableBounds.{pairs_right, size_least, table_none}
use borrow.Author.Rules.{rules}
use Rattle.job.proofs.pairs.optional_table.Statement.{statement}
use Rattle.job.proofs.pairs.optional_table.Tie as tie

returns : tie.Need-returns-then-pair_count-k
returns c =
    let counted : tie.After-pair_count = c.before.before in
    let args = counted.before.before.args in
    let none : pair_count args.job.now ≤ args.k = rw (← counted.pair_count.ensures.0) c.before.if-pair_count-k.true in
    rw (table_none _ _ none)

part-requires : tie.Need-part-requires
part-requires c κs =
    let counted : tie.After-pair_count = c.before in
    (counted.before.before.requires, omega (arith, counted.pair_count.ensures.0, c.if-pair_count-k.false))

pub optional_table_spec : {M : Type 1} → statement M
optional_table_spec =
    tie.close
    (tie.spec
    (λ c κs. omega (arith, size_least _ (pairs_right _ c.before.requires).size))
    (λ c. search rules)
    (λ c. search rules)
    (λ c. search rules)
    returns
    part-requires
    (λ c. c.part.ensures))
