-- `call_rows::clear_spare` meets its contract: the spare is cleared by the count of pipes. Assumes nothing.
use mathlib.Core.Path.{◌≡◌}
use Prim.Native.Nat.{ℕ, ◌*◌}
use native.Mathlib.Omega.{arith}
use Rattle.fields.specs.Real.{zero64}
use Rattle.loops.specs.Fill.{fill}
use borrow.Author.Rules.{rules}
use Rattle.call_rows.proofs.clear_spare.Statement.{statement}
use Rattle.call_rows.proofs.clear_spare.Tie as tie

clear-row-requires : tie.Need-clear_row-requires
clear-row-requires c κs = omega (arith, c.before.pipe_count-used.ensures.0, c.before.before.before.before.requires.1)

returns : tie.Need-returns
returns c =
    let cleared = c.before.before in
    let counted = cleared.before.before in
    let start : tie.Start = counted.before.before.before in
    let filled : cleared.clear_row.new.dst ≡ fill (λ (s : ℕ). zero64) start.args.spare.now 0 (counted.pipe_count-used.result * 4) =
    cleared.clear_row.ensures in
    rw counted.pipe_count-used.ensures.0 at filled

pub clear_spare_spec : {M : Type 1} → statement M
clear_spare_spec =
    tie.close
    (tie.spec
    (λ c κs. search rules)
    (λ c. search rules)
    clear-row-requires
    (λ c. search rules)
    returns)
