-- `section::clear_row` meets its contract: a turn stores one entry.
use mathlib.Core.Path.{◌≡◌}
use Prim.Native.Nat.{ℕ}
use Rattle.fields.specs.Real.{zero64}
use Rattle.loops.specs.Fill.{fill}
use Rattle.section.proofs.clear_row.Given as goal

abbrev pub invariant-loop-at : goal.invariant-loop-at
invariant-loop-at l = l.dst ≡ fill (λ (s : ℕ). zero64) l.fn.dst 0 l.at
