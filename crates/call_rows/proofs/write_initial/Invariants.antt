-- `call_rows::write_initial` meets its contract: a turn stores one entry of each row.
use mathlib.Core.Path.{◌≡◌}
use lib.Ieee.{Float}
use Prim.Native.Nat.{ℕ}
use Rattle.loops.specs.Fill.{fill}
use Rattle.job.specs.TableEntries.{initial_of}
use Rattle.call_rows.proofs.write_initial.Given as goal

abbrev pub invariant-loop-s : goal.invariant-loop-s
invariant-loop-s l =
    let head : ℕ → Float = λ s. (initial_of l.fn.initial s).head in
    let flow : ℕ → Float = λ s. (initial_of l.fn.initial s).flow in
    (l.heads ≡ fill head l.fn.heads 0 l.s) × (l.flows ≡ fill flow l.fn.flows 0 l.s) × (l.highest ≡ fill head l.fn.highest 0 l.s)
    × (l.lowest ≡ fill head l.fn.lowest 0 l.s)
