-- `value_questions::not_finite` meets its contract: a turn adds 1 for a number that is not finite.
use Prim.Native.Nat.{◌+◌, ◌*◌}
use lib.Ieee.Scale.{finite}
use Rattle.fields.specs.Bytes.{f64_at}
use Rattle.loops.proofs.Counting.{Counting}
use Rattle.value_questions.proofs.not_finite.Given as goal

abbrev pub invariant-loop-k : goal.invariant-loop-k
invariant-loop-k l = Counting (λ k. finite (f64_at l.bytes ((l.first + k) * 8))) l.k l.bad
