-- `chain_heads::write_pipe` meets its contract: at offset i the head in hand is the one that the definition has there, and those before it are stored.
use mathlib.Core.Path.{◌≡◌}
use Prim.Native.Nat.{ℕ, ◌+◌}
use lib.Ieee.{Float}
use Rattle.loops.specs.Fill.{fill}
use Rattle.job.specs.TableEntries.{r_of}
use Rattle.setting.specs.Setting.{head_along}
use Rattle.chain_heads.proofs.write_pipe.Given as goal

abbrev pub invariant-loop-i : goal.invariant-loop-i
invariant-loop-i v =
    let head : ℕ → Float = head_along v.l.s (λ k. r_of v.friction (v.l.first_reach + k)) v.q v.h in
    (v.heads ≡ fill head v.fn.heads v.l.first_section v.i) × (v.flows ≡ fill (λ k. v.q) v.fn.flows v.l.first_section v.i) × (v.head ≡ head v.i)
