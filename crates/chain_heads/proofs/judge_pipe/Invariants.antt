-- `chain_heads::judge_pipe` meets its contract: at offset i the head in hand is the one that the definition has there, and those before it have been
-- asked.
use mathlib.Core.Path.{◌≡◌}
use Prim.Native.Nat.{ℕ, ◌+◌}
use lib.Ieee.{Float}
use Rattle.loops.specs.Loops.{all_below}
use Rattle.job.specs.TableEntries.{r_of, initial_of}
use Rattle.setting.specs.Setting.{head_along, head_fits}
use Rattle.chain_heads.proofs.judge_pipe.Given as goal

abbrev pub invariant-loop-i : goal.invariant-loop-i
invariant-loop-i v =
    let head : ℕ → Float = head_along v.l.s (λ k. r_of v.friction (v.l.first_reach + k)) v.q v.h in
    (v.fits ≡ all_below (λ k. head_fits (initial_of v.fn.initial (v.l.first_section + k)).floor (head k)) v.i) × (v.head ≡ head v.i)
