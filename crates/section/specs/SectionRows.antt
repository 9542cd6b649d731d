-- Rows of f64 numbers, one number a section: what a step stores for a section. Inner definitions: no public call cites them.
use Rattle.std.specs.Prelude.{◌≡◌, List, ℕ, zero, suc, ◌+◌, get_or, Float}
use Rattle.fields.specs.Real.{zero64}
use Rattle.loops.specs.Fill.{fill}
use Rattle.wave.specs.declared.HeadFlow.{HeadFlow}
use Rattle.recurrence.specs.Slices.{LentSlice}
use Rattle.recurrence.specs.Step.{raised, lowered}

-- the number of section s in a row; past its end a row reads as +0
abbrev pub entry : List Float → ℕ → Float
entry row s = get_or row s zero64

-- the head and flow of section s in the rows of heads and flows
abbrev pub head_flow_in : List Float → List Float → ℕ → HeadFlow
head_flow_in heads flows s = record { head = entry heads s; flow = entry flows s }

-- a row's number for the section i after `at`, by a rule from its own entry and the new number: an envelope goes by `raised` or `lowered`
abbrev pub enveloped : (Float → Float → Float) → (ℕ → Float) → List Float → ℕ → ℕ → Float
enveloped rule f row at i = rule (entry row (at + i)) (f i)

-- a row that takes n numbers by a rule from entry `at` on; heads and flows go by the rule that keeps the new number
abbrev pub ruled : (Float → Float → Float) → (ℕ → Float) → List Float → ℕ → ℕ → List Float
ruled rule f row at n = fill (enveloped rule f row at) row at n

abbrev pub keep_new : Float → Float → Float
keep_new old new = new

-- Four rows after a call: from entry `at` on the heads and flows that f has of n sections, both envelopes with those heads, and every other entry
-- as it was.
abbrev pub SteppedRows : (ℕ → HeadFlow) → ℕ → ℕ → List Float → List Float → List Float → List Float → List Float → List Float → List Float → List Float → Type 0
SteppedRows f at n heads flows highest lowest newHeads newFlows newHighest newLowest =
    (newHeads ≡ ruled keep_new (λ i. (f i).head) heads at n)
    × (newFlows ≡ ruled keep_new (λ i. (f i).flow) flows at n)
    × (newHighest ≡ ruled raised (λ i. (f i).head) highest at n)
    × (newLowest ≡ ruled lowered (λ i. (f i).head) lowest at n)

-- the same of four lent rows
abbrev pub Stepped : (ℕ → HeadFlow) → ℕ → ℕ → LentSlice → LentSlice → LentSlice → LentSlice → Type 0
Stepped f at n heads flows highest lowest =
    SteppedRows f at n heads.entry.now flows.entry.now highest.entry.now lowest.entry.now
    heads.exit.now flows.exit.now highest.exit.now lowest.exit.now

-- the first and the second of two sections
unfoldable pub two_of : HeadFlow → HeadFlow → ℕ → HeadFlow
two_of x y zero = x
two_of x y (suc k) = y
