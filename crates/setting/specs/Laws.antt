-- Three laws of the call that sets a valve, for a reader. Statements about the definitions; they are proved in proofs/Laws.antt. Definitions only.
use Rattle.std.specs.Prelude.{◌≡◌, true, false, List, ℕ, ◌<◌, ◌≤◌, T, get_or, Float}
use Rattle.std.specs.Float.{binary64}
use Rattle.std.specs.Float.Ieee.{fits, lt}
use Rattle.std.specs.Float.Ieee.Scale.{finite}
use Rattle.fields.specs.Real.{◌⊟◌, zero64}
use Rattle.job.specs.Job.{Job, sections, floor_at}
use Rattle.job.specs.Format.{job_of}
use Rattle.job.specs.Questions.{Accepted}
use Rattle.setting.specs.Setting.{head_at, last_head, outlet_head, coefficient_for, none, coefficient, is_chain_with, rows_hold, set_valve}

-- every question to the call has a yes
pub record EveryYes (bytes : List ℕ) (L Q : Float) (heads flows : List Float) : Type 0 where
  pub accepted : Accepted bytes
  pub chain : is_chain_with (job_of bytes) L Q ≡ true
  pub rows : rows_hold (job_of bytes) heads flows ≡ true

-- "Q is not above zero, a head falls below its floor, H is not above b, or any head, H - b or a is not finite"
pub data CauseOfNone (j : Job) (L Q : Float) : Type 0 where
  flow_not_above_zero : lt zero64 Q ≡ false → CauseOfNone j L Q
  head_below_floor : (s : ℕ) → s < sections j → lt (head_at j L Q s) (floor_at j s) ≡ true → CauseOfNone j L Q
  head_not_above_outlet : lt (outlet_head j) (last_head j L Q) ≡ false → CauseOfNone j L Q
  head_not_finite : (s : ℕ) → s < sections j → finite (head_at j L Q s) ≡ false → CauseOfNone j L Q
  difference_not_finite : finite (last_head j L Q ⊟ outlet_head j) ≡ false → CauseOfNone j L Q
  coefficient_not_finite : finite (coefficient_for Q (last_head j L Q) (outlet_head j)) ≡ false → CauseOfNone j L Q

-- what holds of every call that gives a coefficient
unfoldable pub WhereGiven : (List ℕ → Float → Float → List Float → List Float → Type 0) → Type 0
WhereGiven holding =
    (bytes : List ℕ) (L Q a : Float) (heads flows : List Float) → (set_valve bytes L Q heads flows).answer ≡ coefficient a → holding bytes L Q heads flows

pub record SettingLaws : Type 0 where
  -- "It answers 'none' exactly when" one of the causes holds, once every question has a yes
  pub none_exactly :
      (bytes : List ℕ) (L Q : Float) (heads flows : List Float)
      → ((set_valve bytes L Q heads flows).answer ≡ none → EveryYes bytes L Q heads flows × CauseOfNone (job_of bytes) L Q)
      × (EveryYes bytes L Q heads flows × CauseOfNone (job_of bytes) L Q → (set_valve bytes L Q heads flows).answer ≡ none)
  -- "at every section, the flow Q"
  pub flow_is_q :
      WhereGiven (λ bytes L Q heads flows. (s : ℕ) → s < sections (job_of bytes) → get_or (set_valve bytes L Q heads flows).flows s zero64 ≡ Q)
  -- Along the chain the heads never rise: Q is above zero, and no R is below. L is a number of 64 bits.
  pub never_rises :
      WhereGiven (λ bytes L Q heads flows. T (fits binary64 L) → (s t : ℕ) → s ≤ t → t < sections (job_of bytes)
      → lt (get_or (set_valve bytes L Q heads flows).heads s zero64) (get_or (set_valve bytes L Q heads flows).heads t zero64) ≡ false)
