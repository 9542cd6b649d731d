-- The inner sections of a pipe after a step, from rows cut to the pipe: reach i joins its sections i and i + 1. Definitions only.
use Rattle.std.specs.Prelude.{◌≡◌, Bool, true, List, ℕ, ◌+◌, ◌-◌, ◌*◌, ◌≤◌, length, Float}
use Rattle.std.specs.Float.Ieee.Scale.{finite}
use Rattle.loops.specs.Loops.{all_below}
use Rattle.wave.specs.declared.HeadFlow.{HeadFlow}
use Rattle.wave.specs.Wave.{from_above, from_below, inner}
use Rattle.job.specs.Format.{r_in}
use Rattle.recurrence.specs.Step.{AlongPipes}
use Rattle.section.specs.SectionRows.{head_flow_in, two_of}
use Rattle.section.specs.Faults.{floor_in, sound_with}
use Rattle.inner_sections.specs.declared.TwoCp.{TwoCp}

-- what rows and friction that are cut to a pipe hold: R of each reach, and the old head and flow of each section
abbrev pub one_pipe : List ℕ → List Float → List Float → AlongPipes
one_pipe friction heads flows = record { friction = r_in friction; old = head_flow_in heads flows }

-- CP of section i + 1, along reach i from the section above; and CM of it, along reach i + 1 from the section below: "Q and H are the neighbour's old
-- values, R belongs to the reach between."
unfoldable pub cp_at : AlongPipes → Float → ℕ → Float
cp_at w S i = from_above S (w.friction i) (w.old i).head (w.old i).flow

unfoldable pub cm_at : AlongPipes → Float → ℕ → Float
cm_at w S i = from_below S (w.friction (i + 1)) (w.old (i + 2)).head (w.old (i + 2)).flow

-- CP of sections i + 1 and i + 2
abbrev pub two_cp_at : AlongPipes → Float → ℕ → TwoCp
two_cp_at w S i = record { first = cp_at w S i; second = cp_at w S (i + 1) }

-- section i + 1 from a CP, and sections i + 1 and i + 2 from the CP of both
abbrev pub by_cp : AlongPipes → Float → Float → ℕ → HeadFlow
by_cp w S cp i = inner S cp (cm_at w S i)

abbrev pub two_by_cp : AlongPipes → Float → TwoCp → ℕ → ℕ → HeadFlow
two_by_cp w S cp i = two_of (by_cp w S cp.first i) (by_cp w S cp.second (i + 1))

-- Section i + 1 of a pipe, which has reach i above it and reach i + 1 below it.
abbrev pub inner_at : AlongPipes → Float → ℕ → HeadFlow
inner_at w S i = by_cp w S (cp_at w S i) i

-- whether section i + 1 has no fault after a step; `floors` is the pipe's own part of table 4
abbrev pub sound_inner : List ℕ → AlongPipes → Float → ℕ → Bool
sound_inner floors w S i = sound_with (floor_in floors (i + 1)) (inner_at w S i)

-- Rows cut to a pipe of `count` sections, by the length of the row of flows: a reach fewer, and each R finite.
pub record CutToPipe (friction : List ℕ) (count flowsLong : ℕ) : Type 0 where
  pub flows_long : count ≤ flowsLong
  pub friction_long : count * 8 ≤ length friction + 8
  pub friction_finite : all_below (λ i. finite (r_in friction i)) (count - 1) ≡ true

-- a part of table 4 that has `count` sections, each floor finite
pub record Floored (floors : List ℕ) (count : ℕ) : Type 0 where
  pub floors_long : count * 24 ≤ length floors
  pub floors_finite : all_below (λ i. finite (floor_in floors i)) count ≡ true
