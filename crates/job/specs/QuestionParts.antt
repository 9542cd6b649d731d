-- What the questions have said of tables that are handed on: which of them got a yes; and the two halves of questions 13, 14 and 15. Definitions only.
use Rattle.std.specs.Prelude.{◌≡◌, Bool, true, not, ◌&&◌, List, ℕ, ◌+◌, ◌*◌, ◌/◌, length, Float}
use Rattle.std.specs.Float.Ieee.{lt}
use Rattle.std.specs.Float.Ieee.Scale.{finite}
use Rattle.fields.specs.Bytes.{f64_at}
use Rattle.fields.specs.Real.{one64}
use Rattle.loops.specs.Loops.{all_below}
use Rattle.job.specs.Job.{Initial}
use Rattle.job.specs.Format.{r_in, section_in}
use Rattle.job.specs.Questions.{not_below_zero, finite_section, kinds_fit, counts_fit, figures_fit, schedules_right}

-- nodes, counts and schedules: questions 10, 50, 11 and 15
pub record NodesRight (nodes counts schedules : List ℕ) : Type 0 where
  pub kinds : kinds_fit nodes counts ≡ true
  pub counted : counts_fit nodes counts ≡ true
  pub figures : figures_fit nodes ≡ true
  pub entries : schedules_right nodes counts schedules ≡ true

-- whether n f64 numbers of a table, from number `first` on, are finite
abbrev pub numbers_finite : List ℕ → ℕ → ℕ → Bool
numbers_finite bytes first n = all_below (λ k. finite (f64_at bytes ((first + k) * 8))) n

-- 13 "each R finite", and "not below zero"
abbrev pub each_finite : List ℕ → Bool
each_finite friction = all_below (λ r. finite (r_in friction r)) (length friction / 8)

abbrev pub none_below_zero : List ℕ → Bool
none_below_zero friction = all_below (λ r. not_below_zero (r_in friction r)) (length friction / 8)

-- 14 "all finite", and "no head below its floor"
abbrev pub sections_finite : List ℕ → Bool
sections_finite initial = all_below (λ s. finite_section (section_in initial s)) (length initial / 24)

abbrev pub not_below_floor : Initial → Bool
not_below_floor i = not (lt i.head i.floor)

abbrev pub none_below_floor : List ℕ → Bool
none_below_floor initial = all_below (λ s. not_below_floor (section_in initial s)) (length initial / 24)

-- 15 "from 0 to 1"
abbrev pub from0_to1 : Float → Bool
from0_to1 v = not_below_zero v && not (lt one64 v)
