-- Sections that a path joins to the edited node, at their border, after a refused call. That they are alike is taken from demand 3 alone; that they are so no
-- longer is computed. Assumes nothing.
use mathlib.Core.Path.{◌≡◌, refl, sym, ◌∙◌}
use mathlib.Core.List.{List}
use mathlib.Core.Option.{some, some-injective, some-ne-none}
use Prim.Native.Nat.{ℕ, zero, suc, ◌+◌, ◌-◌, ◌≤◌}
use native.Mathlib.Omega.{arith}
use lib.ListN.{get_elem?}
use Rattle.job.specs.Job.{Laid, laid, sections}
use Rattle.job.specs.Format.{job_of}
use Rattle.job.specs.JobQ.{job_q}
use Rattle.recurrence.specs.Run.{steps_done}
use Rattle.recurrence.specs.Paths.{EndAt, AtLeast}
use Rattle.recurrence.specs.Figures.{job_q_rising}
use Rattle.recurrence.proofs.AllDefinitions.{opened}
use Rattle.recurrence.proofs.Sharp.{OnePipe, up_one_pipe, sharp_across}
use Rattle.border_cases.specs.Jobs.{opening, job_q_opening, after_refusal}
use Rattle.border_cases.specs.Cases.{Edited, Claim, SameAt, NearCases}
use Rattle.border_cases.proofs.Edits.{rescheduled, edited}
use Rattle.border_cases.proofs.Unlike.{pattern, unlike}

-- ---- the jobs

rising_edited : Edited job_q job_q_rising 0 2
rising_edited =
    record { accepted = sharp_across.accepted; from_1 = omega arith; alike = sharp_across.alike; before = sharp_across.before }

opening_edited : Edited job_q job_q_opening 1 2
unfolding opened opening rescheduled
opening_edited = edited job_q job_q_opening 1 1 (refl, refl) (omega arith) refl (tt, refl)

-- ---- distances in job Q, from its reservoir and from its valve

abbrev laid_q : List Laid
laid_q = laid (job_of job_q)

only : (p : ℕ) (l : Laid) → get_elem? laid_q p ≡ some l → OnePipe l
unfolding opened
only zero l e = rw (← (some-injective _ _ e)) record { first = refl; reaches = refl; start = refl; finish = refl }
only (suc p) l e = absurd (some-ne-none l (sym e))

three_sections : sections (job_of job_q) ≡ 3
unfolding opened
three_sections = refl

at_the_reservoir : AtLeast laid_q (EndAt laid_q 0) 0 0
unfolding AtLeast
at_the_reservoir e p = omega arith

up_from_the_valve : AtLeast laid_q (EndAt laid_q 1) 0 2
up_from_the_valve = up_one_pipe laid_q only

-- ---- the runs

-- both runs do N steps after the refused call
BothDo : List ℕ → ℕ → Type 0
BothDo b N = (steps_done (job_of job_q) (after_refusal N) ≡ N) × (steps_done (job_of b) (after_refusal N) ≡ N)

rising_1 : BothDo job_q_rising 1
unfolding opened BothDo
rising_1 = (refl, refl)

rising_3 : BothDo job_q_rising 3
unfolding opened BothDo
rising_3 = (refl, refl)

opening_3 : BothDo job_q_opening 3
unfolding opened opening BothDo
opening_3 = (refl, refl)

-- m at the bound k + d - 1: written out, so that an error shows both numbers
bound_at_the_node : steps_done (job_of job_q) (after_refusal 1) ≤ 2 + 0 - 1
unfolding BothDo
bound_at_the_node = omega (arith, rising_1.0)

-- ---- one step further

unlike_at_the_node : ¬ SameAt job_q job_q_rising (after_refusal 2) 0
unfolding opened pattern
unlike_at_the_node = unlike (λ p. p.head) job_q job_q_rising (after_refusal 2) 0 (λ e. omega (arith, e))

unlike_down : ¬ SameAt job_q job_q_rising (after_refusal 4) 2
unfolding opened pattern
unlike_down = unlike (λ p. p.head) job_q job_q_rising (after_refusal 4) 2 (λ e. omega (arith, e))

unlike_up : ¬ SameAt job_q job_q_opening (after_refusal 4) 0
unfolding opened opening pattern
unlike_up = unlike (λ p. p.flow) job_q job_q_opening (after_refusal 4) 0 (λ e. omega (arith, e))

pub near_cases : Claim → NearCases
unfolding BothDo
near_cases claim = record {
  at_the_node =
      (claim job_q job_q_rising 0 2 rising_edited (after_refusal 1)).near 0 0 (rising_1.0 ∙ sym rising_1.1) (omega (arith, three_sections)) at_the_reservoir
      bound_at_the_node;
  at_the_node_no_longer = unlike_at_the_node;
  down_the_pipe =
      (claim job_q job_q_rising 0 2 rising_edited (after_refusal 3)).near 2 2 (rising_3.0 ∙ sym rising_3.1) (omega (arith, three_sections))
      sharp_across.off (omega (arith, rising_3.0));
  down_the_pipe_no_longer = unlike_down;
  up_the_pipe =
      (claim job_q job_q_opening 1 2 opening_edited (after_refusal 3)).near 2 0 (opening_3.0 ∙ sym opening_3.1) (omega (arith, three_sections))
      up_from_the_valve (omega (arith, opening_3.0));
  up_the_pipe_no_longer = unlike_up;
}
