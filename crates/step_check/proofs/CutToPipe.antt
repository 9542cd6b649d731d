-- The inner sections of a laid pipe: rows, friction and floors are cut to it, and what was worked out on the parts is that of the whole. Assumes nothing.
use mathlib.Core.Path.{◌≡◌, refl, sym, ap, ap₂, ◌∙◌}
use mathlib.Core.List.{List, ◌++◌}
use Prim.Native.Nat.{ℕ, suc, ◌+◌, ◌-◌, ◌*◌, ◌≤◌, ◌<◌}
use native.Mathlib.Numerals.{add-one}
use native.Mathlib.Omega.{arith}
use lib.Dec.{eqb}
use lib.ListN.{length, take, drop}
use lib.Ieee.{Float}
use Rattle.fields.specs.Real.{zero64}
use Rattle.loops.specs.Loops.{all_below}
use Rattle.loops.proofs.Fill.{fill_cong, fill_part}
use Rattle.wave.specs.declared.HeadFlow.{HeadFlow}
use Rattle.job.specs.Job.{Laid, sections}
use Rattle.job.specs.Format.{job_of, friction_table, initial_table}
use Rattle.job.proofs.Accepted.{initial_length, initial_fits_lem}
use Rattle.recurrence.specs.Step.{AlongPipes, between}
use Rattle.loops.proofs.All.{all_cong}
use Rattle.section.specs.Faults.{floor_in, sound_with}
use Rattle.section.specs.SectionRows.{ruled}
use Rattle.inner_sections.specs.InnerSections.{one_pipe, inner_at, sound_inner, CutToPipe, Floored}
use Rattle.inner_sections.proofs.Parts.{r_part, r_part_finite, floor_part, floored_part}
use Rattle.loops.proofs.Parts.{part_length, part_at}
use Rattle.inner_sections.proofs.RecurrenceTies.{inner_is}
use Rattle.pipe_layout.specs.Layout.{LaidPipe}
use Rattle.pipe_layout.proofs.Acceptance.{Within, within, friction_length, friction_finite, friction_read}
use Rattle.node_sums.specs.FromRows.{along_rows, Lent}

-- the bytes of a pipe's friction, the number of its sections and the bytes of its floors, as the code counts them: from one place to another
abbrev pub bytes_of : Laid → ℕ
bytes_of l = l.first_reach * 8 + l.pipe.reaches * 8 - l.first_reach * 8

abbrev pub count_of : Laid → ℕ
count_of l = l.first_section + l.pipe.reaches + 1 - l.first_section

abbrev pub floor_bytes_of : Laid → ℕ
floor_bytes_of l = (l.first_section + l.pipe.reaches + 1) * 24 - l.first_section * 24

-- the parts of table 3, of table 4 and of a row
abbrev pub friction_of : List ℕ → Laid → List ℕ
friction_of friction l = take (bytes_of l) (drop (l.first_reach * 8) friction)

abbrev pub floors_of : List ℕ → Laid → List ℕ
floors_of initial l = take (floor_bytes_of l) (drop (l.first_section * 24) initial)

abbrev pub cut_to : Laid → List Float → List Float
cut_to l row = take (count_of l) (drop l.first_section row)

module _ (job : List ℕ) (heads flows : List Float) (lent : Lent job heads flows) (l : Laid) (is : LaidPipe job l) where
  here : Within job lent.accepted is.number l
  here = within job lent.accepted is.number l is.is

  pub cut_length : (row : List Float) → sections (job_of job) ≤ length row → length (cut_to l row) ≡ count_of l
  cut_length row h = part_length row l.first_section (count_of l) (omega (arith, here))

  count_inner : length (cut_to l heads) - 2 ≡ l.pipe.reaches - 1
  count_inner = omega (arith, cut_length heads lent.heads_long)

  pub cut_to_pipe : CutToPipe (friction_of (friction_table job) l) (length (cut_to l heads)) (length (cut_to l flows))
  cut_to_pipe =
      let n = cut_length heads lent.heads_long in
      record {
        flows_long = omega (arith, n, cut_length flows lent.flows_long);
        friction_long = omega (arith, n, part_length (friction_table job) (l.first_reach * 8) (bytes_of l) (omega (arith, here, friction_length job lent.accepted)));
        friction_finite =
            r_part_finite (friction_table job) (l.first_reach * 8) (bytes_of l) l.first_reach _ refl (omega (arith, n))
            (λ i b. friction_finite job lent.accepted (l.first_reach + i) (omega (arith, here, n)));
      }

  -- what the parts hold for section i + 1, and what the rows hold
  abbrev cut : ℕ → HeadFlow
  cut = inner_at (one_pipe (friction_of (friction_table job) l) (cut_to l heads) (cut_to l flows)) l.pipe.S

  abbrev whole : ℕ → HeadFlow
  whole = between (along_rows job heads flows) l

  pub cut_is : (i : ℕ) → suc i < l.pipe.reaches → cut i ≡ whole i
  cut_is i b =
      inner_is (along_rows job heads flows) (one_pipe (friction_of (friction_table job) l) (cut_to l heads) (cut_to l flows)) l l.pipe.reaches
      (λ i b. r_part (friction_table job) (l.first_reach * 8) (bytes_of l) l.first_reach i refl (omega arith) ∙ sym (friction_read job lent.accepted (l.first_reach + i) (omega (arith, here))))
      (λ i b.
      let h = part_at heads l.first_section (count_of l) i zero64 (omega arith) in
      let q = part_at flows l.first_section (count_of l) i zero64 (omega arith) in
      λ k. record { head = h k; flow = q k })
      i b

  -- a part that took new numbers by a rule, and put back
  pub put_back :
      (rule : Float → Float → Float) (field : HeadFlow → Float) (row : List Float) → sections (job_of job) ≤ length row → {exit : List Float}
      → exit ≡ ruled rule (λ i. field (cut i)) (cut_to l row) 1 (length (cut_to l heads) - 2)
      → take l.first_section row ++ (exit ++ drop (count_of l) (drop l.first_section row))
      ≡ ruled rule (λ i. field (whole i)) row (l.first_section + 1) (l.pipe.reaches - 1)
  put_back rule field row h e =
      rw (e, count_inner)
      (fill_part _ row l.first_section (count_of l) 1 (l.pipe.reaches - 1) (omega (arith, here)) (omega (arith, here))
      ∙ fill_cong _ _ row (l.first_section + 1) (l.pipe.reaches - 1)
      (λ i b.
      ap₂ rule
      (part_at row l.first_section (count_of l) (1 + i) zero64 (omega arith) ∙ rw (let e : l.first_section + (1 + i) ≡ l.first_section + 1 + i = omega arith in e))
      (ap field (cut_is i (omega arith)))))

  -- ---- the floors

  pub floored : Floored (floors_of (initial_table job) l) (l.pipe.reaches + 1)
  floored =
      floored_part (initial_table job) (l.first_section * 24) (floor_bytes_of l) l.first_section _ refl (omega arith) (omega (arith, here, initial_length job lent.accepted)) (initial_fits_lem job lent.accepted)

  -- what the code counts in rows w that hold the pipe's sections
  pub inner_judged :
      {initial : List ℕ} → initial ≡ initial_table job → (w : AlongPipes) (S : Float) {count : ℕ} → count ≡ l.pipe.reaches + 1
      → ((i : ℕ) → suc i < l.pipe.reaches → inner_at w S i ≡ whole i)
      → (r : ℕ) → eqb r 0 ≡ all_below (sound_inner (floors_of initial l) w S) (count - 2)
      → eqb r 0 ≡ all_below (λ i. sound_with (floor_in (initial_table job) (l.first_section + suc i)) (whole i)) (l.pipe.reaches - 1)
  inner_judged ei w S n same r e =
      let inner : l.pipe.reaches + 1 - 2 ≡ l.pipe.reaches - 1 = omega arith in
      rw (ei, n, inner) at e
      ∙ all_cong (l.pipe.reaches - 1) _ _
      (λ i b. ap₂ sound_with (rw (add-one i) (floor_part (initial_table job) (l.first_section * 24) (floor_bytes_of l) l.first_section (suc i) refl (omega arith))) (same i (omega arith)))
