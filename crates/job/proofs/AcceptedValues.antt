-- The initial heads and flows of an accepted job are finite and no head is below its floor, by question 14; past the last section they read as 0. Its
-- scheduled values are finite, by question 15. Assumes nothing.
use mathlib.Core.Path.{◌≡◌, refl}
use mathlib.Core.Bool.{true, false}
use mathlib.Core.List.{List}
use Prim.Native.Nat.{ℕ, ◌+◌, ◌*◌, ◌/◌, ◌<◌}
use lib.ListN.{length}
use lib.Ieee.{lt, of_bits}
use lib.Ieee.Scale.{finite}
use borrow.Author.Tests.{not-true}
use Rattle.fields.specs.Bytes.{f64_at}
use Rattle.fields.specs.Real.{zero64}
use Rattle.loops.proofs.All.{all_at}
use Rattle.loops.proofs.Tests.{both}
use Rattle.loops.proofs.Listed.{get_or_all}
use Rattle.job.specs.Job.{Initial, initial_at, floor_at, entry_at, scheduled}
use Rattle.job.specs.Format.{initial_table, node_table, schedule_table, count_table, section_in, initial_in, node_count, schedule_count, place_of, entry_in, node_in, job_of}
use Rattle.job.specs.Questions.{section_fits, finite_section, Accepted}
use Rattle.job.proofs.SectionLaws.{section_fits_lem, FiniteSection, finite_section_lem}
use Rattle.job.proofs.NodeLaws.{node_is, entries_finite}
use Rattle.job.proofs.Accepted.{initial_fits_lem, tables_right}

module _ (job : List ℕ) (h : Accepted job) (s : ℕ) where
  good_section : section_fits (initial_at (job_of job) s) ≡ true
  unfolding initial_at job_of initial_in section_fits finite_section of_bits lt
  good_section =
      get_or_all (λ (i : Initial). section_fits i ≡ true) (length (initial_table job) / 24) (section_in (initial_table job)) _
      (λ k l. section_fits_lem (initial_table job) (initial_fits_lem job h) k l) refl s

  pub section_finite : FiniteSection (initial_at (job_of job) s)
  unfolding section_fits
  section_finite = finite_section_lem _ (both (finite_section (initial_at (job_of job) s)) _ good_section).0

  pub head_above_floor : lt (initial_at (job_of job) s).head (floor_at (job_of job) s) ≡ false
  unfolding section_fits floor_at
  head_above_floor = not-true _ (both (finite_section (initial_at (job_of job) s)) _ good_section).1

pub scheduled_finite : (job : List ℕ) → Accepted job → (n node : ℕ) → node < node_count (node_table job) → finite (scheduled (job_of job) n node) ≡ true
unfolding scheduled entry_at node_in of_bits
scheduled_finite job h n node l =
    let schedules = schedule_table job in
    let place = place_of (node_table job) (count_table job) node in
    let count = schedule_count (node_table job) (count_table job) node in
    let fine = entries_finite (node_table job) (count_table job) schedules (tables_right job h).nodes.entries l refl refl in
    rw (node_is job node l)
    (get_or_all (λ x. finite x ≡ true) count (λ i. entry_in schedules (place + i)) zero64
    (λ k b. all_at (λ i. finite (f64_at schedules ((place + i) * 8))) k count fine b) refl _)
