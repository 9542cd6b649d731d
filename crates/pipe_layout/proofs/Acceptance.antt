-- What a call takes from acceptance: how many pipes and nodes there are, R of each reach, the floor of each section, and where a laid pipe lies. Assumes nothing.
use mathlib.Core.Path.{◌≡◌, sym, ap, ◌∙◌}
use mathlib.Core.Bool.{true, false}
use mathlib.Core.List.{List}
use Prim.Native.Nat.{ℕ, suc, ◌+◌, ◌*◌, ◌/◌, ◌≤◌, ◌<◌}
use native.Mathlib.Omega.{arith}
use lib.Dec.{eqb}
use lib.ListN.{length, take}
use lib.Seq.{take_all}
use lib.Ieee.Scale.{finite}
use borrow.Author.Tests.{ne_eqb}
use Rattle.fields.specs.Real.{zero64}
use Rattle.job.specs.Job.{Laid, laid, laid_from, sections, friction_at, initial_at, floor_at}
use Rattle.job.specs.Format.{job_of, pipe_table, node_table, friction_table, initial_table, pipe_count, pipe_in, pipes_in, reaches_of, node_count, r_in, friction_in, initial_in, section_in}
use Rattle.job.specs.Questions.{Accepted, pair_questions, first_no, r_fits}
use Rattle.job.proofs.FirstNo.{none_refused}
use Rattle.loops.proofs.Tests.{both}
use Rattle.loops.proofs.Listed.{get_or-listed, listed_some}
use Rattle.job.specs.Walk.{past}
use Rattle.job.proofs.SectionLaws.{r_fits_lem}
use Rattle.job.proofs.Accepted.{GoodPipe, accepted_pipe, pipes_length, nodes_length, pipe_limits, node_limits, section_limit, friction_fits_lem, initial_length}
pub use Rattle.job.proofs.Accepted.{friction_length}
use Rattle.recurrence.specs.Calls.{in_use, spare}
use Rattle.recurrence.proofs.LaidPipes.{laid_spanned, laid_length}
use Rattle.section.specs.Faults.{floor_in}
use Rattle.job.proofs.WalkLaws.{sections_reaches, walk_more, walk_here, walk_done, walk_reach}
use Rattle.pipe_layout.specs.declared.Laid as Code
use Rattle.job.specs.declared.walk.Walk.{Walk}
use Rattle.pipe_layout.specs.Layout.{laid_of, LaidAt, Walked}

module _ (job : List ℕ) (ok : Accepted job) where
  -- every laid pipe is one of the first so many
  pub laid_all : take (pipe_count (pipe_table job)) (laid (job_of job)) ≡ laid (job_of job)
  unfolding laid
  laid_all = take_all (pipe_count (pipe_table job)) (laid_from 0 0 (job_of job).pipes) (omega (arith, laid_length 0 0 (job_of job).pipes, pipes_length job ok))

  -- questions 1 to 4, which a read of a table asks for
  pub pairs_accepted : first_no pair_questions job ≡ 0
  pairs_accepted = (none_refused job ok).pairs

  pub few_pipes : pipe_count (pipe_table job) ≤ 32
  few_pipes = omega (arith, (pipe_limits job ok).1, pipes_length job ok)

  pub few_nodes : node_count (node_table job) ≤ 32
  few_nodes = omega (arith, (node_limits job ok).1, nodes_length job ok)

  -- the spare's entries in use, as the code counts them
  pub four_a_pipe : in_use (job_of job) spare ≡ pipe_count (pipe_table job) * 4
  four_a_pipe = ap (λ (p : ℕ). p * 4) (pipes_length job ok)

  -- what a read of table 3 finds
  pub friction_finite : (r : ℕ) → r < reaches_of (job_of job).pipes → finite (r_in (friction_table job) r) ≡ true
  unfolding r_fits
  friction_finite r l = (both (finite (r_in (friction_table job) r)) _ (r_fits_lem (friction_table job) (friction_fits_lem job ok) r (omega (arith, friction_length job ok)))).0

  pub friction_read : (r : ℕ) → r < reaches_of (job_of job).pipes → friction_at (job_of job) r ≡ r_in (friction_table job) r
  unfolding friction_at job_of friction_in
  friction_read r l = get_or-listed _ (r_in (friction_table job)) r zero64 (omega (arith, friction_length job ok))

  -- what a read of table 4 finds
  pub floor_read : (s : ℕ) → s < sections (job_of job) → floor_in (initial_table job) s ≡ floor_at (job_of job) s
  unfolding floor_at initial_at job_of initial_in
  floor_read s h =
      sym (ap (λ (i : _). i.floor) (get_or-listed (length (initial_table job) / 24) (section_in (initial_table job)) s _ (omega (arith, initial_length job ok))))

  -- ---- a laid pipe of the job

  -- its sections and its reaches lie within the job's
  pub record Within (p : ℕ) (l : Laid) : Type 0 where
    pub present : p < pipe_count (pipe_table job)
    pub joined : GoodPipe (node_count (node_table job)) l.pipe
    pub apart : eqb l.pipe.start l.pipe.finish ≡ false
    pub start_low : l.pipe.start < 32
    pub finish_low : l.pipe.finish < 32
    pub sections_in : l.first_section + suc l.pipe.reaches ≤ sections (job_of job)
    pub sections_few : sections (job_of job) ≤ 512
    pub reaches_in : l.first_reach + l.pipe.reaches ≤ reaches_of (job_of job).pipes
    pub reaches_few : reaches_of (job_of job).pipes ≤ 512

  pub within : (p : ℕ) (l : Laid) → LaidAt job p l → Within p l
  unfolding sections job_of pipes_in
  within p l is =
      let at = laid_spanned (job_of job) p l is in
      let j : GoodPipe (node_count (node_table job)) l.pipe = rw (nodes_length job ok) at (accepted_pipe job ok p l.pipe at.pipe_is) in
      let nodes = few_nodes in
      record {
        present = (listed_some (pipe_count (pipe_table job)) (pipe_in (pipe_table job)) p l.pipe at.pipe_is).0;
        joined = j;
        apart = ne_eqb _ _ j.different;
        start_low = omega arith;
        finish_low = omega arith;
        sections_in = omega (arith, at.sections_end);
        sections_few = section_limit job ok;
        reaches_in = omega (arith, at.reaches_end);
        reaches_few = omega (arith, section_limit job ok, sections_reaches (job_of job).pipes);
      }

  -- ---- a walk over the pipes

  -- past the pipe that it stands at, no count comes near its bound
  pub record Onward (at : Walk) (l : Code.Laid) : Type 0 where
    pub walked : Walked job (past at l.reaches)
    pub here : Within at.pipe (laid_of l)
    pub first_is : (laid_of l).first_section ≡ at.section
    pub low : (at.pipe < 32) × (at.section + l.reaches < 512) × (at.reach ≤ at.section)

  pub onward : (at : Walk) (l : Code.Laid) → Walked job at → LaidAt job at.pipe (laid_of l) → Onward at l
  unfolding laid
  onward at l w is =
      let p = (laid_spanned (job_of job) at.pipe (laid_of l) is).pipe_is in
      let here = within at.pipe (laid_of l) is in
      let same : record { pipe = (laid_of l).pipe; first_section = at.section; first_reach = at.reach } ≡ laid_of l = cc (walk_here p w, is) in
      let s = ap (λ (x : Laid). x.first_section) same in
      record { walked = walk_more p w; here = here; first_is = sym s; low = omega (arith, here, few_pipes, s, walk_reach w) }

  -- past every pipe it has passed every section
  pub all_passed : (at : Walk) → Walked job at → pipe_count (pipe_table job) ≡ at.pipe → sections (job_of job) ≡ at.section
  unfolding sections
  all_passed at w e = (walk_done (pipes_length job ok ∙ e) w).0
