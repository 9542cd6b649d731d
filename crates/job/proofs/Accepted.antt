-- What an accepted job holds, of the tables and of the record that they are read into. Assumes nothing.
use mathlib.Core.Path.{◌≡◌}
use mathlib.Core.Bool.{true, not, ◌&&◌}
use mathlib.Core.List.{List}
use mathlib.Core.Option.{some}
use Prim.Native.Nat.{ℕ, ◌*◌, ◌/◌, ◌%◌, ◌<◌, ◌≤◌}
use lib.ListN.{length, get_elem?}
use lib.Dec.{eqb, leb, ltb}
use lib.Ieee.{lt}
use lib.Ieee.Scale.{finite}
use Rattle.fields.specs.Real.{zero64}
use borrow.Author.Tests.{leb-true, ltb-true, eqb-true, eqb-false, not-true, not-false}
use Rattle.loops.proofs.All.{all_at, all_no}
use Rattle.job.specs.Job.{Pipe, sections_of, sections}
use Rattle.job.specs.Format.{pipe_table, node_table, friction_table, initial_table, schedule_table, count_table, trip_table, pipe_count, pipe_in, pipes_in, reaches_of, node_count, nodes_in, job_of}
use Rattle.job.specs.Questions.{holds_records, joins, pipes_join, sections_fit, constant_fits, constants_fit, kinds_fit, counts_fit, trips_fit, figures_fit, ends_at, has_end, nodes_met, friction_fits, friction_right, has_length, initial_fits, initial_right, schedules_right, pipe_questions, node_questions, value_questions, first_no, Accepted}
use Rattle.job.specs.QuestionParts.{NodesRight}
use Rattle.job.proofs.FirstNo.{yes, none_refused}
use Rattle.job.proofs.TableBounds.{PairsRight, pairs_right}
use Rattle.loops.proofs.Tests.{both}
use Rattle.loops.proofs.Listed.{length-listed, at_listed, listed_some}

-- ---- the tables: each question that was asked of them has a yes

pub record TablesRight (job : List ℕ) : Type 0 where
  pub pairs : PairsRight job
  pub pipes_whole : holds_records 12 1 32 (pipe_table job) ≡ true
  pub nodes_whole : holds_records 26 2 32 (node_table job) ≡ true
  pub joined : pipes_join (pipe_table job) (node_count (node_table job)) ≡ true
  pub few_sections : sections_fit (pipe_table job) ≡ true
  pub constants : constants_fit (pipe_table job) ≡ true
  pub nodes : NodesRight (node_table job) (count_table job) (schedule_table job)
  pub trips : trips_fit (node_table job) (trip_table job) ≡ true
  pub met : nodes_met (pipe_table job) (node_count (node_table job)) ≡ true
  pub friction : friction_right (pipe_table job) (friction_table job) ≡ true
  pub initial : initial_right (pipe_table job) (initial_table job) ≡ true

-- question 50's yes, where the questions about nodes have no first no
pub counts_asked :
    {nodes counts : List ℕ} (job : List ℕ) → nodes ≡ node_table job → counts ≡ count_table job → first_no node_questions job ≡ 0 → counts_fit nodes counts ≡ true
unfolding node_questions first_no
counts_asked job n c h =
    let q10 = yes (kinds_fit (node_table job) (count_table job)) 9 _ h in
    rw (n, c) (yes (counts_fit (node_table job) (count_table job)) 49 _ q10.1).0

pub tables_right : (job : List ℕ) → Accepted job → TablesRight job
unfolding pipe_questions node_questions value_questions first_no
tables_right job h =
    let none = none_refused job h in
    let q5 = yes (holds_records 12 1 32 (pipe_table job)) 4 _ none.pipes in
    let q6 = yes (holds_records 26 2 32 (node_table job)) 5 _ q5.1 in
    let q7 = yes (pipes_join (pipe_table job) (node_count (node_table job))) 6 _ q6.1 in
    let q8 = yes (sections_fit (pipe_table job)) 7 _ q7.1 in
    let q9 = yes (constants_fit (pipe_table job)) 8 _ q8.1 in
    let q10 = yes (kinds_fit (node_table job) (count_table job)) 9 _ none.nodes in
    let q50 = yes (counts_fit (node_table job) (count_table job)) 49 _ q10.1 in
    let q53 = yes (trips_fit (node_table job) (trip_table job)) 52 _ q50.1 in
    let q11 = yes (figures_fit (node_table job)) 10 _ q53.1 in
    let q12 = yes (nodes_met (pipe_table job) (node_count (node_table job))) 11 _ q11.1 in
    let q13 = yes (friction_right (pipe_table job) (friction_table job)) 12 _ none.values in
    let q14 = yes (initial_right (pipe_table job) (initial_table job)) 13 _ q13.1 in
    let q15 = yes (schedules_right (node_table job) (count_table job) (schedule_table job)) 14 _ q14.1 in
    record {
      pairs = pairs_right job none.pairs;
      pipes_whole = q5.0;
      nodes_whole = q6.0;
      joined = q7.0;
      few_sections = q8.0;
      constants = q9.0;
      nodes = record { kinds = q10.0; counted = q50.0; figures = q11.0; entries = q15.0 };
      trips = q53.0;
      met = q12.0;
      friction = q13.0;
      initial = q14.0;
    }

pub nodes_right :
    {nodes counts schedules : List ℕ} (job : List ℕ) → nodes ≡ node_table job → counts ≡ count_table job → schedules ≡ schedule_table job → Accepted job
    → NodesRight nodes counts schedules
nodes_right job n c s h = rw (n, c, s) (tables_right job h).nodes

-- what a table of whole records holds
records_are : (width low high : ℕ) (t : List ℕ) → holds_records width low high t ≡ true → (low ≤ length t / width) × (length t / width ≤ high)
unfolding holds_records
records_are width low high t h =
    let a = both (eqb (length t % width) 0 && leb low (length t / width)) (leb (length t / width) high) h in
    (leb-true _ _ (both (eqb (length t % width) 0) (leb low (length t / width)) a.0).1, leb-true _ _ a.1)

module _ (job : List ℕ) (h : Accepted job) where
  right : TablesRight job
  right = tables_right job h

  -- ---- how many there are of each

  pub pipes_length : length (job_of job).pipes ≡ pipe_count (pipe_table job)
  unfolding job_of pipes_in
  pipes_length = length-listed _ _

  pub nodes_length : length (job_of job).nodes ≡ node_count (node_table job)
  unfolding job_of nodes_in
  nodes_length = length-listed _ _

  pub pipe_limits : (1 ≤ length (job_of job).pipes) × (length (job_of job).pipes ≤ 32)
  pipe_limits = rw pipes_length (records_are 12 1 32 (pipe_table job) right.pipes_whole)

  pub node_limits : (2 ≤ length (job_of job).nodes) × (length (job_of job).nodes ≤ 32)
  node_limits = rw nodes_length (records_are 26 2 32 (node_table job) right.nodes_whole)

  pub section_limit : sections (job_of job) ≤ 512
  unfolding sections job_of sections_fit
  section_limit = leb-true _ _ right.few_sections

  pub friction_length : length (friction_table job) ≡ reaches_of (job_of job).pipes * 8
  unfolding job_of friction_right
  friction_length = eqb-true _ _ (both (has_length (reaches_of (pipes_in (pipe_table job)) * 8) (friction_table job)) _ right.friction).0

  pub initial_length : length (initial_table job) ≡ sections (job_of job) * 24
  unfolding job_of sections initial_right
  initial_length = eqb-true _ _ (both (has_length (sections_of (pipes_in (pipe_table job)) * 24) (initial_table job)) _ right.initial).0

  pub friction_fits_lem : friction_fits (friction_table job) ≡ true
  unfolding friction_right
  friction_fits_lem = (both (has_length (reaches_of (pipes_in (pipe_table job)) * 8) (friction_table job)) _ right.friction).1

  pub initial_fits_lem : initial_fits (initial_table job) ≡ true
  unfolding initial_right
  initial_fits_lem = (both (has_length (sections_of (pipes_in (pipe_table job)) * 24) (initial_table job)) _ right.initial).1

-- ---- a pipe

pub record GoodPipe (count : ℕ) (q : Pipe) : Type 0 where
  pub different : q.start ≡ q.finish → ⊥
  pub start_present : q.start < count
  pub finish_present : q.finish < count
  pub has_reach : 1 ≤ q.reaches
  pub few_reaches : q.reaches ≤ 511

joins_good : (count : ℕ) (q : Pipe) → joins count q ≡ true → GoodPipe count q
unfolding joins
joins_good count q h =
    let t1 = not (eqb q.start q.finish) in
    let t2 = ltb q.start count in
    let t3 = ltb q.finish count in
    let t4 = leb 1 q.reaches in
    let d = both (t1 && t2 && t3 && t4) (leb q.reaches 511) h in
    let c = both (t1 && t2 && t3) t4 d.0 in
    let b = both (t1 && t2) t3 c.0 in
    let a = both t1 t2 b.0 in
    record {
      different = eqb-false _ _ (not-true _ a.0);
      start_present = ltb-true _ _ a.1;
      finish_present = ltb-true _ _ b.1;
      has_reach = leb-true _ _ c.1;
      few_reaches = leb-true _ _ d.1;
    }

module _ (job : List ℕ) (h : Accepted job) (p : ℕ) where
  pub pipe_good : p < pipe_count (pipe_table job) → GoodPipe (node_count (node_table job)) (pipe_in (pipe_table job) p)
  unfolding pipes_join
  pipe_good l =
      joins_good _ _ (all_at (λ i. joins (node_count (node_table job)) (pipe_in (pipe_table job) i)) p (pipe_count (pipe_table job)) (tables_right job h).joined l)

  pub constant_fits_lem : p < pipe_count (pipe_table job) → (finite (pipe_in (pipe_table job) p).S ≡ true) × (lt zero64 (pipe_in (pipe_table job) p).S ≡ true)
  unfolding constants_fit constant_fits
  constant_fits_lem l =
      both _ _ (all_at (λ i. constant_fits (pipe_in (pipe_table job) i)) p (pipe_count (pipe_table job)) (tables_right job h).constants l)

  module _ (q : Pipe) (e : get_elem? (job_of job).pipes p ≡ some q) where
    found : (p < pipe_count (pipe_table job)) × (pipe_in (pipe_table job) p ≡ q)
    unfolding job_of pipes_in
    found = listed_some (pipe_count (pipe_table job)) (pipe_in (pipe_table job)) p q e

    pub accepted_pipe : GoodPipe (length (job_of job).nodes) q
    accepted_pipe = rw (nodes_length job h, ← found.1) (pipe_good found.0)

    pub accepted_reaches : 1 ≤ q.reaches
    accepted_reaches = accepted_pipe.has_reach

-- ---- a node: question 12's yes names a pipe that ends there

pub record Met (job : List ℕ) (node : ℕ) : Type 0 where
  pub number : ℕ
  pub pipe : Pipe
  pub listed : get_elem? (job_of job).pipes number ≡ some pipe
  pub ends : ends_at node pipe ≡ true

pub accepted_met : (job : List ℕ) → Accepted job → (node : ℕ) → node < length (job_of job).nodes → Met job node
unfolding nodes_met has_end job_of pipes_in
accepted_met job h node l =
    let pipes = pipe_table job in
    let within : node < node_count (node_table job) = rw (nodes_length job h) at l in
    let found = all_no (λ p. not (ends_at node (pipe_in pipes p))) (pipe_count pipes) (not-true _ (all_at (has_end pipes) node (node_count (node_table job)) (tables_right job h).met within)) in
    record {
      number = found.0;
      pipe = pipe_in pipes found.0;
      listed = at_listed (pipe_count pipes) (pipe_in pipes) found.0 found.1.0;
      ends = not-false _ found.1.1;
    }
