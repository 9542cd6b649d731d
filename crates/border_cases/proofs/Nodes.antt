-- Speeds and inflows of nodes at their border, after a refused call. That they are alike is taken from demand 3 alone; that they are so no longer is computed.
-- Assumes nothing.
use mathlib.Core.Path.{◌≡◌, refl, sym, ap, ◌∙◌}
use mathlib.Core.List.{List}
use Prim.Native.Nat.{ℕ, ◌+◌, ◌-◌, ◌≤◌, ◌<◌}
use native.Mathlib.Omega.{arith}
use lib.ListN.{length}
use lib.Ieee.{Float, binary64, to_bits}
use Rattle.job.specs.Job.{Laid, laid}
use Rattle.job.specs.Format.{job_of}
use Rattle.recurrence.specs.State.{Drive, drive_at}
use Rattle.recurrence.specs.Run.{Call, played, steps_done}
use Rattle.recurrence.specs.Paths.{EndAt, starts_at, finishes_at, AtLeast, NoPath}
use Rattle.recurrence.specs.Demand.{FirstEntry}
use Rattle.recurrence.specs.TrippedJobs.{tripping, tripped, tripped_rising}
use Rattle.recurrence.proofs.AllDefinitions.{opened}
use Rattle.recurrence.proofs.SharpInflow.{inflow_sharp}
use Rattle.border_cases.specs.Jobs.{tripped_slower, tripped_higher, pumping, pumping_slower, two_mains, pump_beside, pump_beside_higher, mains_level, in_three, after_refusal}
use Rattle.border_cases.specs.Cases.{Edited, Claim}
use Rattle.border_cases.specs.NodeCases.{SamePair, SameInflow, NodeCases, NodeApartCases}
use Rattle.border_cases.proofs.Edits.{rescheduled, edited}
use Rattle.border_cases.proofs.Apart.{unjoined_second}

-- ---- the jobs

pub rising_edited : Edited tripped tripped_rising 1 2
rising_edited =
    record { accepted = inflow_sharp.accepted; from_1 = omega arith; alike = inflow_sharp.alike; before = inflow_sharp.before }

slower_edited : Edited pumping pumping_slower 0 2
unfolding opened tripping rescheduled
slower_edited = edited pumping pumping_slower 0 1 (refl, refl) (omega arith) refl (tt, refl)

first_edited : Edited tripped tripped_slower 0 1
unfolding opened tripping rescheduled
first_edited = edited tripped tripped_slower 0 0 (refl, refl) (omega arith) refl tt

higher_edited : Edited tripped tripped_higher 1 1
unfolding opened tripping rescheduled
higher_edited = edited tripped tripped_higher 1 0 (refl, refl) (omega arith) refl tt

-- ---- the nodes, their ends and distances

abbrev pub Nodes : List ℕ → ℕ
Nodes job = length (job_of job).nodes

pub two_nodes : (Nodes tripped ≡ 2) × (Nodes pumping ≡ 2)
unfolding opened tripping
two_nodes = (refl, refl)

reservoir_end : EndAt (laid (job_of tripped)) 1 2
unfolding opened tripping
reservoir_end = finishes_at 0 _ refl refl refl

pump_end : EndAt (laid (job_of pumping)) 0 0
unfolding opened tripping
pump_end = starts_at 0 _ refl refl refl

-- any section is no reach off at least
none_off : (ls : List Laid) (from : ℕ → Type 0) (s : ℕ) → AtLeast ls from s 0
unfolding AtLeast
none_off ls from s e p = omega arith

-- ---- the runs

-- both runs do N steps after the refused call
BothDo : List ℕ → List ℕ → ℕ → Type 0
BothDo a b N = (steps_done (job_of a) (after_refusal N) ≡ N) × (steps_done (job_of b) (after_refusal N) ≡ N)

rising_3 : BothDo tripped tripped_rising 3
unfolding opened tripping BothDo
rising_3 = (refl, refl)

slower_1 : BothDo pumping pumping_slower 1
unfolding opened tripping BothDo
slower_1 = (refl, refl)

none_done : BothDo pumping pumping_slower 0 × BothDo tripped tripped_slower 0 × BothDo tripped tripped_higher 0
unfolding opened tripping BothDo
none_done = ((refl, refl), (refl, refl), (refl, refl))

-- m at the bound k + d - 1: written out, so that an error shows both numbers
bound_at_the_pump : steps_done (job_of tripped) (after_refusal 3) ≤ 2 + 2 - 1
unfolding BothDo
bound_at_the_pump = omega (arith, rising_3.0)

bound_at_the_start : steps_done (job_of tripped) (after_refusal 0) ≤ 1 + 0 - 1
unfolding BothDo
bound_at_the_start = omega (arith, none_done.2.0)

bound_at_the_node : steps_done (job_of pumping) (after_refusal 1) ≤ 2 + 0 - 1
unfolding BothDo
bound_at_the_node = omega (arith, slower_1.0)

-- ---- one step further, and the exception: one number of a node has two patterns

pattern : (Drive → Float) → List ℕ → List Call → ℕ → ℕ
pattern f job calls y = to_bits binary64 (f (drive_at (played (job_of job) calls).state y))

unlike : (f : Drive → Float) (a b : List ℕ) (calls : List Call) (y : ℕ) → ¬ (pattern f a calls y ≡ pattern f b calls y)
    → ¬ (f (drive_at (played (job_of a) calls).state y) ≡ f (drive_at (played (job_of b) calls).state y))
unfolding pattern
unlike f a b calls y n e = n (ap (to_bits binary64) e)

unlike_at_the_pump : ¬ SameInflow tripped tripped_rising (after_refusal 4) 0
unfolding opened tripping pattern
unlike_at_the_pump = unlike (λ d. d.inflow) tripped tripped_rising (after_refusal 4) 0 (λ e. omega (arith, e))

unlike_at_the_node : ¬ SameInflow pumping pumping_slower (after_refusal 2) 0
unfolding opened tripping pattern
unlike_at_the_node = unlike (λ d. d.inflow) pumping pumping_slower (after_refusal 2) 0 (λ e. omega (arith, e))

unlike_first : ¬ SamePair tripped tripped_slower (after_refusal 0) 0
unfolding opened tripping pattern
unlike_first e = unlike (λ d. d.speed) tripped tripped_slower (after_refusal 0) 0 (λ p. omega (arith, p)) (ap (λ (d : Drive). d.speed) e)

-- ---- what is not the exception

module _ (job : List ℕ) (x k m y : ℕ) where
  later : 1 < k → ¬ FirstEntry (job_of job) x k m y
  later h e = omega (arith, e.edited)

  pub another : ¬ (y ≡ x) → ¬ FirstEntry (job_of job) x k m y
  another h e = h e.itself

no_pump_lem : (m : ℕ) → ¬ FirstEntry (job_of tripped) 1 1 m 1
unfolding opened tripping
no_pump_lem m e = e.is_a_pump

pub node_cases : Claim → NodeCases
unfolding BothDo
node_cases claim =
    let rising = claim tripped tripped_rising 1 2 rising_edited (after_refusal 3) in
    let slower = claim pumping pumping_slower 0 2 slower_edited in
    let first = claim tripped tripped_slower 0 1 first_edited (after_refusal 0) in
    let higher = claim tripped tripped_higher 1 1 higher_edited (after_refusal 0) in
    let three = rising_3.0 ∙ sym rising_3.1 in
    let none = none_done.2.0 ∙ sym none_done.2.1 in
    record {
      at_the_start =
          (slower (after_refusal 0)).node_near 0 0 0 (none_done.0.0 ∙ sym none_done.0.1) (omega (arith, two_nodes)) pump_end (none_off _ _ 0)
          (omega (arith, none_done.0.0)) (later pumping 0 2 _ 0 (omega arith));
      inflow_at_the_start =
          first.inflow_near 0 0 0 (none_done.1.0 ∙ sym none_done.1.1) inflow_sharp.a_node inflow_sharp.its_end (none_off _ _ 0)
          bound_at_the_start;
      first_entry = unlike_first;
      another_edited =
          higher.node_near 0 0 0 none inflow_sharp.a_node inflow_sharp.its_end (none_off _ _ 0) bound_at_the_start
          (another tripped 1 1 _ 0 (λ e. omega (arith, e)));
      not_a_pump = higher.node_near 0 1 2 none (omega (arith, two_nodes)) reservoir_end (none_off _ _ 2) bound_at_the_start (no_pump_lem _);
      at_the_pump =
          rising.node_near 2 0 0 three inflow_sharp.a_node inflow_sharp.its_end inflow_sharp.off bound_at_the_pump
          (another tripped 1 2 _ 0 (λ e. omega (arith, e)));
      inflow_at_the_pump = rising.inflow_near 2 0 0 three inflow_sharp.a_node inflow_sharp.its_end inflow_sharp.off bound_at_the_pump;
      inflow_no_longer = unlike_at_the_pump;
      at_the_node =
          (slower (after_refusal 1)).node_near 0 0 0 (slower_1.0 ∙ sym slower_1.1) (omega (arith, two_nodes)) pump_end (none_off _ _ 0) bound_at_the_node
          (later pumping 0 2 _ 0 (omega arith));
      at_the_node_no_longer = unlike_at_the_node;
    }

-- ---- a main that nothing joins

beside_edited : Edited pump_beside pump_beside_higher 0 1
unfolding opened two_mains rescheduled
beside_edited = edited pump_beside pump_beside_higher 0 0 (refl, refl) (omega arith) refl tt

same_layout : laid (job_of pump_beside) ≡ laid (job_of mains_level)
unfolding opened two_mains
same_layout = refl

beside_end : EndAt (laid (job_of pump_beside)) 2 2
unfolding opened two_mains
beside_end = starts_at 1 _ refl refl refl

beside_nodes : Nodes pump_beside ≡ 4
unfolding opened two_mains
beside_nodes = refl

beside_done : (steps_done (job_of pump_beside) in_three ≡ 10) × (steps_done (job_of pump_beside_higher) in_three ≡ 10)
unfolding opened two_mains
beside_done = (refl, refl)

pub node_apart_cases : Claim → NodeApartCases
node_apart_cases claim =
    let off : NoPath (laid (job_of pump_beside)) (EndAt (laid (job_of pump_beside)) 0) 2 = rw same_layout (unjoined_second 2 (omega arith)) in
    record {
      second_main = λ calls d. (claim pump_beside pump_beside_higher 0 1 beside_edited calls).node_apart 2 2 d (omega (arith, beside_nodes)) beside_end off;
      both_done = beside_done;
    }
