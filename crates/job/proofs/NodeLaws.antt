-- What the yes to questions 10, 50, 11 and 15 says of a node, and the value that its schedule has at a step. Assumes nothing.
use mathlib.Core.Path.{◌≡◌, refl, sym, ap, ◌∙◌}
use mathlib.Core.Bool.{Bool, true, false, cond, not, ◌&&◌, ◌||◌}
use mathlib.Core.List.{List}
use Prim.Native.Nat.{ℕ, ◌+◌, ◌-◌, ◌*◌, ◌<◌, ◌≤◌, min}
use native.Mathlib.Omega.{arith}
use lib.ListN.{length, get_or}
use lib.Dec.{leb, ltb, eqb}
use lib.Ieee.{Float}
use lib.Ieee.Scale.{finite}
use borrow.Author.Tests.{leb-true, eqb-true, eq-eqb, ne_eqb, lt-ltb, le-ltb}
use Rattle.fields.specs.Real.{zero64}
use Rattle.fields.specs.Finite.{finite_at}
use Rattle.loops.proofs.All.{all_at, all_both, all_of}
use Rattle.job.specs.Job.{ScheduledNode, node_at, entry_at, scheduled}
use Rattle.job.specs.Format.{node_table, schedule_table, count_table, node_count, kind_number, count_byte, a_of, b_of, c_of, is_empty, long_count, schedule_count, place_of, entry_in, entries_from, node_in, nodes_in, job_of}
use Rattle.loops.specs.Loops.{all_below, listed}
use Rattle.job.specs.QuestionParts.{numbers_finite, from0_to1}
use Rattle.job.specs.Questions.{all_finite, figures_fit_kind, figure_fits, figures_fit, kind_fits, kinds_fit, count_fits, each_count_fits, counts_fit, entry_fits, schedule_fits, schedules_fit, has_length, schedules_right}
use Rattle.loops.proofs.Tests.{both, half_fails, half_holds}
use Rattle.loops.proofs.Listed.{length-listed, get_or-listed}
use Rattle.job.proofs.Places.{ends_before}

-- the figures of a node whose figures are finite
pub record FiniteFigures (nodes : List ℕ) (node : ℕ) : Type 0 where
  pub a : finite_at nodes (node * 26 + 2) ≡ true
  pub b : finite_at nodes (node * 26 + 10) ≡ true
  pub c : finite_at nodes (node * 26 + 18) ≡ true

pub finite_figures : (nodes : List ℕ) (node : ℕ) → all_finite nodes node ≡ true → FiniteFigures nodes node
unfolding all_finite finite_at
finite_figures nodes node h =
    let ab-c = both (finite (a_of nodes node) && finite (b_of nodes node)) (finite (c_of nodes node)) h in
    let a-b = both (finite (a_of nodes node)) (finite (b_of nodes node)) ab-c.0 in
    record { a = a-b.0; b = a-b.1; c = ab-c.1 }

pub figures_finite : (nodes : List ℕ) → figures_fit nodes ≡ true → (node : ℕ) → node < node_count nodes → FiniteFigures nodes node
unfolding figures_fit figure_fits
figures_finite nodes h node l = finite_figures nodes node (both (all_finite nodes node) (figures_fit_kind nodes node) (all_at (figure_fits nodes) node (node_count nodes) h l)).0

-- ---- the count of a node's entries, by the byte or by table 6

module _ (nodes counts : List ℕ) (node : ℕ) {r : ℕ} where
  pub by_byte : length counts ≡ 0 → r ≡ count_byte nodes node → r ≡ schedule_count nodes counts node
  unfolding schedule_count
  by_byte e h = rw (eq-eqb _ _ e) h

  pub by_table_6 : (length counts ≡ 0 → ⊥) → r ≡ long_count counts node → r ≡ schedule_count nodes counts node
  unfolding schedule_count
  by_table_6 n h = rw (ne_eqb _ _ n) h

-- question 50's yes, where table 6 is not empty
pub record CountsWhole (nodes counts : List ℕ) : Type 0 where
  pub size : length counts ≡ node_count nodes * 2
  pub each : (node : ℕ) → node < node_count nodes → count_fits nodes counts node ≡ true

pub counts_whole : (nodes counts : List ℕ) → counts_fit nodes counts ≡ true → is_empty counts ≡ false → CountsWhole nodes counts
unfolding counts_fit each_count_fits
counts_whole nodes counts h e =
    let whole = both (has_length (node_count nodes * 2) counts) (each_count_fits nodes counts) (rw e at h) in
    record { size = eqb-true _ _ whole.0; each = λ node l. all_at (count_fits nodes counts) node (node_count nodes) whole.1 l }

pub count_least :
    (nodes counts : List ℕ) → kinds_fit nodes counts ≡ true → counts_fit nodes counts ≡ true → (node : ℕ) → node < node_count nodes
    → 1 ≤ schedule_count nodes counts node
unfolding kinds_fit kind_fits count_fits schedule_count
count_least nodes counts h f node l = go (is_empty counts) refl
  where
    go : (z : Bool) → is_empty counts ≡ z → 1 ≤ cond z (count_byte nodes node) (long_count counts node)
    go true e =
        let asked = (both (leb (kind_number nodes node) 3) (not (is_empty counts) || leb 1 (count_byte nodes node)) (all_at (kind_fits nodes counts) node (node_count nodes) h l)).1 in
        leb-true _ _ (rw e at asked)
    go false e = leb-true _ _ (both (leb 1 (long_count counts node)) (eqb (count_byte nodes node) 0) ((counts_whole nodes counts f e).each node l)).0

-- ---- schedules

pub node_is :
    (job : List ℕ) (node : ℕ) → node < node_count (node_table job)
    → node_at (job_of job) node ≡ node_in (node_table job) (count_table job) (schedule_table job) node
unfolding node_at job_of nodes_in
node_is job node l = get_or-listed (node_count (node_table job)) (node_in (node_table job) (count_table job) (schedule_table job)) node _ l

-- question 15 of `count` entries by its two halves: a kind below 2 asks no more than that they are finite
module _ (schedules : List ℕ) (kind place count : ℕ) where
  abbrev pub ranged : Bool
  ranged = all_below (λ i. from0_to1 (entry_in schedules (place + i))) count

  abbrev pub fitting : Bool
  fitting = all_below (λ i. entry_fits kind (entry_in schedules (place + i))) count

  halves : fitting ≡ numbers_finite schedules place count && (ltb kind 2 || ranged)
  unfolding entry_fits
  halves =
      all_both (λ i. finite (entry_in schedules (place + i))) (λ i. ltb kind 2 || from0_to1 (entry_in schedules (place + i))) count
      ∙ ap (λ (t : Bool). numbers_finite schedules place count && t) (go (ltb kind 2))
    where
      go : (z : Bool) → all_below (λ i. z || from0_to1 (entry_in schedules (place + i))) count ≡ z || ranged
      go true = all_of (λ i. true) count (λ i l. refl)
      go false = refl

  pub not_all_finite : numbers_finite schedules place count ≡ false → false ≡ fitting
  not_all_finite h = half_fails _ _ halves h

  module _ (h : numbers_finite schedules place count ≡ true) where
    pub any_finite : kind < 2 → true ≡ fitting
    any_finite l = half_holds _ _ (halves ∙ rw (lt-ltb kind 2 l)) h

    pub as_ranged : {t : Bool} → 2 ≤ kind → t ≡ ranged → t ≡ fitting
    as_ranged l e = e ∙ half_holds _ _ (halves ∙ rw (le-ltb kind 2 l)) h

  fitting_finite : fitting ≡ true → numbers_finite schedules place count ≡ true
  fitting_finite h = (both (numbers_finite schedules place count) _ (sym halves ∙ h)).0

module _ (nodes counts schedules : List ℕ) (right : schedules_right nodes counts schedules ≡ true) where
  size_right : length schedules ≡ place_of nodes counts (node_count nodes) * 8
  unfolding schedules_right
  size_right = eqb-true _ _ (both (has_length (place_of nodes counts (node_count nodes) * 8) schedules) _ right).0

  fits : schedules_fit nodes counts schedules ≡ true
  unfolding schedules_right
  fits = (both (has_length (place_of nodes counts (node_count nodes) * 8) schedules) _ right).1

  -- of a node's own entries, from the place and the count in hand
  module _ {node place count : ℕ} (l : node < node_count nodes) (p : place ≡ place_of nodes counts node) (k : count ≡ schedule_count nodes counts node) where
    pub entries_within : (place + count) * 8 ≤ length schedules
    entries_within = omega (arith, size_right, ends_before nodes counts (node_count nodes) l p k)

    pub entries_finite : numbers_finite schedules place count ≡ true
    unfolding schedules_fit schedule_fits
    entries_finite =
        rw (p, k) (fitting_finite _ (kind_number nodes node) _ _ (all_at (schedule_fits nodes counts schedules) node (node_count nodes) fits l))

-- the value at step n: entry n - 1, counted from 0, and the last after it
pub entry_of : (count : ℕ) (f : ℕ → Float) (n i : ℕ) → 1 ≤ n → 1 ≤ count → i ≡ min n count - 1 → entry_at (listed count f) n ≡ f i
unfolding entry_at
entry_of count f n i l m e =
    let place : min n (length (listed count f)) - 1 ≡ i = rw (length-listed count f) (sym e) in
    ap (λ k. get_or (listed count f) k zero64) place ∙ get_or-listed count f i zero64 (omega arith)

-- a value read from the entries of a node's schedule is the record's
pub scheduled_is :
    {nodes counts schedules : List ℕ} {place count : ℕ} {v : Float} (job : List ℕ) (step node : ℕ) → nodes ≡ node_table job → counts ≡ count_table job
    → schedules ≡ schedule_table job → node < node_count nodes → place ≡ place_of nodes counts node → count ≡ schedule_count nodes counts node
    → v ≡ entry_at (entries_from schedules place count) step → v ≡ scheduled (job_of job) step node
unfolding scheduled node_in
scheduled_is job step node n c s l p k e =
    (rw (k, p, s, c, n) at e) ∙ sym (ap (λ (z : ScheduledNode). entry_at z.schedule step) (node_is job node (rw (← n) l)))
