-- The tests of a chain, of the tables that a job is read from: each record is read at its own place, and of three tests the first
-- no decides. Assumes nothing.
use mathlib.Core.Path.{◌≡◌, refl, sym, ap, ap₂, ◌∙◌}
use mathlib.Core.Bool.{Bool, true, false, ◌&&◌}
use mathlib.Core.List.{List}
use Prim.Native.Nat.{ℕ, ◌+◌, ◌<◌}
use native.Mathlib.Omega.{arith}
use lib.Dec.{eqb}
use lib.Ieee.{Float, eq}
use borrow.Author.Tests.{eq-eqb, eqb-true, ne_eqb}
use Rattle.fields.specs.Real.{zero64}
use Rattle.loops.specs.Loops.{all_below, listed}
use Rattle.loops.proofs.All.{all_at, all_cong}
use Rattle.loops.proofs.Listed.{length-listed, get_or-listed}
use Rattle.loops.proofs.Tests.{both, half_fails, half_holds}
use Rattle.job.specs.Job.{valve, ScheduledNode, node_at}
use Rattle.job.specs.Format.{pipe_table, node_table, count_table, schedule_table, pipe_count, pipe_in, pipes_in}
use Rattle.job.specs.Format.{node_count, b_of, kind_in, schedule_count, place_of, entries_from, node_in, job_of}
use Rattle.job.specs.Questions.{Accepted}
use Rattle.job.proofs.Accepted.{pipes_length, nodes_length, pipe_limits}
use Rattle.job.proofs.NodeLaws.{node_is}
use Rattle.chain.specs.Chain.{pipe_at, pipe_fits, is_valve, all_zero, node_fits, is_chain}

-- ---- a node

-- asked by the place and the count in hand, which are its own
pub own_node :
    (nodes counts schedules : List ℕ) (last node : ℕ) {place count : ℕ} {r : Bool} → place ≡ place_of nodes counts node
    → count ≡ schedule_count nodes counts node
    → r ≡ node_fits last node record { kind = kind_in nodes node; schedule = entries_from schedules place count }
    → r ≡ node_fits last node (node_in nodes counts schedules node)
unfolding node_in
own_node nodes counts schedules last node p k e = rw (← p, ← k) e

-- ---- the entries of a schedule

pub zero_each : (n : ℕ) (f : ℕ → Float) → all_below (λ i. eq (f i) zero64) n ≡ all_zero (listed n f)
unfolding all_zero
zero_each n f = rw (length-listed n f) (all_cong n _ _ (λ i l. ap (λ v. eq v zero64) (sym (get_or-listed n f i zero64 l))))

-- ---- the pipes and the nodes

module _ (job : List ℕ) (ok : Accepted job) where
  pipe_is : (i : ℕ) → i < pipe_count (pipe_table job) → pipe_at (job_of job) i ≡ pipe_in (pipe_table job) i
  unfolding pipe_at job_of pipes_in
  pipe_is i l = get_or-listed (pipe_count (pipe_table job)) (pipe_in (pipe_table job)) i _ l

  abbrev last : ℕ
  last = pipe_count (pipe_table job)

  abbrev node_of : ℕ → ScheduledNode
  node_of i = node_in (node_table job) (count_table job) (schedule_table job) i

  -- the three tests, in the order in which they are asked
  chain_is :
      is_chain (job_of job)
      ≡ eqb (node_count (node_table job)) (last + 1)
      && all_below (λ p. pipe_fits p (pipe_in (pipe_table job) p)) last
      && all_below (λ i. node_fits last i (node_of i)) (node_count (node_table job))
  unfolding is_chain
  chain_is = rw (pipes_length job ok, nodes_length job ok) (go (eqb (node_count (node_table job)) (last + 1)) refl)
    where
      go : (t : Bool) → eqb (node_count (node_table job)) (last + 1) ≡ t
          → t && all_below (λ i. pipe_fits i (pipe_at (job_of job) i)) last && all_below (λ i. node_fits last i (node_at (job_of job) i)) (last + 1)
          ≡ t && all_below (λ p. pipe_fits p (pipe_in (pipe_table job) p)) last && all_below (λ i. node_fits last i (node_of i)) (node_count (node_table job))
      go false e = refl
      go true e =
          let n : node_count (node_table job) ≡ last + 1 = eqb-true _ _ e in
          ap₂ ◌&&◌ (
          all_cong last (λ i. pipe_fits i (pipe_at (job_of job) i)) (λ p. pipe_fits p (pipe_in (pipe_table job) p))
          (λ i l. ap (pipe_fits i) (pipe_is i l))
          ) (
          rw n (
          all_cong (last + 1) (λ i. node_fits last i (node_at (job_of job) i)) (λ i. node_fits last i (node_of i))
          (λ i l. ap (node_fits last i) (node_is job i (rw n l)))
          )
          )

  abbrev counted : Bool
  counted = eqb (node_count (node_table job)) (last + 1)

  abbrev pipes_fit : Bool
  pipes_fit = all_below (λ p. pipe_fits p (pipe_in (pipe_table job) p)) last

  -- the first no decides
  pub other_count : (node_count (node_table job) ≡ last + 1 → ⊥) → false ≡ is_chain (job_of job)
  other_count n = half_fails (counted && pipes_fit) _ chain_is (rw (ne_eqb _ _ n))

  pub pipe_no : node_count (node_table job) ≡ last + 1 → pipes_fit ≡ false → false ≡ is_chain (job_of job)
  pipe_no n h = half_fails (counted && pipes_fit) _ chain_is (rw (eq-eqb _ _ n, h))

  pub by_nodes :
      node_count (node_table job) ≡ last + 1 → pipes_fit ≡ true
      → all_below (λ i. node_fits last i (node_of i)) (node_count (node_table job)) ≡ is_chain (job_of job)
  by_nodes n h = half_holds (counted && pipes_fit) _ chain_is (rw (eq-eqb _ _ n, h))

  -- a chain ends with a valve
  pub record EndsWithValve : Type 0 where
    pub present : last < node_count (node_table job)
    pub is : node_at (job_of job) last ≡ node_of last
    pub valve : is_valve (kind_in (node_table job) last) ≡ true

  pub ends_with_valve : is_chain (job_of job) ≡ true → EndsWithValve
  unfolding node_fits node_in
  ends_with_valve h =
      let parts = both (counted && pipes_fit) _ (sym chain_is ∙ h) in
      let n = eqb-true (node_count (node_table job)) (last + 1) (both counted pipes_fit parts.0).0 in
      let l : last < node_count (node_table job) = omega arith in
      let some : last ≡ 0 → ⊥ = λ z. omega (arith, (pipe_limits job ok).0, pipes_length job ok) in
      let fits = all_at (λ i. node_fits last i (node_of i)) last (node_count (node_table job)) parts.1 l in
      record { present = l; is = node_is job last l; valve = rw (ne_eqb last 0 some, eq-eqb last last refl) at fits }
