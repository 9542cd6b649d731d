-- What the check finds with the nodes as their ends take them is what the recurrence's scan finds with the nodes themselves and their new pairs: at an end
-- whose node's pair is not finite the head is plus infinity, and everywhere else nothing differs. Assumes nothing.
use mathlib.Core.Path.{◌≡◌, refl, sym, ap, ◌∙◌}
use mathlib.Core.Bool.{Bool, true, false, cond, ◌&&◌, true≢false}
use mathlib.Core.List.{List}
use mathlib.Core.Option.{some}
use Prim.Native.Nat.{ℕ, zero, suc, ◌<◌}
use lib.Dec.{eqb}
use lib.ListN.{length, get_elem?}
use lib.Ieee.{Float, of_bits}
use lib.Ieee.Scale.{finite}
use Rattle.fields.specs.Real.{infinity64}
use Rattle.loops.proofs.Tests.{and_false}
use Rattle.wave.specs.declared.HeadFlow.{HeadFlow}
use Rattle.wave.specs.declared.Node.{Node}
use Rattle.wave.specs.declared.Node.TheVariants.{Reservoir}
use Rattle.wave.specs.declared.Sums.{Sums}
use Rattle.wave.specs.Wave.{start_end, finish_end}
use Rattle.wave.specs.Nodes.{node_head, node_inflow}
use Rattle.job.specs.Job.{Job, Kind, junction, reservoir, valve, pump, Laid, laid, sections, node_at, with_value}
use Rattle.recurrence.specs.State.{Point, Drive, State, no_drive, point_at, drive_at, drive_of}
use Rattle.recurrence.specs.Step.{AlongPipes, along_pipes, value_at, nodes_with, sums_at, head_at, new_drive, Place, nowhere, place, located, k_at_start, k_at_finish, at_start, at_finish, between, end_to_end, new_in, new_at, updated, new_point, advanced}
use Rattle.recurrence.specs.Scan.{finite_point, finite_drive, driven_at, fault_of}
use Rattle.recurrence.proofs.LaidPipes.{FoundAt, located_found}
use Rattle.recurrence.proofs.StepLaws.{advanced_at, driven_at_lem}
use Rattle.section.specs.Faults.{fault_with}
use Rattle.node_sums.specs.FromRows.{pair_finite, for_ends}
use Rattle.node_heads.proofs.NodeHeads.{head_infinite}

-- ---- one section: by its head and flow as they are judged, and as the recurrence has them

-- They are the same where the pair that is judged with them is finite, and else the judged head is not finite.
pub record Judged (d : Drive) (judged new : HeadFlow) : Type 0 where
  pub same : finite_drive d ≡ true → judged ≡ new
  pub stops : finite_drive d ≡ false → finite judged.head ≡ false

-- without a node there
none_finite : finite_drive no_drive ≡ true
unfolding finite_drive no_drive of_bits
none_finite = refl

no_pair : (x : HeadFlow) → Judged no_drive x x
no_pair x = record { same = λ _. refl; stops = λ e. absurd (true≢false (sym none_finite ∙ e)) }

-- so both show the same fault
pub judged_fault : (floor : Float) (s : ℕ) (old : Point) (d : Drive) (judged new : HeadFlow) → Judged d judged new
    → fault_with floor s judged ≡ fault_of floor s (updated new old) d
unfolding fault_of finite_point updated
judged_fault floor s old d judged new j = go (finite_drive d) refl
  where
    go : (b : Bool) → finite_drive d ≡ b → fault_with floor s judged ≡ fault_of floor s (updated new old) d
    go true e = rw (j.same e, e, none_finite)
    go false e = rw (j.stops e, e, and_false (finite new.head && finite new.flow))

-- ---- an end, whose head is the node's

module _ (n : Node) (t : Sums) where
  itself : pair_finite n (node_inflow n t) ≡ true → for_ends n t ≡ n
  unfolding for_ends
  itself e = rw e

  infinite : pair_finite n (node_inflow n t) ≡ false → for_ends n t ≡ Reservoir infinity64
  unfolding for_ends
  infinite e = rw e

module _ (end : Float → HeadFlow) (end-head : (H : Float) → (end H).head ≡ H) (n : Node) (t : Sums) (d : Drive) (pair : pair_finite n (node_inflow n t) ≡ finite_drive d) where
  judged_end : Judged d (end (node_head (for_ends n t) t)) (end (node_head n t))
  unfolding of_bits
  judged_end = record {
    same = λ e. rw (itself n t (pair ∙ e));
    stops = λ e. rw (infinite n t (pair ∙ e), head_infinite t, end-head infinity64);
  }

-- the pair that a node would hold, by its kind
pair_finite_lem : (k : Kind) (v q : Float) → pair_finite (with_value k v) q ≡ finite_drive (drive_of k v q)
unfolding with_value pair_finite drive_of no_drive finite_drive of_bits
pair_finite_lem junction v q = refl
pair_finite_lem reservoir v q = refl
pair_finite_lem (valve a b) v q = refl
pair_finite_lem (pump a b c) v q = refl

-- ---- a step

-- both nodes of every laid pipe are the job's
pub record BothPresent (j : Job) (l : Laid) : Type 0 where
  pub start : l.pipe.start < length j.nodes
  pub finish : l.pipe.finish < length j.nodes

module _ (j : Job) (n : ℕ) (old : State) where
  abbrev ls : List Laid
  ls = laid j

  abbrev w : AlongPipes
  w = along_pipes j old

  -- the nodes themselves, and as their ends take them
  abbrev nodes : ℕ → Node
  nodes = nodes_with j (value_at j n old)

  abbrev pub ended : ℕ → Node
  ended y = for_ends (nodes y) (sums_at ls w y)

  abbrev next : State
  next = advanced j n old

  pair_at : (y : ℕ) → y < length j.nodes → pair_finite (nodes y) (node_inflow (nodes y) (sums_at ls w y)) ≡ finite_drive (drive_at next y)
  unfolding new_drive nodes_with
  pair_at y h = pair_finite_lem (node_at j y).kind (value_at j n old y) _ ∙ sym (ap finite_drive (driven_at_lem j n old y h))

  module _ (present : (p : ℕ) (l : Laid) → get_elem? (laid j) p ≡ some l → BothPresent j l) where
    judged_place : (s : ℕ) (o : Place) → FoundAt ls s o → Judged (driven_at next o) (new_at ls w ended o) (new_at ls w nodes o)
    unfolding driven_at new_at new_in end_to_end at_start at_finish head_at start_end finish_end
    judged_place s nowhere h = no_pair _
    judged_place s (place l zero) h =
        judged_end (start_end l.pipe.S (k_at_start w l)) (λ H. refl) (nodes l.pipe.start) (sums_at ls w l.pipe.start) _ (pair_at _ (present h.number l h.listed).start)
    judged_place s (place l (suc i)) h = go (eqb (suc i) l.pipe.reaches)
      where
        finish : ℕ
        finish = l.pipe.finish

        go : (b : Bool) → Judged (cond b (drive_at next finish) no_drive) (cond b (at_finish ls w ended l) (between w l i)) (cond b (at_finish ls w nodes l) (between w l i))
        go true = judged_end (finish_end l.pipe.S (k_at_finish w l)) (λ H. refl) (nodes finish) (sums_at ls w finish) _ (pair_at _ (present h.number l h.listed).finish)
        go false = no_pair _

    pub judged_at : (s : ℕ) → Judged (driven_at next (located ls s)) (new_at ls w ended (located ls s)) (new_at ls w nodes (located ls s))
    judged_at s = judged_place s (located ls s) (located_found ls s)

    -- the fault that section s shows, with the ends' nodes, is the scan's
    pub fault_at_lem : (s : ℕ) → s < sections j → (floor : Float)
        → fault_with floor s (new_at ls w ended (located ls s)) ≡ fault_of floor s (point_at next s) (driven_at next (located ls s))
    unfolding new_point
    fault_at_lem s h floor =
        judged_fault floor s (point_at old s) _ _ _ (judged_at s) ∙ sym (ap (λ (p : Point). fault_of floor s p (driven_at next (located ls s))) (advanced_at j n old s h))
