-- Two runs agree wherever no difference has come: a family of sections, closed under what a step reads. Assumes nothing.
use mathlib.Core.Path.{◌≡◌, ap, ap₂}
use mathlib.Core.List.{List}
use mathlib.Core.Option.{some}
use Prim.Native.Nat.{ℕ, zero, suc, ◌≤◌}
use lib.ListN.{length, get_elem?}
use lib.Ieee.{Float}
use Rattle.job.specs.Job.{Job, Laid, laid, laid_from, sections, sections_of, friction_at, node_at, initial_at, scheduled, with_value}
use Rattle.recurrence.specs.State.{Point, Drive, State, no_point, no_drive, point_at, drive_at, start_point, start_drive, start_state}
use Rattle.recurrence.specs.Step.{along_pipes, value_at, nodes_with, new_drive, updated, new_point, advanced}
use Rattle.recurrence.specs.Paths.{EndAt, Beside}
use Rattle.loops.proofs.Listed.{get_or_listed_cong}
use Rattle.recurrence.proofs.LocalStep.{Local, sums_alike, new_alike}
use Rattle.recurrence.proofs.Runs.{Reached, finished_advanced}

-- far m s says of section s that no difference has come to it after m steps. Such a family goes with the layout where what step m + 1 reads for s lies
-- in it.
pub record Spreads (ls : List Laid) (far : ℕ → ℕ → Type 0) : Type 0 where
  pub same : (m s : ℕ) → far (suc m) s → far m s
  pub beside : (m r s t : ℕ) → far (suc m) s → Beside ls r s t → far m t
  pub across : (m y s t : ℕ) → far (suc m) s → EndAt ls y s → EndAt ls y t → far (suc m) t

-- And it is a cone of the jobs A and B where all that is read for it is alike in both.
pub record Closed (A B : Job) (far : ℕ → ℕ → Type 0) : Type 0 where
  pub pipes : A.pipes ≡ B.pipes
  pub count : length A.nodes ≡ length B.nodes
  pub trips : A.trips ≡ B.trips
  pub kind : (y : ℕ) → (node_at A y).kind ≡ (node_at B y).kind
  pub whole : (p : ℕ) (l : Laid) → get_elem? (laid A) p ≡ some l → 1 ≤ l.pipe.reaches
  pub spreads : Spreads (laid A) far
  pub first : (s : ℕ) → far 0 s → start_point (initial_at A s) ≡ start_point (initial_at B s)
  pub reach : (m r s t : ℕ) → far (suc m) s → Beside (laid A) r s t → friction_at A r ≡ friction_at B r
  pub value : (m y s : ℕ) → far (suc m) s → EndAt (laid A) y s → scheduled A (suc m) y ≡ scheduled B (suc m) y

module _ (A B : Job) (far : ℕ → ℕ → Type 0) (cl : Closed A B far) where
  sections_same : sections A ≡ sections B
  unfolding sections
  sections_same = ap sections_of cl.pipes

  laid_same : laid A ≡ laid B
  unfolding laid
  laid_same = ap (laid_from 0 0) cl.pipes

  -- The states of both runs after m steps are alike at the sections that no difference has come to. A node's drive is what step m + 1 reads of it, so it is
  -- alike where no difference comes to the node by that step: the start's speed is the value of step 1.
  pub record Alike (m : ℕ) (u v : State) : Type 0 where
    pub points : (s : ℕ) → far m s → point_at u s ≡ point_at v s
    pub drives : (y s : ℕ) → far (suc m) s → EndAt (laid A) y s → drive_at u y ≡ drive_at v y

  -- ---- the start

  pub start_drive_lem : (y : ℕ) → start_drive A y ≡ start_drive B y → drive_at (start_state A) y ≡ drive_at (start_state B) y
  unfolding start_state drive_at
  start_drive_lem y e = rw cl.count (get_or_listed_cong (length B.nodes) (start_drive A) (start_drive B) y no_drive e)

  start_alike : Alike 0 (start_state A) (start_state B)
  unfolding start_state point_at start_drive
  start_alike = record {
    points = λ s n.
        rw sections_same (get_or_listed_cong (sections B) (λ t. start_point (initial_at A t)) (λ t. start_point (initial_at B t)) s no_point (cl.first s n));
    drives = λ y s n a. start_drive_lem y (cc (cl.kind y, cl.value 0 y s n a));
  }

  -- ---- a step

  module _ (m : ℕ) (u v : State) (h : Alike m u v) where
    abbrev value_a : ℕ → Float
    value_a = value_at A (suc m) u

    abbrev value_b : ℕ → Float
    value_b = value_at B (suc m) v

    -- what step m + 1 works out for a section, and for a node, by each job
    abbrev point_a : ℕ → Point
    point_a = new_point (laid A) (along_pipes A u) (nodes_with A value_a) u

    abbrev point_b : ℕ → Point
    point_b = new_point (laid A) (along_pipes B v) (nodes_with B value_b) v

    abbrev drive_a : ℕ → Drive
    drive_a = new_drive A (laid A) (along_pipes A u) value_a

    abbrev drive_b : ℕ → Drive
    drive_b = new_drive B (laid A) (along_pipes B v) value_b

    value_alike : (y s : ℕ) → far (suc m) s → EndAt (laid A) y s → value_a y ≡ value_b y
    unfolding value_at
    value_alike y s n a = cc (cl.trips, h.drives y s n a, cl.value m y s n a)

    node_alike : (y s : ℕ) → far (suc m) s → EndAt (laid A) y s → nodes_with A value_a y ≡ nodes_with B value_b y
    unfolding nodes_with
    node_alike y s n a = ap₂ with_value (cl.kind y) (value_alike y s n a)

    step_local : Local (laid A) (along_pipes A u) (along_pipes B v) (nodes_with A value_a) (nodes_with B value_b) (far (suc m))
    unfolding along_pipes
    step_local = record {
      whole = cl.whole;
      beside = λ r s t n b. let e = h.points t (cl.spreads.beside m r s t n b) in λ i. record { head = (e i).head; flow = (e i).flow };
      reach = cl.reach m;
      across = cl.spreads.across m;
      node = node_alike;
    }

    point_alike : (s : ℕ) → far (suc m) s → point_a s ≡ point_b s
    unfolding new_point
    point_alike s n = ap₂ updated (new_alike (laid A) _ _ _ _ (far (suc m)) step_local s n) (h.points s (cl.spreads.same m s n))

    drive_alike : (y s : ℕ) → far (suc m) s → EndAt (laid A) y s → drive_a y ≡ drive_b y
    unfolding new_drive
    drive_alike y s n a = cc (cl.kind y, value_alike y s n a, node_alike y s n a, sums_alike (laid A) _ _ _ _ (far (suc m)) step_local y s n a)

    advanced_point : (s : ℕ) → far (suc m) s → point_at (advanced A (suc m) u) s ≡ point_at (advanced B (suc m) v) s
    unfolding advanced point_at
    advanced_point s n = rw (sections_same, ← laid_same) (get_or_listed_cong (sections B) point_a point_b s no_point (point_alike s n))

    advanced_drive : (y s : ℕ) → far (suc m) s → EndAt (laid A) y s → drive_at (advanced A (suc m) u) y ≡ drive_at (advanced B (suc m) v) y
    unfolding advanced drive_at
    advanced_drive y s n a = rw (cl.count, ← laid_same) (get_or_listed_cong (length B.nodes) drive_a drive_b y no_drive (drive_alike y s n a))

  -- ---- so many steps

  driven : (m : ℕ) (u v : State) (ru : Reached A (suc m) u) (rv : Reached B (suc m) v) → Alike m ru.0 rv.0
      → (y s : ℕ) → far (suc m) s → EndAt (laid A) y s → drive_at u y ≡ drive_at v y
  driven m u v ru rv h y s n a =
      rw (← (finished_advanced A (suc m) ru.0 u ru.2), ← (finished_advanced B (suc m) rv.0 v rv.2))
      (advanced_drive m ru.0 rv.0 h y s n a)

  pub agree : (m : ℕ) (u v : State) → Reached A m u → Reached B m v → Alike m u v
  agree zero u v ru rv = rw (ru, rv) start_alike
  agree (suc m) u v ru rv =
      let h = agree m ru.0 rv.0 ru.1 rv.1 in
      record {
        points = λ s n.
            rw (← (finished_advanced A (suc m) ru.0 u ru.2), ← (finished_advanced B (suc m) rv.0 v rv.2))
            (advanced_point m ru.0 rv.0 h s n);
        drives = λ y s n a. driven m u v ru rv h y s (cl.spreads.same (suc m) s n) a;
      }

  -- after a step the drives are alike where the points are
  pub drives_agree : (m : ℕ) (u v : State) → Reached A (suc m) u → Reached B (suc m) v → (y s : ℕ) → far (suc m) s → EndAt (laid A) y s → drive_at u y ≡ drive_at v y
  drives_agree m u v ru rv = driven m u v ru rv (agree m ru.0 rv.0 ru.1 rv.1)
