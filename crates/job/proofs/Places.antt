-- The place of a schedule, carried along as the nodes are walked: at each node it is the sum of the counts before it. Assumes nothing.
use mathlib.Core.Path.{◌≡◌, refl, ap}
use mathlib.Core.Logic.{⊎_elim}
use mathlib.Core.List.{List}
use Prim.Native.Nat.{ℕ, zero, suc, ◌+◌, ◌*◌, ◌<◌, ◌≤◌}
use native.Mathlib.Nat.{le_of_suc-le-suc, eq-or-lt_of_le, le_refl}
use native.Mathlib.Numerals.{add-one}
use native.Mathlib.Omega.{arith}
use Rattle.job.specs.Format.{place_of, schedule_count}

module _ (nodes counts : List ℕ) where
  place_more : (node : ℕ) → place_of nodes counts (node + 1) ≡ place_of nodes counts node + schedule_count nodes counts node
  unfolding place_of
  place_more node = ap (place_of nodes counts) (add-one node)

  place_rises : (node n : ℕ) → node ≤ n → place_of nodes counts node ≤ place_of nodes counts n
  unfolding place_of
  place_rises node zero l = let e : node ≡ 0 = omega arith in rw e (le_refl _)
  place_rises node (suc n) l = ⊎_elim (λ e. rw e (le_refl _)) (λ o. omega (arith, place_rises node n (le_of_suc-le-suc o))) (eq-or-lt_of_le l)

  -- a node's entries end no later than those of a later node begin
  pub ends_before :
      {node place count : ℕ} (later : ℕ) → node < later → place ≡ place_of nodes counts node → count ≡ schedule_count nodes counts node
      → place + count ≤ place_of nodes counts later
  ends_before {node} later l p k = omega (arith, place_more node, place_rises (node + 1) later (omega arith))

  -- What a walk has in hand when it comes to a node. A count is below 65,536, so that no sum wraps.
  pub record SumBefore (node place : ℕ) : Type 0 where
    pub sum : place ≡ place_of nodes counts node
    pub small : place ≤ node * 65536

  pub sum_before_none : SumBefore 0 0
  unfolding place_of
  sum_before_none = record { sum = refl; small = omega arith }

  pub sum_before_more : {node place count : ℕ} → SumBefore node place → count ≡ schedule_count nodes counts node → count < 65536 → SumBefore (node + 1) (place + count)
  sum_before_more {node} c e l = record { sum = rw (place_more node, ← c.sum, ← e); small = omega (arith, c.small) }
