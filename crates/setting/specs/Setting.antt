-- The valve set for a discharge (document 02, 4/12): the heads of a chain, the coefficient, and what the call answers and leaves. Definitions only.
use Rattle.std.specs.Prelude.{Bool, cond, not, ◌&&◌, List, [], ◌∷◌, ◌++◌, ℕ, zero, suc, ◌+◌, ◌-◌, leb, eqb, length, get_or, drop, replicate, Float}
use Rattle.std.specs.Float.Ieee.{lt}
use Rattle.std.specs.Float.Ieee.Scale.{finite}
use Rattle.fields.specs.Real.{◌⊟◌, ◌⊠◌, ◌⊘◌, zero64}
use Rattle.loops.specs.Loops.{all_below, listed}
use Rattle.root.specs.Root.{root_of}
use Rattle.wave.specs.Wave.{magnitude}
use Rattle.job.specs.Job.{Kind, junction, reservoir, valve, pump, Job, Laid, laid, sections, friction_at, node_at, floor_at}
use Rattle.job.specs.Format.{job_of}
use Rattle.job.specs.Questions.{refusal}
use Rattle.chain.specs.Chain.{is_chain}

-- ---- the heads of the level L and the flow Q

-- "H - ((R·Q)·|Q|)/S": the head a reach further on
unfoldable pub head_after : Float → Float → Float → Float → Float
head_after S R Q H = H ⊟ ((R ⊠ Q) ⊠ magnitude Q) ⊘ S

-- "reach by reach": the head at offset i of a pipe that begins with the head H, where reach i has R i
unfoldable pub head_along : Float → (ℕ → Float) → Float → Float → ℕ → Float
head_along S R Q H zero = H
head_along S R Q H (suc i) = head_after S (R i) Q (head_along S R Q H i)

unfoldable pub head_in : Job → Float → Laid → Float → ℕ → Float
head_in j Q l H = head_along l.pipe.S (λ i. friction_at j (l.first_reach + i)) Q H

-- the heads of pipe after pipe, "carrying the head across nodes": a pipe begins with the head with which the one before it ends
unfoldable pub heads_from : Job → Float → Float → List Laid → List Float
heads_from j Q H [] = []
heads_from j Q H (l ∷ ls) = listed (suc l.pipe.reaches) (head_in j Q l H) ++ heads_from j Q (head_in j Q l H l.pipe.reaches) ls

-- "Write head L at section 0, then .. reach by reach": the head of each section
unfoldable pub heads_of : Job → Float → Float → List Float
heads_of j L Q = heads_from j Q L (laid j)

unfoldable pub head_at : Job → Float → Float → ℕ → Float
head_at j L Q s = get_or (heads_of j L Q) s zero64

-- H, "the last head"
unfoldable pub last_head : Job → Float → Float → Float
last_head j L Q = head_at j L Q (sections j - 1)

-- ---- the coefficient

-- b of the last node, which is a valve in a chain
unfoldable pub head_behind : Kind → Float
head_behind junction = zero64
head_behind reservoir = zero64
head_behind (valve a b) = b
head_behind (pump a b c) = zero64

unfoldable pub outlet_head : Job → Float
outlet_head j = head_behind (node_at j (length j.pipes)).kind

-- "a = Q / root(H - b)"
unfoldable pub coefficient_for : Float → Float → Float → Float
coefficient_for Q H b = Q ⊘ root_of (H ⊟ b)

-- a head that is finite and not below its floor
unfoldable pub head_fits : Float → Float → Bool
head_fits floor H = finite H && not (lt H floor)

-- Whether a coefficient is given: none is "exactly when Q is not above zero, a head falls below its floor, H is not above b, or any head, H - b or a is not
-- finite".
unfoldable pub is_given : Job → Float → Float → Bool
is_given j L Q =
    let H = last_head j L Q in
    let b = outlet_head j in
    lt zero64 Q && all_below (λ s. head_fits (floor_at j s) (head_at j L Q s)) (sections j) && lt b H && finite (H ⊟ b) && finite (coefficient_for Q H b)

-- ---- the call

-- An answer in document 02's terms: the number of the question that got a no, 'none', or the coefficient a.
pub data Answer : Type 0 where
  refused : ℕ → Answer
  none : Answer
  coefficient : Float → Answer

-- What a call leaves in the two lent rows, and its answer.
pub record Called : Type 0 where
  pub heads : List Float
  pub flows : List Float
  pub answer : Answer

-- "Two lent rows receive the heads and, at every section, the flow Q, only when a coefficient is given": entries past the section count are left
unfoldable pub written : Job → Float → Float → List Float → List Float → Called
written j L Q heads flows = record {
  heads = heads_of j L Q ++ drop (sections j) heads;
  flows = replicate (sections j) Q ++ drop (sections j) flows;
  answer = coefficient (coefficient_for Q (last_head j L Q) (outlet_head j));
}

-- "Otherwise they keep what they held."
unfoldable pub kept : List Float → List Float → Answer → Called
kept heads flows answer = record { heads = heads; flows = flows; answer = answer }

unfoldable pub set_or_none : Job → Float → Float → List Float → List Float → Called
set_or_none j L Q heads flows = cond (is_given j L Q) (written j L Q heads flows) (kept heads flows none)

-- 51, "if the layout is no such chain or L or Q is not finite"
unfoldable pub is_chain_with : Job → Float → Float → Bool
is_chain_with j L Q = is_chain j && finite L && finite Q

-- 52, "if the lent rows are shorter than the section count"
unfoldable pub rows_hold : Job → List Float → List Float → Bool
rows_hold j heads flows = leb (sections j) (length heads) && leb (sections j) (length flows)

-- the call, from the job's bytes, L, Q and the rows as they are lent: "Accepted jobs only are taken. .. 51, after question 15 ..; 52, next"
unfoldable pub set_valve : List ℕ → Float → Float → List Float → List Float → Called
set_valve bytes L Q heads flows =
    let j = job_of bytes in
    let no : ℕ → Called = λ q. kept heads flows (refused q) in
    cond (eqb (refusal bytes) 0)
    (cond (is_chain_with j L Q)
    (cond (rows_hold j heads flows) (set_or_none j L Q heads flows) (no 52))
    (no 51))
    (no (refusal bytes))
