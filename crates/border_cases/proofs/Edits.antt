-- A job beside the same job with another schedule at one node: what demand 3 asks of the two follows from the record of the second, and from the
-- values at the steps before k, one by one. Assumes nothing.
use mathlib.Core.Path.{◌≡◌, refl, sym, ap, subst}
use mathlib.Core.List.{List}
use Prim.Native.Nat.{ℕ, zero, suc, ◌≤◌, ◌<◌}
use native.Mathlib.Decide.{ℕ_discrete}
use native.Mathlib.Omega.{arith}
use lib.ListN.{length, set, length-set}
use lib.Seq.{get_or-set_same, get_or-set_other}
use lib.Ieee.{Float}
use Rattle.job.specs.Job.{Job, ScheduledNode, node_at, scheduled}
use Rattle.job.specs.Format.{job_of}
use Rattle.job.specs.Questions.{Accepted}
use Rattle.recurrence.specs.Demand.{AlikeBut, AlikeBefore}
use Rattle.border_cases.specs.Cases.{Edited}

-- a job with another schedule at node x
unfoldable pub rescheduled : ℕ → List Float → Job → Job
rescheduled x vs j = record {
  pipes = j.pipes;
  nodes = set j.nodes x record { kind = (node_at j x).kind; schedule = vs };
  friction = j.friction;
  initial = j.initial;
  trips = j.trips;
}

alike : (j : Job) (x : ℕ) (vs : List Float) → x < length j.nodes → AlikeBut x j (rescheduled x vs j)
unfolding rescheduled node_at
alike j x vs h = record {
  pipes = refl;
  friction = refl;
  initial = refl;
  trips = refl;
  count = sym (length-set j.nodes x _);
  kind = ap (λ (n : ScheduledNode). n.kind) (sym (get_or-set_same j.nodes x _ _ h));
  others = λ y n. sym (get_or-set_other j.nodes x y _ _ n);
}

-- one for each number below k
abbrev pub EachBelow : (ℕ → Type 0) → ℕ → Type 0
EachBelow P zero = Unit
EachBelow P (suc k) = EachBelow P k × P k

each_below : (P : ℕ → Type 0) (k : ℕ) → EachBelow P k → (n : ℕ) → n < k → P n
each_below P zero t n h = absurd (omega arith)
each_below P (suc k) t n h = go (ℕ_discrete n k) (each_below P k t.0 n)
  where
    go : Dec (n ≡ k) → (n < k → P n) → P n
    go (yes e) below = rw e t.1
    go (no e) below = below (omega arith)

-- the scheduled values at steps 1 to k
abbrev pub SameValues : ℕ → ℕ → Job → Job → Type 0
SameValues k x A B = EachBelow (λ n. scheduled A (suc n) x ≡ scheduled B (suc n) x) k

before : (k x : ℕ) (A B : Job) → SameValues k x A B → AlikeBefore (suc k) x A B
before k x A B t = record { values = values }
  where
    values : (n : ℕ) → 1 ≤ n → n < suc k → scheduled A n x ≡ scheduled B n x
    values zero p h = absurd (omega arith)
    values (suc n) p h = each_below (λ n. scheduled A (suc n) x ≡ scheduled B (suc n) x) k t n (omega arith)

-- two jobs of bytes, the second read as the first with its own schedule at node x
pub edited : (a b : List ℕ) (x k : ℕ) → Accepted a × Accepted b → x < length (job_of a).nodes
    → job_of b ≡ rescheduled x (node_at (job_of b) x).schedule (job_of a) → SameValues k x (job_of a) (job_of b) → Edited a b x (suc k)
edited a b x k ok l e t = record {
  accepted = ok;
  from_1 = omega arith;
  alike = subst (AlikeBut x (job_of a)) (sym e) (alike (job_of a) x (node_at (job_of b) x).schedule l);
  before = before k x (job_of a) (job_of b) t;
}
