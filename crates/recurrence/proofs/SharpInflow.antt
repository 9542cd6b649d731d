-- The bound is sharp for inflows: a pump that is tripped at step 2, and its reservoir, two reaches off, at 8 and from step 2 on at 10. That the inflows are the same
-- after three steps follows from demand 3, that they differ after four is computed. Assumes nothing.
use mathlib.Core.Path.{◌≡◌, refl, sym, ap, ◌∙◌}
use mathlib.Core.List.{List, [], ◌∷◌}
use mathlib.Core.Option.{some, some-injective, some-ne-none}
use Prim.Native.Nat.{ℕ, zero, suc, ◌≤◌, ◌<◌}
use native.Mathlib.Omega.{arith}
use lib.ListN.{length, get_elem?, replicate}
use lib.Ieee.{Float, binary64, to_bits}
use Rattle.wave.specs.Figures.{num, halved}
use Rattle.job.specs.Job.{Job, reservoir, pump, Laid, laid, node_at, scheduled}
use Rattle.job.specs.Format.{job_of}
use Rattle.job.specs.Questions.{Accepted}
use Rattle.recurrence.specs.Run.{steps_done}
use Rattle.recurrence.specs.Paths.{EndAt, starts_at}
use Rattle.recurrence.specs.Demand.{AlikeBut, AlikeBefore}
use Rattle.recurrence.specs.Sharp.{once, inflow_after, InflowSharp}
use Rattle.recurrence.specs.TrippedJobs.{tripping, tripped, tripped_rising}
use Rattle.recurrence.proofs.AllDefinitions.{opened}
use Rattle.recurrence.proofs.Theorem.{demand_3}
use Rattle.recurrence.proofs.Sharp.{OnePipe, up_one_pipe}

-- ---- the jobs as they are read, with levels of the reservoir

with_levels : List Float → Job
with_levels vs = record {
  pipes = record { start = 0; finish = 1; reaches = 2; S = num 1 } ∷ [];
  nodes = record { kind = pump (num 8) (num 0) (num 0); schedule = num 1 ∷ [] } ∷ record { kind = reservoir; schedule = vs } ∷ [];
  friction = num 0 ∷ num 0 ∷ [];
  initial = replicate 3 record { head = num 8; flow = num 8; floor = num 0 };
  trips = record { node = 0; step = 2; G = halved 1 2; t0 = num 1; t1 = halved 1 3 } ∷ [];
}

level : job_of tripped ≡ with_levels (num 8 ∷ [])
unfolding opened tripping with_levels
level = refl

rising : job_of tripped_rising ≡ with_levels (num 8 ∷ num 10 ∷ [])
unfolding opened tripping with_levels
rising = refl

both_accepted : Accepted tripped × Accepted tripped_rising
unfolding opened tripping
both_accepted = (refl, refl)

alike : (vs ws : List Float) → AlikeBut 1 (with_levels vs) (with_levels ws)
unfolding opened with_levels
alike vs ws = record { pipes = refl; friction = refl; initial = refl; trips = refl; count = refl; kind = refl; others = others }
  where
    others : (y : ℕ) → ¬ (y ≡ 1) → node_at (with_levels vs) y ≡ node_at (with_levels ws) y
    others zero h = refl
    others (suc zero) h = absurd (h refl)
    others (suc (suc y)) h = refl

before_2 : AlikeBefore 2 1 (with_levels (num 8 ∷ [])) (with_levels (num 8 ∷ num 10 ∷ []))
unfolding opened with_levels
before_2 = record { values = values }
  where
    values : (n : ℕ) → 1 ≤ n → n < 2 → scheduled (with_levels (num 8 ∷ [])) n 1 ≡ scheduled (with_levels (num 8 ∷ num 10 ∷ [])) n 1
    values zero p h = absurd (omega arith)
    values (suc zero) p h = refl
    values (suc (suc n)) p h = absurd (omega arith)

-- ---- the pump's end, and its distance from the reservoir

abbrev laid_p : List Laid
laid_p = laid (job_of tripped)

pub only_pipe : (p : ℕ) (l : Laid) → get_elem? laid_p p ≡ some l → OnePipe l
unfolding opened tripping
only_pipe zero l e = rw (← (some-injective _ _ e)) record { first = refl; reaches = refl; start = refl; finish = refl }
only_pipe (suc p) l e = absurd (some-ne-none l (sym e))

pump_end : EndAt laid_p 0 0
unfolding opened tripping
pump_end = starts_at 0 _ refl refl refl

two_nodes : 0 < length (job_of tripped).nodes
unfolding opened tripping
two_nodes = omega arith

-- ---- the runs

three_done : (steps_done (job_of tripped) (once 3) ≡ 3) × (steps_done (job_of tripped_rising) (once 3) ≡ 3)
unfolding opened tripping
three_done = (refl, refl)

four_done : (steps_done (job_of tripped) (once 4) ≡ 4) × (steps_done (job_of tripped_rising) (once 4) ≡ 4)
unfolding opened tripping
four_done = (refl, refl)

-- two patterns are two inflows
pattern : List ℕ → ℕ
pattern job = to_bits binary64 (inflow_after job 4 0)

unlike : ¬ (inflow_after tripped 4 0 ≡ inflow_after tripped_rising 4 0)
unfolding opened tripping pattern
unlike e = let p : pattern tripped ≡ pattern tripped_rising = ap (to_bits binary64) e in omega (arith, p)

pub inflow_sharp : InflowSharp tripped tripped_rising 1 2 0 0 2
inflow_sharp =
    let al : AlikeBut 1 (job_of tripped) (job_of tripped_rising) = rw (level, rising) (alike (num 8 ∷ []) (num 8 ∷ num 10 ∷ [])) in
    let be : AlikeBefore 2 1 (job_of tripped) (job_of tripped_rising) = rw (level, rising) before_2 in
    let off = up_one_pipe laid_p only_pipe in
    record {
      accepted = both_accepted;
      alike = al;
      before = be;
      a_node = two_nodes;
      its_end = pump_end;
      off = off;
      done = three_done;
      same =
          (demand_3 tripped tripped_rising both_accepted.0 both_accepted.1 1 2 (omega arith) al be (once 3)).inflow_near 2 0 0
          (three_done.0 ∙ sym three_done.1) two_nodes pump_end off (omega (arith, three_done.0));
      done_beyond = four_done;
      differs = unlike;
    }
