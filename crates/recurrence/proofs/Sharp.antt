-- The bound is sharp: job Q with its reservoir at 10 and at 12, and section 2, two reaches off; for two jobs of five pairs, and for one of five beside one of
-- six. Assumes nothing.
use mathlib.Core.Path.{◌≡◌, refl, sym, ap, ◌∙◌}
use mathlib.Core.List.{List, [], ◌∷◌}
use mathlib.Core.Option.{Option, none, some}
use Prim.Native.Nat.{ℕ, zero, suc, ◌+◌, ◌-◌, ◌≤◌, ◌<◌}
use native.Mathlib.Omega.{arith}
use lib.ListN.{get_elem?, replicate}
use lib.Ieee.{Float, binary64, to_bits}
use Rattle.wave.specs.Figures.{num}
use Rattle.job.specs.Job.{Job, reservoir, valve, Laid, laid, sections, node_at, scheduled}
use Rattle.job.specs.Format.{job_of}
use Rattle.job.specs.Questions.{Accepted}
use Rattle.job.specs.JobQ.{job_q}
use Rattle.recurrence.specs.State.{Point, point_at}
use Rattle.recurrence.specs.Run.{Call, played, steps_done}
use Rattle.recurrence.specs.Paths.{EndAt, starts_at, finishes_at, Beside, down, up, PathTo, begins, along, across, AtLeast}
use Rattle.recurrence.specs.Demand.{AlikeBut, AlikeBefore, Carried, seen_by}
use Rattle.recurrence.specs.Figures.{job_q_at12, job_q_rising}
use Rattle.recurrence.specs.Sharp.{once, Sharp}
use Rattle.recurrence.proofs.AllDefinitions.{opened}
use Rattle.recurrence.proofs.Theorem.{demand_3}

-- a lower bound of distances, by a number at each section that neighbours change by one at most and ends at one node share
pub by_levels : (ls : List Laid) (from : ℕ → Type 0) (φ : ℕ → ℕ) → ((s : ℕ) → from s → φ s ≡ 0) → ((r s t : ℕ) → Beside ls r s t → φ t ≤ suc (φ s))
    → ((y s t : ℕ) → EndAt ls y s → EndAt ls y t → φ t ≤ φ s) → (s e : ℕ) → PathTo ls from s e → φ s ≤ e
by_levels ls from φ z b a s e (begins {s = s'} h) = omega (arith, z s' h)
by_levels ls from φ z b a s e (along {r = r} {s = s'} {t = t} {d = d} h p) = omega (arith, b r s' t h, by_levels ls from φ z b a s' d p)
by_levels ls from φ z b a s e (across {y = y} {s = s'} {t = t} {d = d} h k p) = omega (arith, a y s' t h k, by_levels ls from φ z b a s' d p)

-- ---- job Q as it is read, with other levels of its reservoir: one pipe, of two reaches

with_levels : List Float → Job
with_levels vs = record {
  pipes = record { start = 0; finish = 1; reaches = 2; S = num 1 } ∷ [];
  nodes = record { kind = reservoir; schedule = vs } ∷ record { kind = valve (num 2) (num 6); schedule = num 0 ∷ [] } ∷ [];
  friction = num 0 ∷ num 0 ∷ [];
  initial = replicate 3 record { head = num 10; flow = num 4; floor = num 0 };
  trips = [];
}

abbrev tens : List Float
tens = num 10 ∷ []

at_10 : job_of job_q ≡ with_levels tens
unfolding opened with_levels
at_10 = refl

at_12 : job_of job_q_at12 ≡ with_levels (num 12 ∷ [])
unfolding opened with_levels
at_12 = refl

rising : job_of job_q_rising ≡ with_levels (num 10 ∷ num 12 ∷ [])
unfolding opened with_levels
rising = refl

all_accepted : Accepted job_q × Accepted job_q_at12 × Accepted job_q_rising
unfolding opened
all_accepted = (refl, refl, refl)

-- ---- distances

abbrev laid_q : List Laid
laid_q = laid (with_levels tens)

three_sections : 2 < sections (with_levels tens)
unfolding opened with_levels
three_sections = omega arith

read : (Laid → ℕ) → Option Laid → ℕ
read f none = 0
read f (some l) = f l

pub record OnePipe (l : Laid) : Type 0 where
  pub first : l.first_section ≡ 0
  pub reaches : l.pipe.reaches ≡ 2
  pub start : l.pipe.start ≡ 0
  pub finish : l.pipe.finish ≡ 1

only : (p : ℕ) (l : Laid) → get_elem? laid_q p ≡ some l → OnePipe l
unfolding opened read with_levels
only zero l e = record {
  first = sym (ap (read (λ k. k.first_section)) e);
  reaches = sym (ap (read (λ k. k.pipe.reaches)) e);
  start = sym (ap (read (λ k. k.pipe.start)) e);
  finish = sym (ap (read (λ k. k.pipe.finish)) e);
}
only (suc p) l e = let z : ◌≡◌ {A = ℕ} 0 1 = cc in absurd (omega arith)

-- from the finish of a pipe of two reaches up to its start
pub up_one_pipe : (ls : List Laid) → ((p : ℕ) (l : Laid) → get_elem? ls p ≡ some l → OnePipe l) → AtLeast ls (EndAt ls 1) 0 2
unfolding AtLeast
up_one_pipe ls one e p = by_levels ls (EndAt ls 1) (λ s. 2 - s) from next same 0 e p
  where
    from : (s : ℕ) → EndAt ls 1 s → 2 - s ≡ 0
    from s (starts_at p l e q h) = omega (arith, one p l e)
    from s (finishes_at p l e q h) = omega (arith, one p l e)

    next : (r s t : ℕ) → Beside ls r s t → 2 - t ≤ suc (2 - s)
    next r s t (down p l i e h q a b) = omega arith
    next r s t (up p l i e h q a b) = omega arith

    same : (y s t : ℕ) → EndAt ls y s → EndAt ls y t → 2 - t ≤ 2 - s
    same y s t (starts_at p l e q h) (starts_at p' l' e' q' h') = omega (arith, one p l e, one p' l' e')
    same y s t (starts_at p l e q h) (finishes_at p' l' e' q' h') = omega (arith, one p l e, one p' l' e')
    same y s t (finishes_at p l e q h) (starts_at p' l' e' q' h') = omega (arith, one p l e, one p' l' e')
    same y s t (finishes_at p l e q h) (finishes_at p' l' e' q' h') = omega (arith, one p l e, one p' l' e')

off : AtLeast laid_q (EndAt laid_q 0) 2 2
unfolding AtLeast
off e p = by_levels laid_q (EndAt laid_q 0) (λ s. s) from next same 2 e p
  where
    from : (s : ℕ) → EndAt laid_q 0 s → s ≡ 0
    from s (starts_at p l e q h) = omega (arith, only p l e)
    from s (finishes_at p l e q h) = omega (arith, only p l e)

    next : (r s t : ℕ) → Beside laid_q r s t → t ≤ suc s
    next r s t (down p l i e h q a b) = omega arith
    next r s t (up p l i e h q a b) = omega arith

    same : (y s t : ℕ) → EndAt laid_q y s → EndAt laid_q y t → t ≤ s
    same y s t (starts_at p l e q h) (starts_at p' l' e' q' h') = omega (arith, only p l e, only p' l' e')
    same y s t (starts_at p l e q h) (finishes_at p' l' e' q' h') = omega (arith, only p l e, only p' l' e')
    same y s t (finishes_at p l e q h) (starts_at p' l' e' q' h') = omega (arith, only p l e, only p' l' e')
    same y s t (finishes_at p l e q h) (finishes_at p' l' e' q' h') = omega (arith, only p l e, only p' l' e')

-- ---- what two schedules of the reservoir have alike

alike : (vs ws : List Float) → AlikeBut 0 (with_levels vs) (with_levels ws)
unfolding opened with_levels
alike vs ws = record { pipes = refl; friction = refl; initial = refl; trips = refl; count = refl; kind = refl; others = others }
  where
    others : (y : ℕ) → ¬ (y ≡ 0) → node_at (with_levels vs) y ≡ node_at (with_levels ws) y
    others zero h = absurd (h refl)
    others (suc zero) h = refl
    others (suc (suc y)) h = refl

-- the pattern of section 2's head after N steps; two patterns are two heads
after_steps : ℕ → List Float → ℕ
after_steps N vs = to_bits binary64 (point_at (played (with_levels vs) (once N)).state 2).head

heads_differ :
    (N : ℕ) (vs ws : List Float) → ¬ (after_steps N vs ≡ after_steps N ws)
    → ¬ (point_at (played (with_levels vs) (once N)).state 2 ≡ point_at (played (with_levels ws) (once N)).state 2)
unfolding after_steps
heads_differ N vs ws n e = n (ap (λ (p : Point). to_bits binary64 p.head) e)

-- both runs finish one call of N steps
abbrev Finish : ℕ → List Float → List Float → Type 0
Finish N vs ws = (steps_done (with_levels vs) (once N) ≡ N) × (steps_done (with_levels ws) (once N) ≡ N)

-- Job Q beside a job with other levels from step k on: that section 2 is the same after k + 1 steps follows from demand 3, that it differs after one more is shown by
-- the runs.
module _ (b : List ℕ) (ws : List Float) (reads : job_of b ≡ with_levels ws) (ok : Accepted b) where
  alike_read : AlikeBut 0 (job_of job_q) (job_of b)
  alike_read = rw (at_10, reads) (alike tens ws)

  module _ (k : ℕ) (pos : 1 ≤ k) (before : AlikeBefore k 0 (with_levels tens) (with_levels ws)) where
    before_read : AlikeBefore k 0 (job_of job_q) (job_of b)
    before_read = rw (at_10, reads) before

    -- demand 3 of the two jobs, whose hypotheses are met
    carried : (calls : List Call) → Carried (job_of job_q) 0 k (seen_by (job_of job_q) calls) (seen_by (job_of b) calls)
    carried = demand_3 job_q b all_accepted.0 ok 0 k pos alike_read before_read

    sharp_by :
        Finish (k + 2 - 1) tens ws → Finish (k + 2) tens ws → ¬ (after_steps (k + 2) tens ≡ after_steps (k + 2) ws) → Sharp job_q b 0 k 2 2
    sharp_by d e n =
        let below : 2 < sections (job_of job_q) = rw at_10 three_sections in
        let off-read : AtLeast (laid (job_of job_q)) (EndAt (laid (job_of job_q)) 0) 2 2 = rw at_10 off in
        let done : (steps_done (job_of job_q) (once (k + 2 - 1)) ≡ k + 2 - 1) × (steps_done (job_of b) (once (k + 2 - 1)) ≡ k + 2 - 1) = rw (at_10, reads) d in
        record {
          accepted = (all_accepted.0, ok);
          alike = alike_read;
          before = before_read;
          below = below;
          off = off-read;
          done = done;
          same = (carried (once (k + 2 - 1))).near 2 2 (done.0 ∙ sym done.1) below off-read (omega (arith, done.0));
          done_beyond = rw (at_10, reads) e;
          differs = rw (at_10, reads) (heads_differ (k + 2) tens ws n);
        }

-- ---- the reservoir at 10 beside it at 12, from the first step

pub sharp : Sharp job_q job_q_at12 0 1 2 2
unfolding opened with_levels after_steps
sharp =
    sharp_by job_q_at12 (num 12 ∷ []) at_12 all_accepted.1 1 (omega arith) record { values = λ n p h. absurd (omega arith) } (refl, refl) (refl, refl)
    (λ e. omega (arith, e))

-- ---- a job of five pairs beside one of six: the reservoir at 10 beside it at 12 from step 2 on, so that the counts of its schedule differ too

before_rising : AlikeBefore 2 0 (with_levels tens) (with_levels (num 10 ∷ num 12 ∷ []))
unfolding opened with_levels
before_rising = record { values = values }
  where
    values : (n : ℕ) → 1 ≤ n → n < 2 → scheduled (with_levels tens) n 0 ≡ scheduled (with_levels (num 10 ∷ num 12 ∷ [])) n 0
    values zero p h = absurd (omega arith)
    values (suc zero) p h = refl
    values (suc (suc n)) p h = absurd (omega arith)

pub sharp_across : Sharp job_q job_q_rising 0 2 2 2
unfolding opened with_levels after_steps
sharp_across =
    sharp_by job_q_rising (num 10 ∷ num 12 ∷ []) rising all_accepted.2 2 (omega arith) before_rising (refl, refl) (refl, refl) (λ e. omega (arith, e))

-- demand 3 says of them what it says of two jobs of one form
pub carried_across : (calls : List Call) → Carried (job_of job_q) 0 2 (seen_by (job_of job_q) calls) (seen_by (job_of job_q_rising) calls)
carried_across = carried job_q_rising (num 10 ∷ num 12 ∷ []) rising all_accepted.2 2 (omega arith) before_rising
