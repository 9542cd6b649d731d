-- Document 01's bench figures, as one table about the definitions; it is proved in proofs/Figures.antt. Definitions only.
use Rattle.std.specs.Prelude.{◌≡◌, List, [], ◌∷◌, ◌++◌, ℕ, get_or, set, take, replicate}
use Rattle.std.specs.Float.Ieee.{neg}
use Rattle.fields.specs.Real.{zero64}
use Rattle.root.specs.Figures.{P10}
use Rattle.wave.specs.Figures.{BenchFigures, ◌is◌, num}
use Rattle.job.specs.JobQ.{job_q}
use Rattle.job.specs.SixPairs.{job_q_long_counts}
use Rattle.recurrence.specs.Run.{Answer}
use Rattle.recurrence.specs.Calls.{heads, flows, Rows, gathered, Called, start_call, run_on_call}

-- ---- jobs of bytes, from job Q's

-- bytes with some of them changed: the place and the byte of each
unfoldable pub patched : List ℕ → List (ℕ × ℕ) → List ℕ
patched job [] = job
patched job (c ∷ cs) = patched (set job c.0 c.1) cs

-- job Q with its reservoir at 12; with floors 10; with the valve's schedule 1, 0; with its opening 2, which question 15 refuses
unfoldable pub job_q_at12 : List ℕ
job_q_at12 = patched job_q ((204, 40) ∷ [])

unfoldable pub job_q_on_floor : List ℕ
job_q_on_floor = patched job_q ((148, 36) ∷ (149, 64) ∷ (172, 36) ∷ (173, 64) ∷ (196, 36) ∷ (197, 64) ∷ [])

unfoldable pub job_q_closing : List ℕ
job_q_closing = patched job_q ((42, 24) ∷ (85, 2) ∷ (212, 240) ∷ (213, 63) ∷ []) ++ replicate 8 0

unfoldable pub job_q_too_open : List ℕ
job_q_too_open = patched job_q ((213, 64) ∷ [])

-- job Q as six pairs with a full table 6, its reservoir at 10 and from step 2 on at 12
unfoldable pub job_q_rising : List ℕ
job_q_rising = patched (take 214 job_q_long_counts) ((42, 24) ∷ (46, 230) ∷ []) ++ 0 ∷ 0 ∷ 0 ∷ 0 ∷ 0 ∷ 0 ∷ 40 ∷ 64 ∷ (replicate 8 0 ++ 2 ∷ 0 ∷ 1 ∷ 0 ∷ [])

-- ---- calls

-- sevens, one more in each row than job Q and its like use: they have three sections, two nodes and one pipe
unfoldable pub lent_sevens : Rows
lent_sevens x = replicate (gathered 4 4 4 4 3 3 5 x) (num 7)

-- a start in such rows, and a run-on of N steps
unfoldable pub ran_on : List ℕ → ℕ → Called
ran_on job N = run_on_call job 0 N (start_call job lent_sevens).rows

abbrev pub refusal : ℕ → Answer
refusal q = record { number = q; steps = 0; section = 0 }

abbrev pub done : ℕ → Answer
done m = record { number = 0; steps = m; section = 0 }

-- ---- document 01, 'Bench figures'

pub record BenchTable : Type 0 where
  -- "job Q, step 2: section 1 has head 14, flow 0"
  pub p1_head : get_or ((ran_on job_q 2).rows heads) 1 zero64 is num 14
  pub p1_flow : get_or ((ran_on job_q 2).rows flows) 1 zero64 is num 0
  -- "step 3: section 0 flow -4", "step 5: section 2 head 6"
  pub p2 : get_or ((ran_on job_q 3).rows flows) 0 zero64 is neg (num 4)
  pub p3 : get_or ((ran_on job_q 5).rows heads) 2 zero64 is num 6
  pub p4_to_p9 : BenchFigures
  pub p10 : P10
  -- "Edges: 511 reaches pass, 512 don't": question 7 of job Q with so many. With 511 the first no is question 13's, since table 3 still holds two R.
  pub reaches_511 : (start_call (patched job_q ((48, 255) ∷ (49, 1) ∷ [])) lent_sevens).answer ≡ refusal 13
  pub reaches_512 : (start_call (patched job_q ((48, 0) ∷ (49, 2) ∷ [])) lent_sevens).answer ≡ refusal 7
  -- ".. a head on its floor runs on; m = 1,000,000 passes with N = 0 only."
  pub on_floor : (ran_on job_q_on_floor 1).answer ≡ done 1
  pub limit : (run_on_call job_q 1_000_000 0 (start_call job_q lent_sevens).rows).answer ≡ done 1_000_000
  pub limit_passed : (run_on_call job_q 1_000_000 1 (start_call job_q lent_sevens).rows).answer ≡ refusal 21
