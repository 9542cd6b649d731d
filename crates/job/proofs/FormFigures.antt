-- Jobs of every form, by computation on their bytes: what they are read into, and which are refused. Assumes nothing.
use mathlib.Core.Path.{◌≡◌, refl}
use mathlib.Core.Bool.{true, false}
use mathlib.Core.List.{List, [], ◌∷◌, ◌++◌}
use Prim.Native.Nat.{ℕ}
use lib.ListN.{set, take, drop}
use lib.Ieee.{Float, binary64, of_bits}
use Rattle.fields.specs.Real.{one64}
use Rattle.job.specs.Job.{scheduled}
use Rattle.job.specs.Format.{node_table, count_table, schedule_count, job_of}
use Rattle.job.specs.JobQ.{job_q}
use Rattle.job.specs.OwnJobs.{job_of_all_kinds}
use Rattle.job.specs.SixPairs.{job_q_empty_counts, job_q_long_counts, slow_closure}
use Rattle.job.specs.Questions.{figure_fits, nodes_met, refusal, Accepted}
use Rattle.job.proofs.AllDefinitions.{opened}

abbrev half : Float
half = of_bits binary64 0x3fe0_0000_0000_0000

abbrev quarter : Float
quarter = of_bits binary64 0x3fd0_0000_0000_0000

abbrev eighth : Float
eighth = of_bits binary64 0x3fc0_0000_0000_0000

-- the counts in force of the reservoir and the valve
abbrev counts : List ℕ → ℕ × ℕ
counts job = (schedule_count (node_table job) (count_table job) 0, schedule_count (node_table job) (count_table job) 1)

-- those of a byte, and those of table 6
pub counts_are_read : (counts job_q_empty_counts ≡ (1, 1)) × (counts job_q_long_counts ≡ (1, 1)) × (counts slow_closure ≡ (1, 300))
unfolding opened
counts_are_read = (refl, refl, refl)

-- job Q as five pairs, as six with an empty table 6 and as six with a full one: one record. The counts are named first: see below.
pub one_record :
    (job_of job_q_empty_counts ≡ job_of job_q) × (job_of job_q_long_counts ≡ job_of job_q) × Accepted job_q × Accepted job_q_empty_counts × Accepted job_q_long_counts
unfolding opened
one_record = let counted = counts_are_read in (refl, refl, refl, refl, refl)

-- The value at step 255 is the last that a byte could count, at 256 the first that it could not; then on to the 300th, which is read at every later step.
-- The counts are named first, so that where a slip makes them thousands these values are not computed.
pub slow_closure_is_read :
    (scheduled (job_of slow_closure) 255 1 ≡ one64) × (scheduled (job_of slow_closure) 256 1 ≡ half) × (scheduled (job_of slow_closure) 299 1 ≡ quarter)
    × (scheduled (job_of slow_closure) 300 1 ≡ eighth) × (scheduled (job_of slow_closure) 301 1 ≡ eighth)
unfolding opened
slow_closure_is_read = let counted = counts_are_read in (refl, refl, refl, refl, refl)

-- Question 2: four pairs, and eight, of a file that would hold them; six pairs in a file of 53 bytes. One of 54 bytes goes on to question 3, as do six
-- pairs whose first table begins at 46, five whose first begins at 54, and a sixth table that begins 2 bytes before the fifth ends.
pub pairs_are_judged :
    (refusal (set job_q 0 4) ≡ 2) × (refusal (set job_q_long_counts 0 8) ≡ 2) × (refusal (take 53 job_q_long_counts) ≡ 2) × (refusal (take 54 job_q_long_counts) ≡ 3)
    × (refusal (set job_q 0 6) ≡ 3) × (refusal (set job_q_long_counts 0 5) ≡ 3) × (refusal (set (set job_q_long_counts 46 220) 50 6) ≡ 3)
unfolding opened
pairs_are_judged = (refl, refl, refl, refl, refl, refl, refl)

-- Question 10 asks each form for the kind, and the byte where table 6 is empty: a node of kind 4, and a byte of 0.
pub kinds_are_judged :
    (refusal (set job_q_long_counts 66 4) ≡ 10) × (refusal (set job_q_empty_counts 92 4) ≡ 10) × (refusal (set job_q 59 0) ≡ 10) × (refusal (set job_q_empty_counts 93 0) ≡ 10)
unfolding opened
kinds_are_judged = (refl, refl, refl, refl)

-- Question 50 of job Q with long counts: a count of 0, first and last; a byte that is not 0, first and last; table 6 of one byte less, and of one more.
pub counts_are_judged :
    (refusal (set job_q_long_counts 222 0) ≡ 50) × (refusal (set job_q_long_counts 224 0) ≡ 50) × (refusal (set job_q_long_counts 67 1) ≡ 50)
    × (refusal (set job_q_long_counts 93 1) ≡ 50) × (refusal (take 225 (set job_q_long_counts 50 3)) ≡ 50) × (refusal (set job_q_long_counts 50 5 ++ 0 ∷ []) ≡ 50)
unfolding opened
counts_are_judged = (refl, refl, refl, refl, refl, refl)

-- 50 straight after 10: a kind 4 beside a count of 0; a count of 0 beside a valve's c of -0. A count of 256 where table 5 has one entry for the node is
-- question 15's.
pub order_is_kept :
    (refusal (set (set job_q_long_counts 66 4) 222 0) ≡ 10) × (refusal (set (set job_q_long_counts 117 128) 222 0) ≡ 50) × (refusal (set job_q_long_counts 117 128) ≡ 11)
    × (refusal (set (set job_q_long_counts 224 0) 225 1) ≡ 15)
unfolding opened
order_is_kept = (refl, refl, refl, refl)

-- Question 4 of job Q: 1,000,000 steps, 0x0f4240, go on to question 7, which 514 reaches fail; one more does not.
pub steps_are_judged :
    (refusal (set (set (set (set job_q 2 64) 3 66) 4 15) 49 2) ≡ 7) × (refusal (set (set (set (set job_q 2 65) 3 66) 4 15) 49 2) ≡ 4)
unfolding opened
steps_are_judged = (refl, refl)

-- Question 11: a valve's a of -2; a pump's a of -10, and its b of -1.5, which is asked of the pump's record first, by itself.
abbrev pump_of : List ℕ → List ℕ
pump_of job = take 26 (drop 122 job)

pub figures_are_judged :
    (figure_fits (pump_of job_of_all_kinds) 0 ≡ true) × (figure_fits (pump_of (set job_of_all_kinds 139 191)) 0 ≡ false)
    × (refusal (set job_q 93 192) ≡ 11) × (refusal (set job_of_all_kinds 131 192) ≡ 11) × (refusal (set job_of_all_kinds 139 191) ≡ 11)
unfolding opened
figures_are_judged = (refl, refl, refl, refl, refl)

-- Question 12: the second of two pipes, from node 2 to 3, made to begin at node 0, so that node 2 has no end, or to end at node 1, so that the last
-- node has none; asked of the pipes' table first, by itself.
abbrev pipes_of : List ℕ → List ℕ
pipes_of job = take 24 (drop 46 job)

pub ends_are_judged :
    (nodes_met (pipes_of job_of_all_kinds) 4 ≡ true) × (nodes_met (pipes_of (set job_of_all_kinds 58 0)) 4 ≡ false) × (nodes_met (pipes_of (set job_of_all_kinds 59 1)) 4 ≡ false)
    × (refusal (set job_of_all_kinds 58 0) ≡ 12) × (refusal (set job_of_all_kinds 59 1) ≡ 12)
unfolding opened
ends_are_judged = (refl, refl, refl, refl, refl)
