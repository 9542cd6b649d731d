-- Two jobs of real bytes: where schedules begin, by bytes and by a table 6; what the jobs are read into, by computation, and that they are accepted. Assumes nothing.
use mathlib.Core.Path.{◌≡◌, refl}
use mathlib.Core.List.{List, [], ◌∷◌}
use Prim.Native.Nat.{ℕ}
use lib.ListN.{set}
use lib.Ieee.{Float, binary64, of_bits}
use Rattle.fields.specs.Real.{zero64, one64, two64, four64}
use Rattle.job.specs.Job.{junction, reservoir, valve, pump, laid, laid_from, node_at, entry_at, scheduled}
use Rattle.loops.specs.Loops.{listed}
use Rattle.job.specs.Format.{node_table, count_table, place_of, trips_in, job_of}
use Rattle.job.specs.JobQ.{job_q}
use Rattle.job.specs.OwnJobs.{job_of_all_kinds, wrapped_pairs}
use Rattle.job.specs.Questions.{refusal, Accepted}
use Rattle.job.proofs.AllDefinitions.{opened}

-- the numbers of the jobs
abbrev pub ten : Float
ten = of_bits binary64 0x4024_0000_0000_0000

abbrev pub nine : Float
nine = of_bits binary64 0x4022_0000_0000_0000

abbrev pub eight : Float
eight = of_bits binary64 0x4020_0000_0000_0000

abbrev pub seven : Float
seven = of_bits binary64 0x401c_0000_0000_0000

abbrev pub six : Float
six = of_bits binary64 0x4018_0000_0000_0000

abbrev pub five : Float
five = of_bits binary64 0x4014_0000_0000_0000

abbrev pub three : Float
three = of_bits binary64 0x4008_0000_0000_0000

abbrev pub half : Float
half = of_bits binary64 0x3fe0_0000_0000_0000

abbrev pub quarter : Float
quarter = of_bits binary64 0x3fd0_0000_0000_0000

abbrev tenth : Float
tenth = of_bits binary64 0x3fb9_9999_9999_999a

abbrev pub three_halves : Float
three_halves = of_bits binary64 0x3ff8_0000_0000_0000

abbrev pub minus_one : Float
minus_one = of_bits binary64 0xbff0_0000_0000_0000

abbrev pub minus_three : Float
minus_three = of_bits binary64 0xc008_0000_0000_0000

abbrev minus_four : Float
minus_four = of_bits binary64 0xc010_0000_0000_0000

-- The places of four schedules and of what comes after them: the counts are 1, 3, 2 and 1 by the bytes, and 300, 1, 257 and 2 by a table 6.
abbrev places : List ℕ → List ℕ
places counts = listed 5 (place_of (node_table job_of_all_kinds) counts)

pub places_are_summed :
    (places (count_table job_of_all_kinds) ≡ 0 ∷ 1 ∷ 4 ∷ 6 ∷ 7 ∷ [])
    × (places (44 ∷ 1 ∷ 1 ∷ 0 ∷ 1 ∷ 1 ∷ 2 ∷ 0 ∷ []) ≡ 0 ∷ 300 ∷ 301 ∷ 558 ∷ 560 ∷ [])
unfolding opened
places_are_summed = (refl, refl)

pub job_q_is_read :
    job_of job_q
    ≡ record {
      pipes = record { start = 0; finish = 1; reaches = 2; S = one64 } ∷ [];
      nodes = record { kind = reservoir; schedule = ten ∷ [] } ∷ record { kind = valve two64 six; schedule = zero64 ∷ [] } ∷ [];
      friction = zero64 ∷ zero64 ∷ [];
      initial =
          record { head = ten; flow = four64; floor = zero64 }
          ∷ record { head = ten; flow = four64; floor = zero64 }
          ∷ record { head = ten; flow = four64; floor = zero64 }
          ∷ [];
      trips = [];
    }
unfolding opened
job_q_is_read = refl

pub job_of_all_kinds_is_read :
    job_of job_of_all_kinds
    ≡ record {
      pipes = record { start = 0; finish = 1; reaches = 1; S = one64 } ∷ record { start = 2; finish = 3; reaches = 3; S = two64 } ∷ [];
      nodes =
          record { kind = reservoir; schedule = ten ∷ [] }
          ∷ record { kind = valve two64 six; schedule = one64 ∷ half ∷ quarter ∷ [] }
          ∷ record { kind = pump ten three_halves minus_three; schedule = one64 ∷ zero64 ∷ [] }
          ∷ record { kind = junction; schedule = minus_four ∷ [] }
          ∷ [];
      friction = quarter ∷ half ∷ tenth ∷ four64 ∷ [];
      initial =
          record { head = ten; flow = four64; floor = zero64 }
          ∷ record { head = nine; flow = four64; floor = one64 }
          ∷ record { head = eight; flow = three; floor = minus_one }
          ∷ record { head = seven; flow = three; floor = seven }
          ∷ record { head = six; flow = two64; floor = two64 }
          ∷ record { head = five; flow = two64; floor = three }
          ∷ [];
      trips = [];
    }
unfolding opened
job_of_all_kinds_is_read = refl

-- Job Q with one byte changed: the valve's c and then its a made -0, which is not all zero bits and is not below zero; its 2 reaches made 514,
-- so that questions 7 and 8 both have a no.
pub edges_are_judged :
    (refusal (set job_q 109 128) ≡ 11) × (refusal (set job_q 93 128) ≡ 0) × (refusal (set job_q 49 2) ≡ 7) × (refusal wrapped_pairs ≡ 3)
    × Accepted job_q × Accepted job_of_all_kinds
unfolding opened
edges_are_judged = (refl, refl, refl, refl, refl, refl)

-- the second pipe's sections begin after the first's two, and its reaches after the first's one
pub second_pipe_is_laid :
    laid (job_of job_of_all_kinds)
    ≡ record { pipe = record { start = 0; finish = 1; reaches = 1; S = one64 }; first_section = 0; first_reach = 0 }
    ∷ record { pipe = record { start = 2; finish = 3; reaches = 3; S = two64 }; first_section = 2; first_reach = 1 }
    ∷ []
unfolding laid laid_from
second_pipe_is_laid = rw job_of_all_kinds_is_read refl

-- "A node reads entry n of its schedule at step n, counted from 1, and its last entry afterwards": the valve at steps 1 to 4, and the pump at steps 1 to 3
pub schedules_are_read :
    (scheduled (job_of job_of_all_kinds) 1 1 ≡ one64) × (scheduled (job_of job_of_all_kinds) 2 1 ≡ half)
    × (scheduled (job_of job_of_all_kinds) 3 1 ≡ quarter) × (scheduled (job_of job_of_all_kinds) 4 1 ≡ quarter)
    × (scheduled (job_of job_of_all_kinds) 1 2 ≡ one64) × (scheduled (job_of job_of_all_kinds) 2 2 ≡ zero64) × (scheduled (job_of job_of_all_kinds) 3 2 ≡ zero64)
unfolding scheduled node_at entry_at
schedules_are_read = rw job_of_all_kinds_is_read (refl, refl, refl, refl, refl, refl, refl)

-- Table 7: two records, of node 1 at step 2 and of node 258 at step 16,909,060; each number's bytes from the lowest
pub trips_are_read :
    trips_in
    (1 ∷ 0 ∷ 2 ∷ 0 ∷ 0 ∷ 0 ∷ 0 ∷ 0 ∷ 0 ∷ 0 ∷ 0 ∷ 0 ∷ 224 ∷ 63 ∷ 0 ∷ 0 ∷ 0 ∷ 0 ∷ 0 ∷ 0 ∷ 240 ∷ 63 ∷ 0 ∷ 0 ∷ 0 ∷ 0 ∷ 0 ∷ 0 ∷ 0 ∷ 64
    ∷ 2 ∷ 1 ∷ 4 ∷ 3 ∷ 2 ∷ 1 ∷ 0 ∷ 0 ∷ 0 ∷ 0 ∷ 0 ∷ 0 ∷ 20 ∷ 64 ∷ 0 ∷ 0 ∷ 0 ∷ 0 ∷ 0 ∷ 0 ∷ 24 ∷ 64 ∷ 0 ∷ 0 ∷ 0 ∷ 0 ∷ 0 ∷ 0 ∷ 28 ∷ 64 ∷ [])
    ≡ record { node = 1; step = 2; G = half; t0 = one64; t1 = two64 } ∷ record { node = 258; step = 16_909_060; G = five; t0 = six; t1 = seven } ∷ []
unfolding opened
trips_are_read = refl
