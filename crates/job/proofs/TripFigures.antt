-- Jobs of seven pairs, by computation on their bytes: what they are read into, and question 53 with its place, first of the parts. Assumes nothing.
use mathlib.Core.Path.{◌≡◌, refl}
use mathlib.Core.Bool.{true, false}
use mathlib.Core.List.{List, [], ◌∷◌, ◌++◌, map}
use Prim.Native.Nat.{ℕ, ◌+◌}
use lib.ListN.{set, take, drop}
use Rattle.fields.specs.Real.{zero64, one64, two64, four64}
use Rattle.job.specs.Job.{Trip, reservoir, pump}
use Rattle.job.specs.Format.{trip_in, job_of}
use Rattle.job.specs.JobQ.{job_q}
use Rattle.job.specs.SevenPairs.{job_q_empty_trips, job_q_long_counts_empty_trips, two_trips, long_counts_trip}
use Rattle.job.specs.Questions.{is_pump, first_of_node, rundown_fits, trips_fit, refusal, Accepted}
use Rattle.job.proofs.AllDefinitions.{opened}
use Rattle.job.proofs.Figures.{ten, nine, eight, seven, six, five, three, half, quarter, three_halves, minus_one, minus_three}

-- ---- the parts: the tables of nodes and of trips by themselves

abbrev nodes : List ℕ
nodes = take 78 (drop 86 two_trips)

abbrev trips : List ℕ
trips = drop 300 two_trips

-- the record at the head of table 7, with the two highest bytes of one of its constants
abbrev first_trip : List ℕ → Trip
first_trip table = trip_in table 0

abbrev highest : ℕ → ℕ × ℕ → List ℕ
highest at two = set (set trips at two.0) (at + 1) two.1

-- a NaN, the two infinities, and a number below zero; -0 is none of these
abbrev bad : List (ℕ × ℕ)
bad = (248, 127) ∷ (240, 127) ∷ (240, 255) ∷ (240, 191) ∷ []

-- Nodes 0 and 1 are pumps, node 2 is a reservoir, and there is no node 3.
pub pumps_are_told : map (is_pump nodes) (0 ∷ 1 ∷ 2 ∷ 3 ∷ []) ≡ true ∷ true ∷ false ∷ false ∷ []
unfolding opened
pumps_are_told = refl

-- The second record names node 0; made to name node 1, as the first does, it is not the first of its node.
pub nodes_are_told_apart : (first_of_node trips 0 ≡ true) × (first_of_node trips 1 ≡ true) × (first_of_node (set trips 30 1) 1 ≡ false)
unfolding opened
nodes_are_told_apart = (refl, refl, refl)

-- each constant by itself: G, t0, t1
pub constants_are_judged :
    (rundown_fits (first_trip trips) ≡ true)
    × (map (λ two. rundown_fits (first_trip (highest 12 two))) bad ≡ false ∷ false ∷ false ∷ false ∷ [])
    × (map (λ two. rundown_fits (first_trip (highest 20 two))) bad ≡ false ∷ false ∷ false ∷ false ∷ [])
    × (map (λ two. rundown_fits (first_trip (highest 28 two))) bad ≡ false ∷ false ∷ false ∷ false ∷ [])
    × (map (λ at. rundown_fits (first_trip (highest at (0, 128)))) (12 ∷ 20 ∷ 28 ∷ []) ≡ true ∷ true ∷ true ∷ [])
unfolding opened
constants_are_judged = (refl, refl, refl, refl, refl)

-- the table: whole, empty, of one byte less, of one byte, of one byte more
pub trips_are_whole :
    map (trips_fit nodes) (trips ∷ [] ∷ take 59 trips ∷ take 1 trips ∷ (trips ++ 0 ∷ []) ∷ []) ≡ true ∷ true ∷ false ∷ false ∷ false ∷ []
unfolding opened
trips_are_whole = refl

-- ---- the jobs

-- job Q as seven pairs, its schedules counted by bytes and by table 6: the record that five pairs give
pub one_record_of_seven_pairs :
    (job_of job_q_empty_trips ≡ job_of job_q) × (job_of job_q_long_counts_empty_trips ≡ job_of job_q) × Accepted job_q_empty_trips × Accepted job_q_long_counts_empty_trips
unfolding opened
one_record_of_seven_pairs = (refl, refl, refl, refl)

pub two_trips_are_read :
    job_of two_trips
    ≡ record {
      pipes = record { start = 0; finish = 2; reaches = 1; S = one64 } ∷ record { start = 1; finish = 2; reaches = 1; S = two64 } ∷ [];
      nodes =
          record { kind = pump ten three_halves minus_three; schedule = one64 ∷ [] }
          ∷ record { kind = pump eight one64 zero64; schedule = half ∷ [] }
          ∷ record { kind = reservoir; schedule = ten ∷ [] }
          ∷ [];
      friction = quarter ∷ half ∷ [];
      initial =
          record { head = nine; flow = four64; floor = zero64 }
          ∷ record { head = eight; flow = four64; floor = one64 }
          ∷ record { head = seven; flow = three; floor = minus_one }
          ∷ record { head = eight; flow = three; floor = two64 }
          ∷ [];
      trips =
          record { node = 1; step = 3; G = half; t0 = one64; t1 = two64 } ∷ record { node = 0; step = 16_909_060; G = five; t0 = six; t1 = seven } ∷ [];
    }
unfolding opened
two_trips_are_read = refl

-- counted by table 6 it has the same nodes, and one trip
pub one_trip_is_read :
    ((job_of long_counts_trip).nodes ≡ (job_of two_trips).nodes) × ((job_of long_counts_trip).trips ≡ record { node = 1; step = 3; G = half; t0 = one64; t1 = two64 } ∷ [])
    × Accepted two_trips × Accepted long_counts_trip
unfolding opened
one_trip_is_read = (refl, refl, refl, refl)

-- the two highest bytes of a constant of the job of two trips
abbrev constant : ℕ → ℕ × ℕ → List ℕ
constant at two = set (set two_trips at two.0) (at + 1) two.1

-- Question 53 of the job of two trips. The second record names the reservoir, no node, 256, the first record's node; each constant of the first record and
-- the last of the second.
pub trips_are_judged :
    (map refusal (set two_trips 330 2 ∷ set two_trips 330 3 ∷ set two_trips 331 1 ∷ set two_trips 330 1 ∷ []) ≡ 53 ∷ 53 ∷ 53 ∷ 53 ∷ [])
    × (map (λ two. refusal (constant 312 two)) bad ≡ 53 ∷ 53 ∷ 53 ∷ 53 ∷ []) × (map (λ two. refusal (constant 320 two)) bad ≡ 53 ∷ 53 ∷ 53 ∷ 53 ∷ [])
    × (map (λ two. refusal (constant 328 two)) bad ≡ 53 ∷ 53 ∷ 53 ∷ 53 ∷ []) × (map (λ two. refusal (constant 358 two)) bad ≡ 53 ∷ 53 ∷ 53 ∷ 53 ∷ [])
    × (map (λ at. refusal (constant at (0, 128))) (312 ∷ 320 ∷ 328 ∷ 358 ∷ []) ≡ 0 ∷ 0 ∷ 0 ∷ 0 ∷ [])
unfolding opened
trips_are_judged = (refl, refl, refl, refl, refl, refl)

-- table 7 of one byte less, of one byte more, and of one byte; a record of job Q, which has no pump
pub trip_lengths_are_judged :
    (refusal (take 359 (set two_trips 58 59)) ≡ 53) × (refusal (set two_trips 58 61 ++ 0 ∷ []) ≡ 53) × (refusal (take 301 (set two_trips 58 1)) ≡ 53)
    × (refusal (set job_q_empty_trips 58 30 ++ take 30 trips) ≡ 53)
unfolding opened
trip_lengths_are_judged = (refl, refl, refl, refl)

-- 53 straight after 50: a node of kind 4, a count of 0 in table 6 and a pump's a below zero, each beside a record of the reservoir, and by itself.
pub trip_order_is_kept :
    (map refusal (set long_counts_trip 138 4 ∷ set long_counts_trip 300 0 ∷ set long_counts_trip 306 2 ∷ set long_counts_trip 95 192 ∷ []) ≡ 10 ∷ 50 ∷ 53 ∷ 11 ∷ [])
    × (map (λ job. refusal (set job 306 2)) (set long_counts_trip 138 4 ∷ set long_counts_trip 300 0 ∷ set long_counts_trip 95 192 ∷ []) ≡ 10 ∷ 50 ∷ 53 ∷ [])
unfolding opened
trip_order_is_kept = (refl, refl)

-- Question 2: seven pairs in a file of 61 bytes, and an eighth. One of 62 bytes goes on to question 3, as do seven pairs of which six are counted.
pub seven_pairs_are_judged :
    map refusal (take 61 job_q_empty_trips ∷ set job_q_empty_trips 0 8 ∷ take 62 job_q_empty_trips ∷ set job_q_empty_trips 0 6 ∷ []) ≡ 2 ∷ 2 ∷ 3 ∷ 3 ∷ []
unfolding opened
seven_pairs_are_judged = refl
