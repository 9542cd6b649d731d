-- Job Q in the two forms with six pairs, and as a slow closure of 300 openings, byte by byte. Definitions only.
use Rattle.std.specs.Prelude.{List, [], ◌∷◌, ◌++◌, ℕ, zero, suc, set, take, drop}
use Rattle.job.specs.JobQ.{job_q}

-- Job Q's tables 1 to 5, where five pairs end at 46; the bytes that count the schedules lie at 13 and 39 of them.
abbrev pub tables_q : List ℕ
tables_q = drop 46 job_q

-- six pairs, and table 6 empty
unfoldable pub job_q_empty_counts : List ℕ
unfolding job_q
job_q_empty_counts =
    6 ∷ 0 ∷ 1 ∷ 0 ∷ 0 ∷ 0
    ∷ 54 ∷ 0 ∷ 0 ∷ 0 ∷ 12 ∷ 0 ∷ 0 ∷ 0
    ∷ 66 ∷ 0 ∷ 0 ∷ 0 ∷ 52 ∷ 0 ∷ 0 ∷ 0
    ∷ 118 ∷ 0 ∷ 0 ∷ 0 ∷ 16 ∷ 0 ∷ 0 ∷ 0
    ∷ 134 ∷ 0 ∷ 0 ∷ 0 ∷ 72 ∷ 0 ∷ 0 ∷ 0
    ∷ 206 ∷ 0 ∷ 0 ∷ 0 ∷ 16 ∷ 0 ∷ 0 ∷ 0
    ∷ 222 ∷ 0 ∷ 0 ∷ 0 ∷ 0 ∷ 0 ∷ 0 ∷ 0
    ∷ tables_q

-- six pairs, and table 6 with a count of 1 for each node; the bytes are zero
unfoldable pub job_q_long_counts : List ℕ
unfolding job_q
job_q_long_counts =
    6 ∷ 0 ∷ 1 ∷ 0 ∷ 0 ∷ 0
    ∷ 54 ∷ 0 ∷ 0 ∷ 0 ∷ 12 ∷ 0 ∷ 0 ∷ 0
    ∷ 66 ∷ 0 ∷ 0 ∷ 0 ∷ 52 ∷ 0 ∷ 0 ∷ 0
    ∷ 118 ∷ 0 ∷ 0 ∷ 0 ∷ 16 ∷ 0 ∷ 0 ∷ 0
    ∷ 134 ∷ 0 ∷ 0 ∷ 0 ∷ 72 ∷ 0 ∷ 0 ∷ 0
    ∷ 206 ∷ 0 ∷ 0 ∷ 0 ∷ 16 ∷ 0 ∷ 0 ∷ 0
    ∷ 222 ∷ 0 ∷ 0 ∷ 0 ∷ 4 ∷ 0 ∷ 0 ∷ 0
    ∷ (set (set tables_q 13 0) 39 0 ++ 1 ∷ 0 ∷ 1 ∷ 0 ∷ [])

-- n openings end to end, before other bytes
unfoldable pub openings : ℕ → List ℕ → List ℕ → List ℕ
openings zero opening rest = rest
openings (suc n) opening rest = opening ++ openings n opening rest

-- the valve's schedule of 300 openings: 255 of 1, then 0.5, then 43 of 0.25, and at last 0.125
abbrev pub slow_schedule : List ℕ → List ℕ
slow_schedule rest =
    openings 255 (0 ∷ 0 ∷ 0 ∷ 0 ∷ 0 ∷ 0 ∷ 240 ∷ 63 ∷ [])
    (openings 1 (0 ∷ 0 ∷ 0 ∷ 0 ∷ 0 ∷ 0 ∷ 224 ∷ 63 ∷ [])
    (openings 43 (0 ∷ 0 ∷ 0 ∷ 0 ∷ 0 ∷ 0 ∷ 208 ∷ 63 ∷ []) (openings 1 (0 ∷ 0 ∷ 0 ∷ 0 ∷ 0 ∷ 0 ∷ 192 ∷ 63 ∷ []) rest)))

-- table 5 has 301 entries, and table 6 the counts 1 and 300
unfoldable pub slow_closure : List ℕ
unfolding job_q openings
slow_closure =
    6 ∷ 0 ∷ 1 ∷ 0 ∷ 0 ∷ 0
    ∷ 54 ∷ 0 ∷ 0 ∷ 0 ∷ 12 ∷ 0 ∷ 0 ∷ 0
    ∷ 66 ∷ 0 ∷ 0 ∷ 0 ∷ 52 ∷ 0 ∷ 0 ∷ 0
    ∷ 118 ∷ 0 ∷ 0 ∷ 0 ∷ 16 ∷ 0 ∷ 0 ∷ 0
    ∷ 134 ∷ 0 ∷ 0 ∷ 0 ∷ 72 ∷ 0 ∷ 0 ∷ 0
    ∷ 206 ∷ 0 ∷ 0 ∷ 0 ∷ 104 ∷ 9 ∷ 0 ∷ 0
    ∷ 54 ∷ 10 ∷ 0 ∷ 0 ∷ 4 ∷ 0 ∷ 0 ∷ 0
    ∷ (take 160 (set (set tables_q 13 0) 39 0) ++ slow_schedule (1 ∷ 0 ∷ 44 ∷ 1 ∷ []))
