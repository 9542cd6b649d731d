-- The format of a job: the pairs, the tables, and the record that the bytes are read into. Past its end a list of bytes reads as 0. Definitions only.
use Rattle.std.specs.Prelude.{Bool, cond, List, [], ◌∷◌, ℕ, zero, suc, ◌+◌, ◌*◌, ◌/◌, length, take, drop, ltb, eqb, Float}
use Rattle.fields.specs.Bytes.{u8_at, u16_at, u32_at, f64_at}
use Rattle.job.specs.Job.{Pipe, Kind, junction, reservoir, valve, pump, ScheduledNode, Initial, Trip, Job}
use Rattle.loops.specs.Loops.{listed}

-- ---- "u16 count of pairs, u32 steps for the listing, then pairs (u32 offset, u32 length), sorted by offset"

abbrev pub pair_count : List ℕ → ℕ
pair_count job = u16_at job 0

abbrev pub listing_steps : List ℕ → ℕ
listing_steps job = u32_at job 2

-- the least and the greatest number of pairs that a job may have. Request 3: "A job may have six pairs." Request 7: "A job may have seven pairs."
abbrev pub least_pairs : ℕ
least_pairs = 5

abbrev pub most_pairs : ℕ
most_pairs = 7

-- where n pairs end: at 46 where there are five, at 54 where there are six, at 62 where there are seven. The pair after them begins there.
abbrev pub pairs_end : ℕ → ℕ
pairs_end n = n * 8 + 6

abbrev pub offset_of : List ℕ → ℕ → ℕ
offset_of job k = u32_at job (pairs_end k)

abbrev pub length_of : List ℕ → ℕ → ℕ
length_of job k = u32_at job (pairs_end k + 4)

-- "each table is read as its own part of the file": the table of pair k, counted from 0; empty where there is no such pair
unfoldable pub table : List ℕ → ℕ → List ℕ
table job k = cond (ltb k (pair_count job)) (take (length_of job k) (drop (offset_of job k) job)) []

-- tables 1 to 7
abbrev pub pipe_table : List ℕ → List ℕ
pipe_table job = table job 0

abbrev pub node_table : List ℕ → List ℕ
node_table job = table job 1

abbrev pub friction_table : List ℕ → List ℕ
friction_table job = table job 2

abbrev pub initial_table : List ℕ → List ℕ
initial_table job = table job 3

abbrev pub schedule_table : List ℕ → List ℕ
schedule_table job = table job 4

abbrev pub count_table : List ℕ → List ℕ
count_table job = table job 5

abbrev pub trip_table : List ℕ → List ℕ
trip_table job = table job 6

-- ---- "1. Pipes, 12 bytes: u8 start node, u8 finish node, u16 reaches, f64 S."

abbrev pub pipe_count : List ℕ → ℕ
pipe_count pipes = length pipes / 12

abbrev pub pipe_in : List ℕ → ℕ → Pipe
pipe_in pipes p =
    record { start = u8_at pipes (p * 12); finish = u8_at pipes (p * 12 + 1); reaches = u16_at pipes (p * 12 + 2); S = f64_at pipes (p * 12 + 4) }

unfoldable pub pipes_in : List ℕ → List Pipe
pipes_in pipes = listed (pipe_count pipes) (pipe_in pipes)

-- the number of reaches in all
unfoldable pub reaches_of : List Pipe → ℕ
reaches_of [] = 0
reaches_of (q ∷ qs) = q.reaches + reaches_of qs

-- ---- "2. Nodes, 26 bytes: u8 kind, u8 schedule count, f64 a, b, c."

abbrev pub node_count : List ℕ → ℕ
node_count nodes = length nodes / 26

abbrev pub kind_number : List ℕ → ℕ → ℕ
kind_number nodes node = u8_at nodes (node * 26)

abbrev pub count_byte : List ℕ → ℕ → ℕ
count_byte nodes node = u8_at nodes (node * 26 + 1)

-- the figures a, b, c of a node
abbrev pub a_of : List ℕ → ℕ → Float
a_of nodes node = f64_at nodes (node * 26 + 2)

abbrev pub b_of : List ℕ → ℕ → Float
b_of nodes node = f64_at nodes (node * 26 + 10)

abbrev pub c_of : List ℕ → ℕ → Float
c_of nodes node = f64_at nodes (node * 26 + 18)

-- "0, junction", "1, reservoir", "2, valve", "3, pump"
unfoldable pub kind_in : List ℕ → ℕ → Kind
kind_in nodes node =
    cond (eqb (kind_number nodes node) 0) junction
    (cond (eqb (kind_number nodes node) 1) reservoir
    (cond (eqb (kind_number nodes node) 2) (valve (a_of nodes node) (b_of nodes node))
    (pump (a_of nodes node) (b_of nodes node) (c_of nodes node))))

-- ---- "3. One f64 R per reach, pipe by pipe."

abbrev pub r_in : List ℕ → ℕ → Float
r_in friction r = f64_at friction (r * 8)

unfoldable pub friction_in : List ℕ → List Float
friction_in friction = listed (length friction / 8) (r_in friction)

-- ---- "4. Per section, numbered through all pipes from 0: f64 head, flow, floor head."

abbrev pub section_in : List ℕ → ℕ → Initial
section_in initial s =
    record { head = f64_at initial (s * 24); flow = f64_at initial (s * 24 + 8); floor = f64_at initial (s * 24 + 16) }

unfoldable pub initial_in : List ℕ → List Initial
initial_in initial = listed (length initial / 24) (section_in initial)

-- ---- request 3: "table 6 holds a u16 schedule count per node, and the byte in each node record is then zero. An empty table 6 means the bytes count as before."

abbrev pub is_empty : List ℕ → Bool
is_empty t = eqb (length t) 0

abbrev pub long_count : List ℕ → ℕ → ℕ
long_count counts node = u16_at counts (node * 2)

-- the number of entries in a node's schedule
unfoldable pub schedule_count : List ℕ → List ℕ → ℕ → ℕ
schedule_count nodes counts node = cond (is_empty counts) (count_byte nodes node) (long_count counts node)

-- ---- "5. f64 schedules, in node order, end to end."

-- the place of a node's schedule, in entries: the sum of the counts before it
unfoldable pub place_of : List ℕ → List ℕ → ℕ → ℕ
place_of nodes counts zero = 0
place_of nodes counts (suc node) = place_of nodes counts node + schedule_count nodes counts node

abbrev pub entry_in : List ℕ → ℕ → Float
entry_in schedules i = f64_at schedules (i * 8)

-- so many entries, from a place on
abbrev pub entries_from : List ℕ → ℕ → ℕ → List Float
entries_from schedules place count = listed count (λ i. entry_in schedules (place + i))

-- a node's schedule: as many entries as its count says, from its place on
abbrev pub schedule_in : List ℕ → List ℕ → List ℕ → ℕ → List Float
schedule_in nodes counts schedules node = entries_from schedules (place_of nodes counts node) (schedule_count nodes counts node)

unfoldable pub node_in : List ℕ → List ℕ → List ℕ → ℕ → ScheduledNode
node_in nodes counts schedules node = record { kind = kind_in nodes node; schedule = schedule_in nodes counts schedules node }

unfoldable pub nodes_in : List ℕ → List ℕ → List ℕ → List ScheduledNode
nodes_in nodes counts schedules = listed (node_count nodes) (node_in nodes counts schedules)

-- ---- request 7: "Table 7, 30 bytes a record, names a pump: u16 node, u32 trip step, f64 G, t0, t1."

abbrev pub trip_count : List ℕ → ℕ
trip_count trips = length trips / 30

abbrev pub trip_in : List ℕ → ℕ → Trip
trip_in trips i = record {
  node = u16_at trips (i * 30);
  step = u32_at trips (i * 30 + 2);
  G = f64_at trips (i * 30 + 6);
  t0 = f64_at trips (i * 30 + 14);
  t1 = f64_at trips (i * 30 + 22);
}

unfoldable pub trips_in : List ℕ → List Trip
trips_in trips = listed (trip_count trips) (trip_in trips)

-- ---- the job that the bytes hold

unfoldable pub job_of : List ℕ → Job
job_of job =
    record {
      pipes = pipes_in (pipe_table job);
      nodes = nodes_in (node_table job) (count_table job) (schedule_table job);
      friction = friction_in (friction_table job);
      initial = initial_in (initial_table job);
      trips = trips_in (trip_table job);
    }
