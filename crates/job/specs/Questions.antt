-- "Questions 1 to 15 go to every call that takes a job", and questions 50 of request 3 and 53 of request 7 with them. Each is a number and a test of the bytes.
-- Definitions only.
use Rattle.std.specs.Prelude.{◌≡◌, Bool, cond, not, ◌&&◌, ◌||◌, List, [], ◌∷◌, ◌++◌, ℕ, zero, suc, ◌+◌, ◌*◌, ◌/◌, ◌%◌, length, leb, ltb, eqb, Float}
use Rattle.std.specs.Float.Ieee.{lt}
use Rattle.std.specs.Float.Ieee.Scale.{finite}
use Rattle.fields.specs.Real.{zero64, one64}
use Rattle.fields.specs.Bytes.{zero_bits_at}
use Rattle.loops.specs.Loops.{all_below}
use Rattle.job.specs.Job.{Pipe, Initial, Trip, sections_of}
use Rattle.job.specs.Format.{pair_count, listing_steps, least_pairs, most_pairs, pairs_end, offset_of, length_of, pipe_table, node_table, friction_table, initial_table, schedule_table, count_table, trip_table, pipe_count, pipe_in, pipes_in, reaches_of, node_count, kind_number, count_byte, a_of, b_of, c_of, r_in, section_in, is_empty, long_count, schedule_count, place_of, entry_in, trip_count, trip_in}

-- "not below zero", which -0 is
abbrev pub not_below_zero : Float → Bool
not_below_zero x = not (lt x zero64)

-- "finite and not below zero"
abbrev pub finite_not_below_zero : Float → Bool
finite_not_below_zero x = finite x && not_below_zero x

-- ---- the pairs

-- 1 "Has the job 46 to 32,768 bytes?"
unfoldable pub size_fits : List ℕ → Bool
size_fits job = leb (pairs_end least_pairs) (length job) && leb (length job) 32768

-- 2 "an admitted number of pairs, all inside the file"
unfoldable pub pairs_fit : List ℕ → Bool
pairs_fit job = leb least_pairs (pair_count job) && leb (pair_count job) most_pairs && leb (pairs_end (pair_count job)) (length job)

-- where table k must begin
abbrev pub begin_of : List ℕ → ℕ → ℕ
begin_of job zero = pairs_end (pair_count job)
begin_of job (suc k) = offset_of job k + length_of job k

-- 3 "Question 3 has the first table begin straight after the pairs and the last end with the file", "each next where the last ended"
unfoldable pub follows : List ℕ → ℕ → Bool
follows job k = eqb (offset_of job k) (begin_of job k)

unfoldable pub tables_follow : List ℕ → Bool
tables_follow job = all_below (follows job) (pair_count job) && eqb (begin_of job (pair_count job)) (length job)

-- 4 "Are the steps at most 1,000,000?"
unfoldable pub steps_fit : List ℕ → Bool
steps_fit job = leb (listing_steps job) 1000000

-- ---- pipes and nodes

-- 5 "Is table 1 whole, 1 to 32 pipes?", 6 "Is table 2 whole, 2 to 32 nodes?": a table of records, `width` bytes each, low to high of them and nothing else
unfoldable pub holds_records : ℕ → ℕ → ℕ → List ℕ → Bool
holds_records width low high t = eqb (length t % width) 0 && leb low (length t / width) && leb (length t / width) high

-- 7 "Has each pipe two different nodes, both present, and 1 to 511 reaches?"
unfoldable pub joins : ℕ → Pipe → Bool
joins count q =
    not (eqb q.start q.finish) && ltb q.start count && ltb q.finish count && leb 1 q.reaches && leb q.reaches 511

unfoldable pub pipes_join : List ℕ → ℕ → Bool
pipes_join pipes count = all_below (λ p. joins count (pipe_in pipes p)) (pipe_count pipes)

-- 8 "Are there at most 512 sections?"
unfoldable pub sections_fit : List ℕ → Bool
sections_fit pipes = leb (sections_of (pipes_in pipes)) 512

-- 9 "Is each S finite and above zero?"
unfoldable pub constant_fits : Pipe → Bool
constant_fits q = finite q.S && lt zero64 q.S

unfoldable pub constants_fit : List ℕ → Bool
constants_fit pipes = all_below (λ p. constant_fits (pipe_in pipes p)) (pipe_count pipes)

-- "the right length"
abbrev pub has_length : ℕ → List ℕ → Bool
has_length n t = eqb (length t) n

-- 10 "Is each kind 0 to 3 and each schedule count at least 1?" and "where table 6 is not empty, question 10 asks for the kind only"
unfoldable pub kind_fits : List ℕ → List ℕ → ℕ → Bool
kind_fits nodes counts node = leb (kind_number nodes node) 3 && (not (is_empty counts) || leb 1 (count_byte nodes node))

unfoldable pub kinds_fit : List ℕ → List ℕ → Bool
kinds_fit nodes counts = all_below (kind_fits nodes counts) (node_count nodes)

-- 50 "if table 6 is neither empty nor two bytes per node, a count in it is zero, or a byte it replaces is not"
unfoldable pub count_fits : List ℕ → List ℕ → ℕ → Bool
count_fits nodes counts node = leb 1 (long_count counts node) && eqb (count_byte nodes node) 0

unfoldable pub each_count_fits : List ℕ → List ℕ → Bool
each_count_fits nodes counts = all_below (count_fits nodes counts) (node_count nodes)

unfoldable pub counts_fit : List ℕ → List ℕ → Bool
counts_fit nodes counts = is_empty counts || has_length (node_count nodes * 2) counts && each_count_fits nodes counts

-- 53 "if table 7 is not whole, a node isn't a pump or stands in two records, or a constant isn't finite or is below zero"
unfoldable pub is_pump : List ℕ → ℕ → Bool
is_pump nodes node = ltb node (node_count nodes) && eqb (kind_number nodes node) 3

-- no record before record i names its node
unfoldable pub first_of_node : List ℕ → ℕ → Bool
first_of_node trips i = all_below (λ k. not (eqb (trip_in trips k).node (trip_in trips i).node)) i

unfoldable pub rundown_fits : Trip → Bool
rundown_fits t = finite_not_below_zero t.G && finite_not_below_zero t.t0 && finite_not_below_zero t.t1

unfoldable pub trip_fits : List ℕ → List ℕ → ℕ → Bool
trip_fits nodes trips i = is_pump nodes (trip_in trips i).node && first_of_node trips i && rundown_fits (trip_in trips i)

unfoldable pub trips_fit : List ℕ → List ℕ → Bool
trips_fit nodes trips = eqb (length trips % 30) 0 && all_below (trip_fits nodes trips) (trip_count trips)

-- 11 "Are a, b, c finite, valve a and pump a, b not below zero, fields the kind doesn't name all zero bits?"
unfoldable pub all_finite : List ℕ → ℕ → Bool
all_finite nodes node = finite (a_of nodes node) && finite (b_of nodes node) && finite (c_of nodes node)

abbrev pub zero_a : List ℕ → ℕ → Bool
zero_a nodes node = zero_bits_at nodes (node * 26 + 2)

abbrev pub zero_b : List ℕ → ℕ → Bool
zero_b nodes node = zero_bits_at nodes (node * 26 + 10)

abbrev pub zero_c : List ℕ → ℕ → Bool
zero_c nodes node = zero_bits_at nodes (node * 26 + 18)

unfoldable pub has_no_figures : List ℕ → ℕ → Bool
has_no_figures nodes node = zero_a nodes node && zero_b nodes node && zero_c nodes node

unfoldable pub valve_fits : List ℕ → ℕ → Bool
valve_fits nodes node = not_below_zero (a_of nodes node) && zero_c nodes node

unfoldable pub pump_fits : List ℕ → ℕ → Bool
pump_fits nodes node = not_below_zero (a_of nodes node) && not_below_zero (b_of nodes node)

unfoldable pub figures_fit_kind : List ℕ → ℕ → Bool
figures_fit_kind nodes node =
    cond (eqb (kind_number nodes node) 2) (valve_fits nodes node) (cond (eqb (kind_number nodes node) 3) (pump_fits nodes node) (has_no_figures nodes node))

unfoldable pub figure_fits : List ℕ → ℕ → Bool
figure_fits nodes node = all_finite nodes node && figures_fit_kind nodes node

unfoldable pub figures_fit : List ℕ → Bool
figures_fit nodes = all_below (figure_fits nodes) (node_count nodes)

-- 12 "Has each node a pipe end?" Not every pipe has none there.
unfoldable pub ends_at : ℕ → Pipe → Bool
ends_at node q = eqb q.start node || eqb q.finish node

unfoldable pub has_end : List ℕ → ℕ → Bool
has_end pipes node = not (all_below (λ p. not (ends_at node (pipe_in pipes p))) (pipe_count pipes))

unfoldable pub nodes_met : List ℕ → ℕ → Bool
nodes_met pipes count = all_below (has_end pipes) count

-- ---- values

-- 13 "Has table 3 the right length, each R finite and not below zero?"
unfoldable pub r_fits : List ℕ → ℕ → Bool
r_fits friction r = finite_not_below_zero (r_in friction r)

unfoldable pub friction_fits : List ℕ → Bool
friction_fits friction = all_below (r_fits friction) (length friction / 8)

unfoldable pub friction_right : List ℕ → List ℕ → Bool
friction_right pipes friction = has_length (reaches_of (pipes_in pipes) * 8) friction && friction_fits friction

-- 14 "Has table 4 the right length, all finite, no head below its floor?"
unfoldable pub finite_section : Initial → Bool
finite_section i = finite i.head && finite i.flow && finite i.floor

unfoldable pub section_fits : Initial → Bool
section_fits i = finite_section i && not (lt i.head i.floor)

unfoldable pub initial_fits : List ℕ → Bool
initial_fits initial = all_below (λ s. section_fits (section_in initial s)) (length initial / 24)

unfoldable pub initial_right : List ℕ → List ℕ → Bool
initial_right pipes initial = has_length (sections_of (pipes_in pipes) * 24) initial && initial_fits initial

-- 15 "Has table 5 the right length, all finite and in its kind's range?" A junction's draw-off and a reservoir's head are "any finite number", a valve's opening and a pump's speed "from 0 to 1".
unfoldable pub entry_fits : ℕ → Float → Bool
entry_fits kind v = finite v && (ltb kind 2 || not_below_zero v && not (lt one64 v))

unfoldable pub schedule_fits : List ℕ → List ℕ → List ℕ → ℕ → Bool
schedule_fits nodes counts schedules node =
    all_below (λ i. entry_fits (kind_number nodes node) (entry_in schedules (place_of nodes counts node + i))) (schedule_count nodes counts node)

unfoldable pub schedules_fit : List ℕ → List ℕ → List ℕ → Bool
schedules_fit nodes counts schedules = all_below (schedule_fits nodes counts schedules) (node_count nodes)

unfoldable pub schedules_right : List ℕ → List ℕ → List ℕ → Bool
schedules_right nodes counts schedules = has_length (place_of nodes counts (node_count nodes) * 8) schedules && schedules_fit nodes counts schedules

-- ---- the table of questions

abbrev pub Question : Type 0
Question = ℕ × (List ℕ → Bool)

unfoldable pub pair_questions : List Question
pair_questions =
    (1, size_fits)
    ∷ (2, pairs_fit)
    ∷ (3, tables_follow)
    ∷ (4, steps_fit)
    ∷ []

unfoldable pub pipe_questions : List Question
pipe_questions =
    (5, λ job. holds_records 12 1 32 (pipe_table job))
    ∷ (6, λ job. holds_records 26 2 32 (node_table job))
    ∷ (7, λ job. pipes_join (pipe_table job) (node_count (node_table job)))
    ∷ (8, λ job. sections_fit (pipe_table job))
    ∷ (9, λ job. constants_fit (pipe_table job))
    ∷ []

unfoldable pub node_questions : List Question
node_questions =
    (10, λ job. kinds_fit (node_table job) (count_table job))
    ∷ (50, λ job. counts_fit (node_table job) (count_table job))
    ∷ (53, λ job. trips_fit (node_table job) (trip_table job))
    ∷ (11, λ job. figures_fit (node_table job))
    ∷ (12, λ job. nodes_met (pipe_table job) (node_count (node_table job)))
    ∷ []

unfoldable pub value_questions : List Question
value_questions =
    (13, λ job. friction_right (pipe_table job) (friction_table job))
    ∷ (14, λ job. initial_right (pipe_table job) (initial_table job))
    ∷ (15, λ job. schedules_right (node_table job) (count_table job) (schedule_table job))
    ∷ []

unfoldable pub questions : List Question
questions = pair_questions ++ pipe_questions ++ node_questions ++ value_questions

-- "The first no decides": its number, and 0 where every answer is yes
unfoldable pub first_no : List Question → List ℕ → ℕ
first_no [] job = 0
first_no (q ∷ qs) job = cond (q.1 job) (first_no qs job) q.0

unfoldable pub refusal : List ℕ → ℕ
refusal job = first_no questions job

abbrev pub Accepted : List ℕ → Type 0
Accepted job = refusal job ≡ 0
