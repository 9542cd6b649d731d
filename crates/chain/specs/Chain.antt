-- Whether a job's layout is a chain (document 02, 4/12). Definitions only.
use Rattle.std.specs.Prelude.{Bool, true, false, cond, ◌&&◌, List, ℕ, ◌+◌, eqb, length, get_or, Float}
use Rattle.std.specs.Float.Ieee.{eq}
use Rattle.fields.specs.Real.{zero64}
use Rattle.loops.specs.Loops.{all_below}
use Rattle.job.specs.Job.{Pipe, Kind, junction, reservoir, valve, pump, ScheduledNode, Job, node_at}

-- ---- the pipes

unfoldable pub pipe_at : Job → ℕ → Pipe
pipe_at j i = get_or j.pipes i record { start = 0; finish = 0; reaches = 0; S = zero64 }

-- "pipe i from node i to node i + 1"
unfoldable pub pipe_fits : ℕ → Pipe → Bool
pipe_fits i p = eqb p.start i && eqb p.finish (i + 1)

-- ---- the nodes

unfoldable pub is_junction : Kind → Bool
is_junction junction = true
is_junction reservoir = false
is_junction (valve a b) = false
is_junction (pump a b c) = false

unfoldable pub is_reservoir : Kind → Bool
is_reservoir junction = false
is_reservoir reservoir = true
is_reservoir (valve a b) = false
is_reservoir (pump a b c) = false

unfoldable pub is_valve : Kind → Bool
is_valve junction = false
is_valve reservoir = false
is_valve (valve a b) = true
is_valve (pump a b c) = false

-- "scheduled values are all zero, of either sign": every entry, also one that no run comes to
unfoldable pub all_zero : List Float → Bool
all_zero vs = all_below (λ i. eq (get_or vs i zero64) zero64) (length vs)

-- "node 0 a reservoir, the last a valve, the others junctions whose scheduled values are all zero": node i of a chain whose last is `last`
unfoldable pub node_fits : ℕ → ℕ → ScheduledNode → Bool
node_fits last i n =
    cond (eqb i 0) (is_reservoir n.kind)
    (cond (eqb i last) (is_valve n.kind)
    (is_junction n.kind && all_zero n.schedule))

-- ---- "a chain": with n pipes it has the nodes 0 to n. A record without a pipe would need no valve; no accepted job is such.

unfoldable pub is_chain : Job → Bool
is_chain j =
    let last = length j.pipes in
    eqb (length j.nodes) (last + 1) && all_below (λ i. pipe_fits i (pipe_at j i)) last && all_below (λ i. node_fits last i (node_at j i)) (last + 1)
