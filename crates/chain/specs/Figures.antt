-- Figures of a chain, as statements about the definition; they are proved in proofs/ChainFigures.antt. Each way to be no chain has a job of its own, which is a
-- chain but for that, as far as it can be. Definitions only.
use Rattle.std.specs.Prelude.{◌≡◌, true, false, List, [], ◌∷◌, ℕ, Float}
use Rattle.std.specs.Float.Ieee.{neg}
use Rattle.wave.specs.Figures.{num, bits}
use Rattle.job.specs.Job.{Pipe, Kind, junction, reservoir, valve, pump, ScheduledNode, Job}
use Rattle.chain.specs.Chain.{is_chain}

-- ---- jobs, of which only the pipes' nodes, the kinds and the schedules matter

abbrev pub joining : ℕ → ℕ → Pipe
joining start finish = record { start = start; finish = finish; reaches = 2; S = num 1 }

abbrev pub node : Kind → List Float → ScheduledNode
node kind schedule = record { kind = kind; schedule = schedule }

abbrev pub job : List Pipe → List ScheduledNode → Job
job pipes nodes = record { pipes = pipes; nodes = nodes; friction = []; initial = []; trips = [] }

-- a reservoir, a valve and a pump; a junction by its draw-offs, and one that nothing is drawn from
abbrev pub a_reservoir : ScheduledNode
a_reservoir = node reservoir (num 10 ∷ [])

abbrev pub a_valve : ScheduledNode
a_valve = node (valve (num 2) (num 6)) (num 1 ∷ [])

abbrev pub a_pump : ScheduledNode
a_pump = node (pump (num 10) (num 1) (num 0)) (num 0 ∷ [])

abbrev pub drawing : List Float → ScheduledNode
drawing vs = node junction vs

abbrev pub still : ScheduledNode
still = drawing (num 0 ∷ [])

-- the pipes of a chain: one, two and three
abbrev pub one : List Pipe
one = joining 0 1 ∷ []

abbrev pub two : List Pipe
two = joining 0 1 ∷ joining 1 2 ∷ []

abbrev pub three : List Pipe
three = joining 0 1 ∷ joining 1 2 ∷ joining 2 3 ∷ []

-- the nodes of a chain of two pipes, and of three, by the draw-offs of their junctions
abbrev pub over : List Float → List ScheduledNode
over vs = a_reservoir ∷ drawing vs ∷ a_valve ∷ []

abbrev pub over_both : List Float → List Float → List ScheduledNode
over_both vs ws = a_reservoir ∷ drawing vs ∷ drawing ws ∷ a_valve ∷ []

infix 50 ◌isOne ◌isNoChain
abbrev pub ◌isOne : Job → Type 0
j isOne = is_chain j ≡ true

abbrev pub ◌isNoChain : Job → Type 0
j isNoChain = is_chain j ≡ false

-- ---- "a chain (pipe i from node i to node i + 1, node 0 a reservoir, the last a valve, the others junctions whose scheduled values are all zero, of
-- either sign)"

pub record ChainFigures : Type 0 where
  -- the shortest; a reservoir whose level falls below zero and a valve that is shut, then opened: what these two have scheduled is not asked
  pub shortest : job one (a_reservoir ∷ a_valve ∷ []) isOne
  pub any_level : job one (node reservoir (num 10 ∷ neg (num 3) ∷ []) ∷ node (valve (num 0) (neg (num 1))) (num 0 ∷ num 1 ∷ []) ∷ []) isOne
  -- zeros of either sign, in one schedule and in the next; -0 alone, first and last
  pub zeros : job three (over_both (num 0 ∷ neg (num 0) ∷ num 0 ∷ []) (neg (num 0) ∷ num 0 ∷ neg (num 0) ∷ [])) isOne
  pub minus_zero_figure : job two (over (neg (num 0) ∷ [])) isOne
  -- a pipe the other way round: the only one, the first, the last
  pub backward : job (joining 1 0 ∷ []) (a_reservoir ∷ a_valve ∷ []) isNoChain
  pub backward_first : job (joining 1 0 ∷ joining 1 2 ∷ []) (over (num 0 ∷ [])) isNoChain
  pub backward_last : job (joining 0 1 ∷ joining 2 1 ∷ []) (over (num 0 ∷ [])) isNoChain
  -- the pipes end to end in another order than the nodes; the nodes joined in another order than they stand
  pub pipes_exchanged : job (joining 1 2 ∷ joining 0 1 ∷ []) (over (num 0 ∷ [])) isNoChain
  pub nodes_exchanged : job (joining 0 2 ∷ joining 2 1 ∷ []) (over (num 0 ∷ [])) isNoChain
  -- a pipe that begins where it must and skips a node; one that ends where it must
  pub finish_skips : job (joining 0 2 ∷ joining 1 2 ∷ []) (over (num 0 ∷ [])) isNoChain
  pub start_skips : job (joining 0 1 ∷ joining 0 2 ∷ []) (over (num 0 ∷ [])) isNoChain
  -- a branch: pipe 2 alone begins at another node than its own
  pub branch : job (joining 0 1 ∷ joining 1 2 ∷ joining 1 3 ∷ []) (a_reservoir ∷ still ∷ still ∷ a_valve ∷ []) isNoChain
  -- a node too many, which no pipe meets
  pub node_too_many : job two (a_reservoir ∷ still ∷ a_valve ∷ a_valve ∷ []) isNoChain
  pub junction_too_many : job one (a_reservoir ∷ a_valve ∷ still ∷ []) isNoChain
  -- a node too few: two pipes side by side; the second pipe's finish not there
  pub side_by_side : job (joining 0 1 ∷ joining 0 1 ∷ []) (a_reservoir ∷ a_valve ∷ []) isNoChain
  pub node_too_few : job two (a_reservoir ∷ a_valve ∷ []) isNoChain
  -- node 0, with the draw-off and the last node as they must be
  pub first_junction : job two (still ∷ still ∷ a_valve ∷ []) isNoChain
  pub first_valve : job two (a_valve ∷ still ∷ a_valve ∷ []) isNoChain
  pub first_pump : job two (a_pump ∷ still ∷ a_valve ∷ []) isNoChain
  -- the last
  pub last_junction : job two (a_reservoir ∷ still ∷ still ∷ []) isNoChain
  pub last_reservoir : job two (a_reservoir ∷ still ∷ a_reservoir ∷ []) isNoChain
  pub last_pump : job two (a_reservoir ∷ still ∷ a_pump ∷ []) isNoChain
  -- the others, each with nothing but zeros scheduled: the only one, the second of two
  pub middle_reservoir : job two (a_reservoir ∷ node reservoir (num 0 ∷ []) ∷ a_valve ∷ []) isNoChain
  pub middle_valve : job two (a_reservoir ∷ node (valve (num 2) (num 6)) (num 0 ∷ []) ∷ a_valve ∷ []) isNoChain
  pub middle_pump : job two (a_reservoir ∷ a_pump ∷ a_valve ∷ []) isNoChain
  pub second_reservoir : job three (a_reservoir ∷ still ∷ node reservoir (num 0 ∷ []) ∷ a_valve ∷ []) isNoChain
  pub second_pump : job three (a_reservoir ∷ still ∷ a_pump ∷ a_valve ∷ []) isNoChain
  -- a draw-off as the only entry, the first, the middle, the last; an inflow; the least there is, of either sign; one at the second junction alone
  pub draws : job two (over (num 4 ∷ [])) isNoChain
  pub draws_first : job two (over (num 4 ∷ num 0 ∷ num 0 ∷ [])) isNoChain
  pub draws_middle : job two (over (num 0 ∷ num 4 ∷ num 0 ∷ [])) isNoChain
  pub draws_last : job two (over (num 0 ∷ neg (num 0) ∷ num 4 ∷ [])) isNoChain
  pub feeds : job two (over (neg (num 4) ∷ [])) isNoChain
  pub draws_least : job two (over (bits 1 ∷ [])) isNoChain
  pub feeds_least : job two (over (num 0 ∷ bits 0x8000_0000_0000_0001 ∷ [])) isNoChain
  pub second_draws : job three (over_both (num 0 ∷ []) (num 0 ∷ num 4 ∷ [])) isNoChain
  pub second_draws_first : job three (over_both (num 0 ∷ num 0 ∷ []) (num 4 ∷ num 0 ∷ [])) isNoChain
