-- What the spare holds during a step: four numbers a pipe, the new head and flow at its start and those at its finish. Inner definitions: no public
-- call cites them.
use Rattle.std.specs.Prelude.{◌≡◌, List, ℕ, ◌+◌, ◌*◌, ◌<◌, get_or, set, Float}
use Rattle.std.specs.Float.{nan}
use Rattle.wave.specs.declared.HeadFlow.{HeadFlow}
use Rattle.wave.specs.declared.Node.{Node}
use Rattle.wave.specs.Wave.{start_end, finish_end}
use Rattle.job.specs.Job.{Laid, laid}
use Rattle.job.specs.Format.{job_of, pipe_table, pipe_count}
use Rattle.recurrence.specs.Step.{k_at_start, k_at_finish, at_start, at_finish}
use Rattle.pipe_layout.specs.Layout.{LaidAt}
use Rattle.node_sums.specs.FromRows.{along_rows}

-- the head and flow that stand at a place
abbrev pub end_in : List Float → ℕ → HeadFlow
end_in spare at = record { head = get_or spare at nan; flow = get_or spare (at + 1) nan }

-- both ends of a pipe, stored from a place on
abbrev pub with_ends : List Float → ℕ → HeadFlow → HeadFlow → List Float
with_ends spare at start finish =
    set (set (set (set spare at start.head) (at + 1) start.flow) (at + 2) finish.head) (at + 3) finish.flow

-- a fact of each of the first m laid pipes
abbrev pub EachPipe : List ℕ → ℕ → (ℕ → Laid → Type 0) → Type 0
EachPipe job m fact = (p : ℕ) → p < m → (l : Laid) → LaidAt job p l → fact p l

-- first K of both ends of each of the first m pipes, where the flows will be
pub record KTo (job : List ℕ) (heads flows spare : List Float) (m : ℕ) : Type 0 where
  pub at_the_start : EachPipe job m (λ p l. get_or spare (p * 4 + 1) nan ≡ k_at_start (along_rows job heads flows) l)
  pub at_the_finish : EachPipe job m (λ p l. get_or spare (p * 4 + 3) nan ≡ k_at_finish (along_rows job heads flows) l)

abbrev pub KIn : List ℕ → List Float → List Float → List Float → Type 0
KIn job heads flows spare = KTo job heads flows spare (pipe_count (pipe_table job))

-- the new head and flow at the ends of pipe p, which is l, from K in the spare and the heads of the nodes
abbrev pub start_by : List Float → List Float → ℕ → Laid → HeadFlow
start_by nodes spare p l = start_end l.pipe.S (get_or spare (p * 4 + 1) nan) (get_or nodes l.pipe.start nan)

abbrev pub finish_by : List Float → List Float → ℕ → Laid → HeadFlow
finish_by nodes spare p l = finish_end l.pipe.S (get_or spare (p * 4 + 3) nan) (get_or nodes l.pipe.finish nan)

-- the spare after those of the first m pipes are stored
pub record EndsByKTo (job : List ℕ) (nodes before after : List Float) (m : ℕ) : Type 0 where
  pub at_the_start : EachPipe job m (λ p l. end_in after (p * 4) ≡ start_by nodes before p l)
  pub at_the_finish : EachPipe job m (λ p l. end_in after (p * 4 + 2) ≡ finish_by nodes before p l)

abbrev pub EndsByK : List ℕ → List Float → List Float → List Float → Type 0
EndsByK job nodes before after = EndsByKTo job nodes before after (pipe_count (pipe_table job))

-- the new head and flow at the ends of every pipe, by the nodes
pub record EndsIn (job : List ℕ) (nodes : ℕ → Node) (heads flows spare : List Float) : Type 0 where
  pub at_the_start : (p : ℕ) (l : Laid) → LaidAt job p l
      → end_in spare (p * 4) ≡ at_start (laid (job_of job)) (along_rows job heads flows) nodes l
  pub at_the_finish : (p : ℕ) (l : Laid) → LaidAt job p l
      → end_in spare (p * 4 + 2) ≡ at_finish (laid (job_of job)) (along_rows job heads flows) nodes l
