-- A job as it is run, whatever bytes it came from. Definitions only.
use Rattle.std.specs.Prelude.{List, [], ◌∷◌, ℕ, suc, ◌+◌, ◌-◌, min, length, get_or, Float}
use Rattle.fields.specs.Real.{zero64}
use Rattle.wave.specs.declared.Node as Wave
use Rattle.wave.specs.declared.Node.TheVariants.{Junction, Reservoir, Valve, Pump}

-- A pipe: its start node, its finish node, its number of reaches, and S.
pub record Pipe : Type 0 where
  pub start : ℕ
  pub finish : ℕ
  pub reaches : ℕ
  pub S : Float

-- "Each node is one of four kinds, carrying its own figures": valve a, b; pump a, b, c.
pub data Kind : Type 0 where
  junction : Kind
  reservoir : Kind
  valve : Float → Float → Kind
  pump : Float → Float → Float → Kind

pub record ScheduledNode : Type 0 where
  pub kind : Kind
  pub schedule : List Float

-- What table 4 gives for a section.
pub record Initial : Type 0 where
  pub head : Float
  pub flow : Float
  pub floor : Float

-- What table 7 gives for a pump: "u16 node, u32 trip step, f64 G, t0, t1, the three constants of its rundown".
pub record Trip : Type 0 where
  pub node : ℕ
  pub step : ℕ
  pub G : Float
  pub t0 : Float
  pub t1 : Float

-- friction: R of each reach, pipe by pipe; initial: of each section, numbered through all pipes from 0; trips: of each pump that fails
pub record Job : Type 0 where
  pub pipes : List Pipe
  pub nodes : List ScheduledNode
  pub friction : List Float
  pub initial : List Initial
  pub trips : List Trip

-- ---- the layout: each pipe with the numbers of its first section and of its first reach, counted through all pipes

pub record Laid : Type 0 where
  pub pipe : Pipe
  pub first_section : ℕ
  pub first_reach : ℕ

-- A pipe of n reaches has n + 1 sections.
unfoldable pub laid_from : ℕ → ℕ → List Pipe → List Laid
laid_from section reach [] = []
laid_from section reach (p ∷ ps) =
    record { pipe = p; first_section = section; first_reach = reach } ∷ laid_from (section + suc p.reaches) (reach + p.reaches) ps

unfoldable pub laid : Job → List Laid
laid j = laid_from 0 0 j.pipes

unfoldable pub sections_of : List Pipe → ℕ
sections_of [] = 0
sections_of (p ∷ ps) = suc p.reaches + sections_of ps

-- the section count
unfoldable pub sections : Job → ℕ
sections j = sections_of j.pipes

-- ---- what a step reads

-- R of a reach
unfoldable pub friction_at : Job → ℕ → Float
friction_at j r = get_or j.friction r zero64

unfoldable pub node_at : Job → ℕ → ScheduledNode
node_at j node = get_or j.nodes node record { kind = junction; schedule = [] }

unfoldable pub initial_at : Job → ℕ → Initial
initial_at j s = get_or j.initial s record { head = zero64; flow = zero64; floor = zero64 }

-- the floor head of a section
unfoldable pub floor_at : Job → ℕ → Float
floor_at j s = (initial_at j s).floor

-- "A node reads entry n of its schedule at step n, counted from 1, and its last entry afterwards."
unfoldable pub entry_at : List Float → ℕ → Float
entry_at vs n = get_or vs (min n (length vs) - 1) zero64

-- v of a node at step n
unfoldable pub scheduled : Job → ℕ → ℕ → Float
scheduled j n node = entry_at (node_at j node).schedule n

-- a kind with its scheduled value v: the node as the solver takes it
unfoldable pub with_value : Kind → Float → Wave.Node
with_value junction v = Junction v
with_value reservoir v = Reservoir v
with_value (valve a b) v = Valve v a b
with_value (pump a b c) v = Pump v a b c
