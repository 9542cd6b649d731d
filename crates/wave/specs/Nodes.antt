-- The nodes: a valve's and a pump's flow, and the head of a node of each kind. Definitions only.
-- Document 01, 'Nodes', with document 02, 1/12, for the valve: v is the node's scheduled value at the step, B and T are its sums.
use Rattle.std.specs.Prelude.{not, ◌&&◌, ◌||◌, cond, Option, Some, None, Float}
use Rattle.std.specs.Float.Ieee.{lt, eq}
use Rattle.std.specs.Float.Ieee.Scale.{finite}
use Rattle.fields.specs.Real.{◌⊞◌, ◌⊟◌, ◌⊠◌, ◌⊘◌, zero64, one64, four64, infinity64}
use Rattle.root.specs.Root.{root_of}
use Rattle.wave.specs.declared.Sums.{Sums}
use Rattle.wave.specs.declared.Node.{Node}
use Rattle.wave.specs.declared.Node.TheVariants.{Junction, Reservoir, Valve, Pump}

-- q, where the argument g of the root that it takes is finite; else there is none
unfoldable pub rooted : Float → Float → Option Float
rooted g q = cond (finite g) (Some q) None

-- ---- kind 2, "valve into a tank of head b, full-open coefficient a, opening v"; by document 02, 1/12, it ends in open air, which "gives nothing back"

-- w. "w = ((v·a)·(v·a))/T"
unfoldable pub valve_w : Float → Float → Float → Float
valve_w v a T = ((v ⊠ a) ⊠ (v ⊠ a)) ⊘ T

-- y. "y = B - T·b"
unfoldable pub valve_y : Float → Float → Float → Float
valve_y b B T = B ⊟ T ⊠ b

-- "r = root(w·w + 4·(w·z))": the argument of the root
unfoldable pub orifice_argument : Float → Float → Float
orifice_argument w z = w ⊠ w ⊞ four64 ⊠ (w ⊠ z)

-- "q = ((z + z)·w)/(w + r)"
unfoldable pub orifice_rate : Float → Float → Float
orifice_rate w z = ((z ⊞ z) ⊠ w) ⊘ (w ⊞ root_of (orifice_argument w z))

-- q, from w and y. Document 02, 1/12: "y not above zero now gives q = 0"; document 01: "Where w is zero, q = 0. Otherwise z = |y|", which is y itself
-- where y is above zero.
unfoldable pub orifice_flow : Float → Float → Option Float
orifice_flow w y = cond (not (lt zero64 y) || eq w zero64) (Some zero64) (rooted (orifice_argument w y) (orifice_rate w y))

unfoldable pub valve_flow : Float → Float → Float → Sums → Option Float
valve_flow v a b s = orifice_flow (valve_w v a s.t) (valve_y b s.b s.t)

-- ---- kind 3, "pump with a non-return valve: shut-off head a, coefficient b, sump head c, speed v"

-- h. "h = c + (v·v)·a"
unfoldable pub pump_h : Float → Float → Float → Float
pump_h v a c = c ⊞ (v ⊠ v) ⊠ a

-- y. "y = T·h - B"
unfoldable pub pump_y : Float → Float → Float → Float
pump_y h B T = T ⊠ h ⊟ B

-- "root(1 + 4·((b·T)·y))": the argument of the root
unfoldable pub pump_argument : Float → Float → Float → Float
pump_argument b T y = one64 ⊞ four64 ⊠ ((b ⊠ T) ⊠ y)

-- q, from y. "Where y > 0, q = (y + y)/(1 + root(1 + 4·((b·T)·y))), else q = 0."
unfoldable pub lift_flow : Float → Float → Float → Option Float
lift_flow b T y =
    let g = pump_argument b T y in
    cond (lt zero64 y) (rooted g ((y ⊞ y) ⊘ (one64 ⊞ root_of g))) (Some zero64)

unfoldable pub pump_flow : Float → Float → Float → Float → Sums → Option Float
pump_flow v a b c s = lift_flow b s.t (pump_y (pump_h v a c) s.b s.t)

-- ---- the head

-- "H = (B - q)/T" of a valve, which is B/T where q is +0, and "H = (B + q)/T" of a pump; "where .. the argument of a root that is taken is not finite,
-- H is plus infinity"
unfoldable pub head_less : Option Float → Sums → Float
head_less (Some q) s = (s.b ⊟ q) ⊘ s.t
head_less None s = infinity64

unfoldable pub head_more : Option Float → Sums → Float
head_more (Some q) s = (s.b ⊞ q) ⊘ s.t
head_more None s = infinity64

-- "Where B, T .. is not finite, H is plus infinity."
unfoldable pub judged : Sums → Float → Float
judged s H = cond (finite s.b && finite s.t) H infinity64

-- H, judged for every kind. "Junction: H = (B - v)/T", "reservoir: H = v", the valve and the pump as above.
unfoldable pub node_head : Node → Sums → Float
node_head (Junction v) s = judged s ((s.b ⊟ v) ⊘ s.t)
node_head (Reservoir v) s = judged s v
node_head (Valve v a b) s = judged s (head_less (valve_flow v a b s) s)
node_head (Pump v a b c) s = judged s (head_more (pump_flow v a b c s) s)

-- ---- document 02, 7/12: the pump inflow, and the speed after a power failure

-- q of a pump. Where the root's argument is not finite there is none, and plus infinity stands for it, as for the head: the step stops there by either.
unfoldable pub inflow_of : Option Float → Float
inflow_of (Some q) = q
inflow_of None = infinity64

-- of a node of another kind +0
unfoldable pub node_inflow : Node → Sums → Float
node_inflow (Junction v) s = zero64
node_inflow (Reservoir v) s = zero64
node_inflow (Valve v a b) s = zero64
node_inflow (Pump v a b c) s = inflow_of (pump_flow v a b c s)

-- "From the trip step on, speed is the old speed less G·((t0·α)·α + (t1·α)·q), or +0 where that is below zero", which neither -0 nor a NaN is. α and q are
-- the old speed and the old inflow.
unfoldable pub rundown : Float → Float → Float → Float → Float → Float
rundown G t0 t1 α q =
    let speed = α ⊟ G ⊠ ((t0 ⊠ α) ⊠ α ⊞ (t1 ⊠ α) ⊠ q) in
    cond (lt speed zero64) zero64 speed
