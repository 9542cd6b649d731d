-- Document 02, 1/12, of kind 2: "y not above zero now gives q = 0 and H = B/T", and a ditch "gives nothing back". Statements about the definitions; they are
-- proved in proofs/OpenAir.antt.
use Rattle.std.specs.Prelude.{◌≡◌, true, false, List, [], ◌∷◌, Some, Float}
use Rattle.std.specs.Float.Ieee.{lt}
use Rattle.fields.specs.Real.{◌⊘◌, zero64}
use Rattle.wave.specs.declared.Sums.{Sums}
use Rattle.wave.specs.declared.Node.TheVariants.{Valve}
use Rattle.wave.specs.Wave.{sums_of}
use Rattle.wave.specs.Nodes.{valve_y, valve_flow, judged, node_head}

-- "y not above zero", of a valve into the head b at a node with the sums s
abbrev pub NotAbove : Float → Sums → Type 0
NotAbove b s = lt zero64 (valve_y b s.b s.t) ≡ false

-- "each S .. above zero" (question 9), of the ends at a node
abbrev pub EachAbove : List Float → Type 0
EachAbove [] = Unit {0}
EachAbove (S ∷ Ss) = (lt zero64 S ≡ true) × EachAbove Ss

pub record OpenAir : Type 0 where
  -- "q = 0", which is +0
  pub q_zero : (v a b : Float) (s : Sums) → NotAbove b s → valve_flow v a b s ≡ Some zero64
  -- "H = B/T", of the sums of any ends: (B - q)/T with q = +0, where B - q is B
  pub h_quotient : (v a b : Float) (Ks Ss : List Float) → let s : Sums = sums_of Ks Ss in NotAbove b s → node_head (Valve v a b) s ≡ judged s (s.b ⊘ s.t)
  -- "gives nothing back": where each S is above zero, q is not below zero
  pub never_back : (v a b q : Float) (Ks Ss : List Float) → EachAbove Ss → valve_flow v a b (sums_of Ks Ss) ≡ Some q → lt q zero64 ≡ false
