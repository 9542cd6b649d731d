-- The wave equations along a reach and at a pipe's ends. Definitions only.
-- Document 01, 'The wave equations': H is head, Q flow, S a pipe's constant, R a reach's friction.
use Rattle.std.specs.Prelude.{cond, List, [], ◌∷◌, Float}
use Rattle.std.specs.Float.Ieee.{neg, lt}
use Rattle.fields.specs.Real.{◌⊞◌, ◌⊟◌, ◌⊠◌, ◌⊘◌, zero64, two64}
use Rattle.wave.specs.declared.Sums.{Sums}
use Rattle.wave.specs.declared.HeadFlow.{HeadFlow}

-- "|Q| is -Q where Q < 0, else Q"
unfoldable pub magnitude : Float → Float
magnitude Q = cond (lt Q zero64) (neg Q) Q

-- CP. "From the section above: CP = (Q + S·H) - (R·Q)·|Q|." Q and H are the neighbour's old values, R belongs to the reach between.
unfoldable pub from_above : Float → Float → Float → Float → Float
from_above S R H Q = (Q ⊞ S ⊠ H) ⊟ (R ⊠ Q) ⊠ magnitude Q

-- CM. "From the section below: CM = (Q - S·H) - (R·Q)·|Q|."
unfoldable pub from_below : Float → Float → Float → Float → Float
from_below S R H Q = (Q ⊟ S ⊠ H) ⊟ (R ⊠ Q) ⊠ magnitude Q

-- "Inner section: H = (CP - CM)/(S + S), Q = (CP + CM)/2."
unfoldable pub inner : Float → Float → Float → HeadFlow
inner S CP CM = record { head = (CP ⊟ CM) ⊘ (S ⊞ S); flow = (CP ⊞ CM) ⊘ two64 }

-- ---- the ends of a pipe: "from its start node (section 0, which has CM) to its finish node (section n after n reaches, which has CP)"

-- K. "K is CP at a finish end, -CM at a start end."
unfoldable pub finish_k : Float → Float → Float → Float → Float
finish_k S R H Q = from_above S R H Q

unfoldable pub start_k : Float → Float → Float → Float → Float
start_k S R H Q = neg (from_below S R H Q)

-- "The end flow is K - S·H at a finish, S·H - K at a start"; H is the node's head.
unfoldable pub finish_end : Float → Float → Float → HeadFlow
finish_end S K H = record { head = H; flow = K ⊟ S ⊠ H }

unfoldable pub start_end : Float → Float → Float → HeadFlow
start_end S K H = record { head = H; flow = S ⊠ H ⊟ K }

-- ---- a node's sums: "B is the sum of K and T the sum of S over its pipe ends, added to +0 in rising pipe number"

-- the numbers of a list added to x, one by one from the first
unfoldable pub sum_from : Float → List Float → Float
sum_from x [] = x
sum_from x (y ∷ ys) = sum_from (x ⊞ y) ys

-- B and T of a node, from the K and the S of its ends in rising pipe number: each sum is worked out by itself
unfoldable pub sums_of : List Float → List Float → Sums
sums_of Ks Ss = record { b = sum_from zero64 Ks; t = sum_from zero64 Ss }
