-- Figures of the heads, the coefficient and the verdict, as statements about the definitions; they are proved in proofs/Figures.antt. They were worked out
-- apart from the definitions, in IEEE arithmetic, one rounding an operation, and chosen so that a slip in a definition changes at least one.
-- Definitions only.
use Rattle.std.specs.Prelude.{◌≡◌, Bool, true, false, ◌&&◌, List, [], ◌∷◌, ◌++◌, map, ℕ, suc, eqb, length, get_or, set, replicate, Float}
use Rattle.std.specs.Float.{nan, binary64}
use Rattle.std.specs.Float.Ieee.{neg, to_bits}
use Rattle.fields.specs.Real.{zero64, infinity64}
use Rattle.wave.specs.Figures.{◌is◌, num, tenths, halved, power, bits}
use Rattle.job.specs.Job.{Pipe, Kind, junction, reservoir, valve, ScheduledNode, Initial, Job, sections}
use Rattle.setting.specs.Setting.{head_after, heads_of, last_head, outlet_head, coefficient_for, head_fits, is_given, Answer, refused, none, coefficient, Called, set_or_none}

-- the greatest f64, and the f64 after one above zero
abbrev pub greatest : Float
greatest = bits 0x7fef_ffff_ffff_ffff

abbrev pub above : Float → Float
above x = bits (suc (to_bits binary64 x))

-- ---- rows, compared by their bits

abbrev pub patterns : List Float → List ℕ
patterns xs = map (to_bits binary64) xs

abbrev pub answered : Answer → List ℕ
answered (refused q) = 0 ∷ q ∷ []
answered none = 1 ∷ 0 ∷ []
answered (coefficient a) = 2 ∷ to_bits binary64 a ∷ []

abbrev pub shown : Called → List ℕ
shown c = answered c.answer ++ length c.heads ∷ patterns c.heads ++ patterns c.flows

unfoldable pub same : List ℕ → List ℕ → Bool
same [] [] = true
same [] (y ∷ ys) = false
same (x ∷ xs) [] = false
same (x ∷ xs) (y ∷ ys) = eqb x y && same xs ys

infix 50 ◌are◌ ◌ends◌
abbrev pub ◌are◌ : List Float → List Float → Type 0
xs are ys = same (patterns xs) (patterns ys) ≡ true

abbrev pub ◌ends◌ : Called → Called → Type 0
c ends d = same (shown c) (shown d) ≡ true

-- rows lent for n sections, sevens and eights, and more past them: a NaN; a nine and a NaN
abbrev pub lent_heads : ℕ → List Float
lent_heads n = replicate n (num 7) ++ nan ∷ []

abbrev pub lent_flows : ℕ → List Float
lent_flows n = replicate n (num 8) ++ num 9 ∷ nan ∷ []

-- what is left there: the heads, the flow and the coefficient; all as it was lent, and the answer
abbrev pub written : List Float → Float → Float → Called
written heads Q a = record { heads = heads ++ nan ∷ []; flows = replicate (length heads) Q ++ num 9 ∷ nan ∷ []; answer = coefficient a }

abbrev pub kept : ℕ → Answer → Called
kept n answer = record { heads = lent_heads n; flows = lent_flows n; answer = answer }

abbrev pub set_for : Job → Float → Float → Called
set_for j L Q = set_or_none j L Q (lent_heads (sections j)) (lent_flows (sections j))

-- ---- chains

abbrev pub pipe : ℕ → ℕ → Float → Pipe
pipe i reaches S = record { start = i; finish = suc i; reaches = reaches; S = S }

abbrev pub node : Kind → List Float → ScheduledNode
node kind schedule = record { kind = kind; schedule = schedule }

abbrev pub over : Float → Initial
over floor = record { head = floor; flow = num 0; floor = floor }

-- a chain by its pipes, its R, its b and its floors, with so many junctions as are given
abbrev pub chain : List Pipe → List ScheduledNode → List Float → Float → List Float → Job
chain pipes junctions friction b floors = record {
  pipes = pipes;
  nodes = node reservoir (num 42 ∷ []) ∷ junctions ++ node (valve (num 3) b) (num 1 ∷ []) ∷ [];
  friction = friction;
  initial = map over floors;
  trips = [];
}

abbrev pub still : ScheduledNode
still = node junction (num 0 ∷ neg (num 0) ∷ [])

-- Two pipes of two and three reaches, S = 2 and 0.5. With the flow 2 the reaches take 0.5, 1; 1, 2, 8 from the head.
unfoldable pub two_pipes : Float → List Float → Job
two_pipes b floors = chain (pipe 0 2 (num 2) ∷ pipe 1 3 (halved 1 1) ∷ []) (still ∷ []) (halved 1 2 ∷ halved 1 1 ∷ halved 1 3 ∷ halved 1 2 ∷ num 1 ∷ []) b floors

unfoldable pub two_heads : List Float
two_heads = num 100 ∷ halved 199 1 ∷ halved 197 1 ∷ halved 197 1 ∷ halved 195 1 ∷ halved 191 1 ∷ halved 175 1 ∷ []

-- b = 62.5, so that H - b is 25; floors 0, and floors on the heads of the level 100 and the flow 2, but for one just above its head
unfoldable pub two : Job
unfolding two_pipes
two = two_pipes (halved 125 1) (replicate 7 (num 0))

unfoldable pub two_but : ℕ → Job
unfolding two_pipes two_heads
two_but s = two_pipes (halved 125 1) (set two_heads s (above (get_or two_heads s zero64)))

-- Pipes of one reach each, two and three of them. With the flow 2 they take 4, 4 and 3 from the head.
unfoldable pub across : Job
across = chain (pipe 0 1 (num 1) ∷ pipe 1 1 (num 2) ∷ []) (still ∷ []) (num 1 ∷ num 2 ∷ []) (num 8) (replicate 4 (num 0))

unfoldable pub three : Job
three = chain (pipe 0 1 (num 1) ∷ pipe 1 1 (num 2) ∷ pipe 2 1 (num 4) ∷ []) (still ∷ still ∷ []) (num 1 ∷ num 2 ∷ num 3 ∷ []) (num 5) (replicate 6 (num 0))

-- Decimals, where each operation rounds.
unfoldable pub decimals : Job
decimals = chain (pipe 0 2 (tenths 33) ∷ pipe 1 1 (tenths 8) ∷ []) (still ∷ []) (tenths 14 ∷ tenths 18 ∷ tenths 5 ∷ []) (tenths 24) (replicate 5 (num 0))

unfoldable pub decimal_heads : List Float
decimal_heads = tenths 79 ∷ bits 0x401e_c4bb_6c4b_b6c5 ∷ bits 0x401d_b30b_7b30_b7b3 ∷ bits 0x401d_b30b_7b30_b7b3 ∷ bits 0x401c_7971_e197_1e19 ∷ []

-- One reach by its R and b, S = 1: with two floors, and with floors as low as can be. With the flow 2, R = 0.75 takes 3 from the head.
unfoldable pub reach_over : Float → Float → Float → Float → Job
reach_over R b F G = chain (pipe 0 1 (num 1) ∷ []) [] (R ∷ []) b (F ∷ G ∷ [])

unfoldable pub reach : Float → Float → Job
unfolding reach_over
reach R b = reach_over R b (neg greatest) (neg greatest)

unfoldable pub falling : Float → Float → Job
unfolding reach_over
falling F G = reach_over (halved 3 2) (num 6) F G

-- ---- the heads

pub record HeadFigures : Type 0 where
  -- 50 - ((3·4)·4)/2; a flow the other way raises the head
  pub forward : head_after (num 2) (num 3) (num 4) (num 50) is num 26
  pub backward : head_after (num 2) (num 3) (neg (num 4)) (num 50) is num 74
  -- another order, or one rounding fewer, gives other bits, another overflow or another underflow
  pub rounded : head_after (tenths 13) (tenths 6) (tenths 21) (num 3) is bits 0x3fee_de21_1544_8778
  pub overflow : head_after (power 1000) (power 500) (power 300) (num 1) is neg infinity64
  pub underflow : head_after (halved 1 600) (halved 1 600) (halved 1 300) (num 0) is num 0
  -- R of each reach, S of each pipe; a pipe begins with the head with which the one before it ends
  pub one_node : heads_of across (num 20) (num 2) are num 20 ∷ num 16 ∷ num 16 ∷ num 12 ∷ []
  pub two_nodes : heads_of three (num 20) (num 2) are num 20 ∷ num 16 ∷ num 16 ∷ num 12 ∷ num 12 ∷ num 9 ∷ []
  pub reach_by_reach : heads_of two (num 100) (num 2) are two_heads
  -- drops added up before they are taken from the level would give other bits
  pub each_rounded : heads_of decimals (tenths 79) (tenths 7) are decimal_heads
  pub last : last_head two (num 100) (num 2) is halved 175 1
  -- a head on its floor fits, -0 on a floor of +0 too
  pub on_floor : head_fits (num 5) (num 5) ≡ true
  pub on_zero_floor : head_fits (num 0) (neg (num 0)) ≡ true
  pub below_floor : head_fits (above (num 5)) (num 5) ≡ false
  pub on_lowest_floor : head_fits (neg greatest) (neg greatest) ≡ true
  pub minus_infinite : head_fits (neg greatest) (neg infinity64) ≡ false
  pub plus_infinite : head_fits (num 5) infinity64 ≡ false
  -- no chain of an accepted job, with a finite level and flow, comes to a NaN; the test tells one all the same
  pub no_number : head_fits (num 5) nan ≡ false

-- ---- the coefficient

pub record CoefficientFigures : Type 0 where
  -- 4/root(10 - 6), the valve of job Q; b below zero
  pub job_q_valve : coefficient_for (num 4) (num 10) (num 6) is num 2
  pub b_below_zero : coefficient_for (num 6) (num 5) (neg (num 4)) is num 2
  -- the root cut down, a root of the whole, a product with 1/root, or one rounding fewer, gives other bits
  pub rounded : coefficient_for (tenths 7) (bits 0x401c_7971_e197_1e19) (tenths 24) is bits 0x3fd4_9fba_1cfd_5bc6
  pub at_b : coefficient_for (num 4) (num 6) (num 6) is infinity64
  pub b_of_last : outlet_head two is halved 125 1

-- ---- the verdict, and what is left in the rows

-- what is left of one reach at L = 10 and Q = 2, from which `falling` takes 3: b = 6, so that a = 2/root(1)
abbrev pub fallen : Called
fallen = written (num 10 ∷ num 7 ∷ []) (num 2) (num 2)

pub record VerdictFigures : Type 0 where
  -- H is the last head, not the level
  pub given : set_for (falling (num 0) (num 0)) (num 10) (num 2) ends fallen
  -- "Q is not above zero": +0, -0, below; the least f64 is above, and its a is +0
  pub no_flow : set_for (falling (num 0) (num 0)) (num 10) (num 0) ends kept 2 none
  pub minus_no_flow : set_for (falling (num 0) (num 0)) (num 10) (neg (num 0)) ends kept 2 none
  pub flow_below_zero : set_for (falling (num 0) (num 0)) (num 10) (neg (num 2)) ends kept 2 none
  pub least_flow : set_for (falling (num 0) (num 0)) (num 10) (bits 1) ends written (num 10 ∷ num 10 ∷ []) (bits 1) (num 0)
  -- "a head falls below its floor": on both floors; just below the first, L's own; just below the last
  pub on_floors : set_for (falling (num 10) (num 7)) (num 10) (num 2) ends fallen
  pub below_first : set_for (falling (above (num 10)) (num 7)) (num 10) (num 2) ends kept 2 none
  pub below_last : set_for (falling (num 10) (above (num 7))) (num 10) (num 2) ends kept 2 none
  -- "H is not above b": at b, just below it, just above; a level above b whose last head is b
  pub at_b : set_for (reach (num 0) (num 6)) (num 6) (num 4) ends kept 2 none
  pub below_b : set_for (reach (num 0) (num 6)) (bits 0x4017_ffff_ffff_ffff) (num 4) ends kept 2 none
  pub above_b : set_for (reach (num 0) (num 6)) (above (num 6)) (num 4) ends written (replicate 2 (above (num 6))) (num 4) (power 27)
  pub falls_to_b : set_for (reach (num 1) (num 6)) (num 10) (num 2) ends kept 2 none
  -- "any head, H - b or a is not finite": a head that overflows; H - b = 2·greatest, and greatest; a = 2^1026, and 2^1023. An a of +0 is given.
  pub head_overflows : set_for (reach (power 1000) (neg greatest)) (num 1) (power 100) ends kept 2 none
  pub difference_overflows : set_for (reach (num 0) (neg greatest)) greatest (num 2) ends kept 2 none
  pub difference_greatest : set_for (reach (num 0) (num 0)) greatest (num 2) ends written (replicate 2 greatest) (num 2) (bits 0x2000_0000_0000_0001)
  pub a_overflows : set_for (reach (num 0) (num 1)) (above (num 1)) (power 1000) ends kept 2 none
  pub a_great : set_for (reach (num 0) (num 1)) (above (num 1)) (power 997) ends written (replicate 2 (above (num 1))) (power 997) (power 1023)
  pub a_zero : set_for (reach (num 0) (num 0)) (power 1000) (bits 1) ends written (replicate 2 (power 1000)) (bits 1) (num 0)
  -- rows just long enough
  pub just_enough : set_or_none (reach (num 0) (num 6)) (num 10) (num 4) (num 7 ∷ num 7 ∷ []) (num 8 ∷ num 8 ∷ []) ends record { heads = num 10 ∷ num 10 ∷ []; flows = num 4 ∷ num 4 ∷ []; answer = coefficient (num 2) }
  -- several pipes: b = 8 and H = 12; b = 62.5 and H = 87.5; decimals
  pub one_node : set_for across (num 20) (num 2) ends written (num 20 ∷ num 16 ∷ num 16 ∷ num 12 ∷ []) (num 2) (num 1)
  pub two_pipes_figure : set_for two (num 100) (num 2) ends written two_heads (num 2) (tenths 4)
  pub each_rounded : set_for decimals (tenths 79) (tenths 7) ends written decimal_heads (tenths 7) (bits 0x3fd4_9fba_1cfd_5bc6)
  -- on every floor, and just below one alone, whichever: section 0, within a pipe, both ends at the node, the last
  pub on_each_floor : set_for (two_pipes (halved 125 1) two_heads) (num 100) (num 2) ends written two_heads (num 2) (tenths 4)
  pub below_one : map (λ s. is_given (two_but s) (num 100) (num 2)) (0 ∷ 1 ∷ 2 ∷ 3 ∷ 4 ∷ 5 ∷ 6 ∷ []) ≡ replicate 7 false
