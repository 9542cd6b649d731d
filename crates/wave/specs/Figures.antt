-- Figures of the wave equations and the nodes, as statements about the definitions; they are proved in proofs/Figures.antt. Definitions only.
use Rattle.std.specs.Prelude.{◌≡◌, true, false, [], ◌∷◌, ℕ, ◌^◌, eqb, pos, Option, Some, None, Float}
use Rattle.std.specs.Float.{nan, fin, binary64}
use Rattle.std.specs.Float.Ieee.{of_bits, to_bits, of_int, neg}
use Rattle.fields.specs.Real.{◌⊘◌, infinity64}
use Rattle.wave.specs.declared.Sums.{Sums}
use Rattle.wave.specs.declared.Node.TheVariants.{Junction, Reservoir, Valve, Pump}
use Rattle.wave.specs.Wave.{magnitude, from_above, from_below, inner, finish_k, start_k, finish_end, start_end, sums_of}
use Rattle.wave.specs.Adding.{no_sums, with_k, with_s}
use Rattle.wave.specs.Nodes.{valve_w, orifice_argument, orifice_flow, valve_flow, pump_h, lift_flow, pump_flow, head_less, head_more, node_head}

-- the f64 nearest n, nearest n / 10 and n / 2^k; the f64 2^k; the f64 of a bit pattern
abbrev pub num : ℕ → Float
num n = of_int binary64 (pos n)

abbrev pub tenths : ℕ → Float
tenths n = num n ⊘ num 10

abbrev pub halved : ℕ → ℕ → Float
halved n k = num n ⊘ num (2 ^ k)

abbrev pub power : ℕ → Float
power k = fin false 1 (pos k)

abbrev pub bits : ℕ → Float
bits b = of_bits binary64 b

-- a node's sums B and T
abbrev pub sums : Float → Float → Sums
sums B T = record { b = B; t = T }

-- x has the bits of y; and the flow that is given has them
infix 50 ◌is◌ ◌gives◌
abbrev pub ◌is◌ : Float → Float → Type 0
x is y = eqb (to_bits binary64 x) (to_bits binary64 y) ≡ true

abbrev pub ◌gives◌ : Option Float → Float → Type 0
Some q gives y = q is y
None gives y = ⊥

-- Document 01, 'Bench figures', P7 as document 02, 1/12, has it. P4 and P5: S, R, H, Q. P6 and P7: the valve of job Q, v, a, b. P8: the pump, v, a, b, c.
-- P9: K and S of two ends.
pub record BenchFigures : Type 0 where
  pub p4 : from_above (num 1) (halved 1 2) (num 10) (num 4) is num 10
  pub p5 : from_above (num 1) (halved 1 2) (num 10) (neg (num 4)) is num 10
  pub p6_q : valve_flow (num 1) (num 2) (num 6) (sums (num 14) (num 1)) gives num 4
  pub p6_h : node_head (Valve (num 1) (num 2) (num 6)) (sums (num 14) (num 1)) is num 10
  pub p7_q : valve_flow (num 1) (num 2) (num 6) (sums (num 3) (num 1)) gives num 0
  pub p7_h : node_head (Valve (num 1) (num 2) (num 6)) (sums (num 3) (num 1)) is num 3
  pub p8_q : pump_flow (num 1) (num 10) (halved 3 1) (num 0) (sums (num 2) (num 1)) gives num 2
  pub p8_h : node_head (Pump (num 1) (num 10) (halved 3 1) (num 0)) (sums (num 2) (num 1)) is num 4
  pub p8_idle_q : pump_flow (num 0) (num 10) (halved 3 1) (num 0) (sums (num 2) (num 1)) gives num 0
  pub p8_idle_h : node_head (Pump (num 0) (num 10) (halved 3 1) (num 0)) (sums (num 2) (num 1)) is num 2
  pub p9 : node_head (Junction (num 4)) (sums_of (num 14 ∷ num 6 ∷ []) (num 1 ∷ num 1 ∷ [])) is num 8

-- Our own, worked out apart from the definitions: in IEEE arithmetic, one rounding an operation, with the root by whole numbers. They were chosen
-- so that a slip in a definition (an order, a bracket, a sign, a factor left out, a zero's sign, a judgement missed) changes at least one.
pub record WaveFigures : Type 0 where
  pub above : from_above (num 2) (halved 1 2) (num 10) (num 2) is num 21
  pub below : from_below (num 2) (halved 1 2) (num 10) (num 2) is neg (num 19)
  pub below_backward : from_below (num 2) (halved 1 2) (num 10) (neg (num 2)) is neg (num 21)
  pub above_rounded : from_above (tenths 12) (tenths 7) (tenths 12) (neg (tenths 9)) is bits 0x3ff1_b645_a1ca_c083
  pub below_rounded : from_below (tenths 12) (tenths 7) (tenths 12) (neg (tenths 9)) is bits 0xbffc_5e35_3f7c_ed90
  pub above_zero : from_above (num 1) (halved 1 2) (neg (num 0)) (neg (num 0)) is neg (num 0)
  pub magnitude_zero : magnitude (neg (num 0)) is neg (num 0)
  pub inner_section_head : (inner (num 2) (num 20) (neg (num 4))).head is num 6
  pub inner_section_flow : (inner (num 2) (num 20) (neg (num 4))).flow is num 8
  pub inner_rounded_head : (inner (tenths 3) (tenths 1) (neg (num 4))).head is bits 0x401b_5555_5555_5555
  pub inner_rounded_flow : (inner (tenths 3) (tenths 1) (neg (num 4))).flow is bits 0xbfff_3333_3333_3333
  pub inner_overflow_head : (inner (num 1) (power 1023) (power 1023)).head is num 0
  pub inner_overflow_flow : (inner (num 1) (power 1023) (power 1023)).flow is infinity64
  pub finish_k_figure : finish_k (num 2) (halved 1 2) (num 10) (num 2) is num 21
  pub start_k_figure : start_k (num 2) (halved 1 2) (num 10) (num 2) is num 19
  pub finish_end_head : (finish_end (num 2) (num 21) (num 6)).head is num 6
  pub finish_end_flow : (finish_end (num 2) (num 21) (num 6)).flow is num 9
  pub start_end_head : (start_end (num 2) (num 19) (num 6)).head is num 6
  pub start_end_flow : (start_end (num 2) (num 19) (num 6)).flow is neg (num 7)
  pub finish_end_zero_flow : (finish_end (num 1) (num 5) (num 5)).flow is num 0
  pub start_end_zero_flow : (start_end (num 1) (num 5) (num 5)).flow is num 0
  pub sums_rising_b : (sums_of (power 53 ∷ num 1 ∷ num 1 ∷ []) (power 53 ∷ num 1 ∷ num 1 ∷ [])).b is power 53
  pub sums_rising_t : (sums_of (power 53 ∷ num 1 ∷ num 1 ∷ []) (power 53 ∷ num 1 ∷ num 1 ∷ [])).t is power 53
  pub sums_zero_b : (sums_of (neg (num 0) ∷ []) (neg (num 0) ∷ [])).b is num 0
  pub sums_zero_t : (sums_of (neg (num 0) ∷ []) (neg (num 0) ∷ [])).t is num 0
  pub sums_none_b : (sums_of [] []).b is num 0
  pub sums_none_t : (sums_of [] []).t is num 0
  pub added_from_zero_b : (with_k no_sums (neg (num 0))).b is num 0
  pub added_from_zero_t : (with_s no_sums (num 2)).t is num 2
  pub added_last_b : (with_k (sums (power 53) (num 1)) (num 1)).b is power 53
  pub added_last_t : (with_s (sums (power 53) (num 1)) (num 2)).t is num 3

pub record NodeFigures : Type 0 where
  pub junction_rounded : node_head (Junction (tenths 1)) (sums (tenths 3) (tenths 4)) is bits 0x3fdf_ffff_ffff_ffff
  pub junction_b_infinite : node_head (Junction (num 4)) (sums (neg infinity64) (num 2)) is infinity64
  pub junction_t_infinite : node_head (Junction (num 4)) (sums (num 20) infinity64) is infinity64
  pub reservoir : node_head (Reservoir (num 10)) (sums (num 3) (num 2)) is num 10
  pub reservoir_b_infinite : node_head (Reservoir (num 10)) (sums infinity64 (num 2)) is infinity64
  pub reservoir_t_infinite : node_head (Reservoir (num 10)) (sums (num 3) infinity64) is infinity64
  pub valve_q : valve_flow (halved 1 1) (num 4) (num 6) (sums (num 16) (num 2)) gives num 2
  pub valve_h : node_head (Valve (halved 1 1) (num 4) (num 6)) (sums (num 16) (num 2)) is num 7
  pub valve_w_rounded : valve_w (tenths 1) (tenths 11) (tenths 17) is bits 0x3f7d_2764_d579_505d
  pub orifice_rounded : orifice_flow (tenths 13) (tenths 12) gives bits 0x3fe8_41a4_06ab_e008
  -- the root cut down would give another q; in the second the square of the root's digits leaves just those digits, and half up would give another
  pub orifice_to_nearest : orifice_flow (num 2) (num 3) gives bits 0x3ffa_54ff_53a5_f1d3
  pub orifice_below_middle : orifice_flow (halved 1 26) (num (2 ^ 24)) gives bits 0x3fdf_ffff_f800_0002
  pub orifice_subnormal : orifice_argument (halved 1 600) (halved 3 476) is bits 4
  pub orifice_z_overflow : orifice_flow (halved 1 20) (power 1023) gives infinity64
  -- y not above zero: +0, and nothing is judged, also where w·w is infinite
  pub orifice_y_zero : orifice_flow (power 600) (num 0) gives num 0
  pub orifice_y_minus_zero : orifice_flow (power 600) (neg (num 0)) gives num 0
  pub orifice_y_below_zero : orifice_flow (power 600) (neg (num 1)) gives num 0
  pub orifice_y_minus_infinite : orifice_flow (num 1) (neg infinity64) gives num 0
  pub orifice_y_no_number : orifice_flow (num 1) nan gives num 0
  -- w zero: +0, and nothing is judged
  pub orifice_w_zero : orifice_flow (num 0) (num 4) gives num 0
  pub orifice_w_minus_zero : orifice_flow (neg (num 0)) (num 4) gives num 0
  pub orifice_w_zero_y_infinite : orifice_flow (num 0) infinity64 gives num 0
  pub valve_root_infinite_q : valve_flow (num 1) (num (10 ^ 200)) (num 6) (sums (num 14) (num 1)) ≡ None
  pub valve_root_infinite_h : node_head (Valve (num 1) (num (10 ^ 200)) (num 6)) (sums (num 14) (num 1)) is infinity64
  pub valve_shut_y_infinite : node_head (Valve (num 0) (num 2) (neg (power 100))) (sums (power 1000) (power 1000)) is num 1
  pub valve_shut_minus_zero : node_head (Valve (num 0) (num 2) (neg (num 6))) (sums (neg (num 0)) (num 1)) is neg (num 0)
  pub valve_shut_t_infinite : node_head (Valve (num 0) (num 2) (neg (num 6))) (sums (num 3) infinity64) is infinity64
  -- y = B - T·b not above zero: H is B/T, also where w·w is infinite; B and T are judged all the same
  pub valve_y_zero_h : node_head (Valve (num 1) (power 400) (num 6)) (sums (num 6) (num 1)) is num 6
  pub valve_y_minus_zero_h : node_head (Valve (num 1) (power 400) (num 0)) (sums (neg (num 0)) (num 1)) is neg (num 0)
  pub valve_y_below_zero_q : valve_flow (num 1) (power 400) (num 6) (sums (num 3) (num 2)) gives num 0
  pub valve_y_below_zero_h : node_head (Valve (num 1) (power 400) (num 6)) (sums (num 3) (num 2)) is halved 3 1
  pub valve_y_minus_infinite_h : node_head (Valve (num 1) (num 2) (power 100)) (sums (power 1000) (power 1000)) is num 1
  pub valve_y_below_zero_t_infinite : node_head (Valve (num 1) (num 2) (num 6)) (sums (num 3) infinity64) is infinity64
  pub valve_y_below_zero_b_infinite : node_head (Valve (num 1) (num 2) (num 6)) (sums (neg infinity64) (num 1)) is infinity64
  -- y decides, not B/T against b, where rounding makes the two disagree: y is 2^-55 and B/T is b; y is +0 and B/T the next f64 above b
  pub valve_above_by_y : valve_flow (num 1) (num 2) (tenths 24) (sums (bits 0x3fce_b851_eb85_1eb9) (tenths 1)) gives halved 1 55
  pub valve_level_by_y_q : valve_flow (num 1) (power 400) (num 6) (sums (bits 0x3fe3_3333_3333_3334) (tenths 1)) gives num 0
  pub valve_level_by_y_h : node_head (Valve (num 1) (power 400) (num 6)) (sums (bits 0x3fe3_3333_3333_3334) (tenths 1)) is bits 0x4018_0000_0000_0001
  pub valve_h_rounded : head_less (Some (tenths 1)) (sums (tenths 3) (tenths 4)) is bits 0x3fdf_ffff_ffff_ffff
  pub pump_q : pump_flow (halved 1 1) (num 40) (halved 3 2) (num 2) (sums (num 16) (num 2)) gives num 2
  pub pump_head_level : node_head (Pump (halved 1 1) (num 40) (halved 3 2) (num 2)) (sums (num 16) (num 2)) is num 9
  pub pump_h_rounded : pump_h (tenths 1) (tenths 23) (tenths 1) is bits 0x3fbf_7ced_9168_72b1
  pub lift_rounded : lift_flow (tenths 6) (tenths 7) (tenths 8) gives bits 0x3fe4_3aa3_74ac_b3f2
  -- as of the orifice
  pub lift_to_nearest : lift_flow (tenths 15) (halved 1 1) (num 3) gives bits 0x3ff7_1075_a3cd_cf18
  pub lift_below_middle : lift_flow (num 1) (num 1) (bits 0x400e_0000_0000_0002) gives bits 0x3ff8_0000_0000_0002
  pub lift_near_overflow : lift_flow (power 1023) (num 1) (halved 1 11) gives bits 0x1fa0_0000_0000_0000
  pub lift_root_infinite : lift_flow (power 1023) (num 2) (num 1) ≡ None
  pub lift_y_zero : lift_flow (power 1023) (num 2) (num 0) gives num 0
  pub lift_y_minus_zero : lift_flow (num 1) (num 2) (neg (num 0)) gives num 0
  pub lift_y_below_zero : lift_flow (power 1023) (num 2) (neg (num 1)) gives num 0
  pub pump_root_infinite_h : node_head (Pump (num 1) (num 10) (power 1023) (num 0)) (sums (num 2) (num 4)) is infinity64
  pub pump_idle_minus_zero : node_head (Pump (num 0) (num 10) (num 1) (num 0)) (sums (neg (num 0)) (num 1)) is num 0
  pub pump_idle_t_infinite : node_head (Pump (num 0) (num 10) (num 1) (num 0)) (sums (num 3) infinity64) is infinity64
  pub pump_idle_b_infinite : node_head (Pump (num 0) (num 10) (num 1) (num 0)) (sums infinity64 (num 1)) is infinity64
  pub pump_head_rounded : head_more (Some (tenths 1)) (sums (tenths 2) (tenths 3)) is bits 0x3ff0_0000_0000_0001
