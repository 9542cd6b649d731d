-- Figures of the call on bytes, as statements about the definition; they are proved in proofs/JobFigures.antt. Definitions only.
use Rattle.std.specs.Prelude.{◌≡◌, List, [], ◌∷◌, ◌++◌, map, ℕ, set, take, replicate, Float}
use Rattle.std.specs.Float.{nan}
use Rattle.std.specs.Float.Ieee.{neg}
use Rattle.fields.specs.Real.{infinity64}
use Rattle.wave.specs.Figures.{num, tenths, bits}
use Rattle.job.specs.JobQ.{job_q}
use Rattle.job.specs.SixPairs.{job_q_long_counts}
use Rattle.job.specs.SevenPairs.{job_q_empty_trips}
use Rattle.setting.specs.Setting.{Answer, refused, none, coefficient, Called, set_valve}
use Rattle.setting.specs.ChainJob.{chain_job}
use Rattle.setting.specs.Figures.{◌ends◌, lent_heads, lent_flows, written, kept, two_heads}

-- a call with rows lent for n sections
abbrev pub called_for : ℕ → List ℕ → Float → Float → Called
called_for n job L Q = set_valve job L Q (lent_heads n) (lent_flows n)

-- a call with rows of so many entries, and what it leaves where it is refused
abbrev pub rows_of : ℕ → ℕ → Answer → Called
rows_of m n answer = record { heads = replicate m (num 7); flows = replicate n (num 8); answer = answer }

abbrev pub called_with : ℕ → ℕ → List ℕ → Float → Float → Called
called_with m n job L Q = set_valve job L Q (replicate m (num 7)) (replicate n (num 8))

-- what is no number, or is not finite
abbrev pub not_finite : List Float
not_finite = nan ∷ infinity64 ∷ neg infinity64 ∷ []

-- Job Q the other way round, from the valve to the reservoir; the chain with a draw-off of 2 as its junction's last entry; job Q with its opening 2, which
-- question 15 refuses; with a count of 0 in table 6, which question 50 refuses; with a trip of its reservoir in table 7, which question 53 refuses.
abbrev pub backward : List ℕ
backward = set (set job_q 46 1) 47 0

abbrev pub drawing : List ℕ
drawing = set chain_job 379 64

abbrev pub too_open : List ℕ
too_open = set job_q 213 64

abbrev pub no_count : List ℕ
no_count = set job_q_long_counts 222 0

abbrev pub no_pump : List ℕ
no_pump = set job_q_empty_trips 58 30 ++ replicate 30 0

pub record JobFigures : Type 0 where
  -- job Q is a chain: 4/root(10 - 6); as six and as seven pairs too
  pub job_q_figure : called_for 3 job_q (num 10) (num 4) ends written (num 10 ∷ num 10 ∷ num 10 ∷ []) (num 4) (num 2)
  pub six_pairs : called_for 3 job_q_long_counts (num 10) (num 4) ends written (num 10 ∷ num 10 ∷ num 10 ∷ []) (num 4) (num 2)
  pub seven_pairs : called_for 3 job_q_empty_trips (num 10) (num 4) ends written (num 10 ∷ num 10 ∷ num 10 ∷ []) (num 4) (num 2)
  -- the level is the caller's, not the 42 of the schedule; every head lies on its floor
  pub two_pipes_figure : called_for 7 chain_job (num 100) (num 2) ends written two_heads (num 2) (tenths 4)
  pub below_floor : called_for 7 chain_job (bits 0x4058_ffff_ffff_ffff) (num 2) ends kept 7 none
  pub no_flow : called_for 3 job_q (num 10) (num 0) ends kept 3 none
  pub at_b : called_for 3 job_q (num 6) (num 4) ends kept 3 none
  -- 51: no chain, or a level or a flow that is not finite
  pub not_a_chain : called_for 3 backward (num 10) (num 4) ends kept 3 (refused 51)
  pub with_draw_off : called_for 7 drawing (num 100) (num 2) ends kept 7 (refused 51)
  pub level_not_finite : map (λ L. (called_for 3 job_q L (num 4)).answer) not_finite ≡ replicate 3 (refused 51)
  pub flow_not_finite : map (λ Q. (called_for 3 job_q (num 10) Q).answer) not_finite ≡ replicate 3 (refused 51)
  pub level_no_number : called_for 3 job_q nan (num 4) ends kept 3 (refused 51)
  -- 52: either row too short by itself; just long enough
  pub heads_short : called_with 2 3 job_q (num 10) (num 4) ends rows_of 2 3 (refused 52)
  pub flows_short : called_with 3 2 job_q (num 10) (num 4) ends rows_of 3 2 (refused 52)
  pub just_enough : called_with 3 3 job_q (num 10) (num 4) ends record { heads = replicate 3 (num 10); flows = replicate 3 (num 4); answer = coefficient (num 2) }
  -- 52 also where there would be none
  pub short_no_flow : called_with 2 3 job_q (num 10) (num 0) ends rows_of 2 3 (refused 52)
  -- the order: 1 to 15, 50 and 53; 51; 52
  pub fifty_one_first : called_with 2 3 backward (num 10) (num 4) ends rows_of 2 3 (refused 51)
  pub fifty_one_first_flow : called_with 3 2 job_q (num 10) infinity64 ends rows_of 3 2 (refused 51)
  pub fifteen_first : called_with 0 0 too_open nan (num 4) ends rows_of 0 0 (refused 15)
  pub fifty_first : called_with 0 0 no_count nan (num 4) ends rows_of 0 0 (refused 50)
  pub fifty_three_first : called_with 0 0 no_pump nan (num 4) ends rows_of 0 0 (refused 53)
  pub one_first : called_with 0 0 (take 45 job_q) nan (num 4) ends rows_of 0 0 (refused 1)
