-- Figures of the listing, as statements about the definitions; they are proved in proofs/Figures.antt. Definitions only.
use Rattle.std.specs.Prelude.{◌≡◌, Bool, true, false, ◌&&◌, List, [], ◌∷◌, ◌++◌, ℕ, eqb, length, set}
use Rattle.job.specs.JobQ.{job_q}
use Rattle.listing_text.specs.Text.{ascii}
use Rattle.recurrence.specs.Scan.{parted}
use Rattle.recurrence.specs.Run.{ran, stop}
use Rattle.surgelist.specs.ListingOf.{section_lines, listing_of}

-- job Q with the opening 2, which question 15 refuses; and with five steps for its listing and a floor of 7 at section 2, whose head is 6 at step 5
unfoldable pub job_q_too_open : List ℕ
job_q_too_open = set job_q 213 64

unfoldable pub job_q_parting : List ℕ
job_q_parting = set (set (set job_q 2 5) 196 28) 197 64

-- Whether two texts are the same, byte by byte: a test, so that a wrong figure is refused by its value.
unfoldable pub alike : List ℕ → List ℕ → Bool
alike [] [] = true
alike [] (b ∷ t) = false
alike (a ∷ s) [] = false
alike (a ∷ s) (b ∷ t) = eqb a b && alike s t

infix 5 ◌prints◌
abbrev pub ◌prints◌ : List ℕ → List ℕ → Type 0
job prints text = alike (listing_of job) text ≡ true

pub record ListingFigures : Type 0 where
  -- a stop has its lines too: one section, 70 bytes
  pub stopped_line : length (section_lines 1 (ran record { done = 4; state = record { points = []; drives = [] } } (stop parted 2))) ≡ 70
  -- "Job Q ... one step", the four lines as document 01 prints them
  pub job_q_figure : job_q prints ascii "0 4024000000000000 4010000000000000 4024000000000000 4024000000000000\n"
      ++ (ascii "1 4024000000000000 4010000000000000 4024000000000000 4024000000000000\n"
      ++ ascii "2 402c000000000000 0000000000000000 402c000000000000 4024000000000000\ndone 1\n")
  -- "a refused job prints only `refused n`"
  pub no_bytes : [] prints ascii "refused 1\n"
  pub too_open_figure : job_q_too_open prints ascii "refused 15\n"
  -- a stop's listing has the lines of the step before it
  pub parting : job_q_parting prints ascii "0 4024000000000000 c010000000000000 4024000000000000 4024000000000000\n"
      ++ (ascii "1 4024000000000000 c010000000000000 402c000000000000 4024000000000000\n"
      ++ ascii "2 402c000000000000 0000000000000000 402c000000000000 4024000000000000\nparted 4 2\n")
