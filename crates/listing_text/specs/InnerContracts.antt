-- Inner definitions: no public call cites them. What the inner calls ask of rows. Definitions only.
use Rattle.std.specs.Prelude.{List, ℕ, ◌+◌, ◌*◌, ◌≤◌, length, get_or, Float}
use Rattle.std.specs.Float.{nan}
use Rattle.listing_text.specs.Listing.{line_text}

-- The rows hold `count` sections, of which there are at most 512, and the slice has room for a line each and one more.
pub record Listable (count : ℕ) (heads flows highest lowest : List Float) (out : List ℕ) : Type 0 where
  pub few : count ≤ 512
  pub head : count ≤ length heads
  pub flow : count ≤ length flows
  pub high : count ≤ length highest
  pub low : count ≤ length lowest
  pub room : (count + 1) * 72 ≤ length out

-- a section's line by the four rows of a run
abbrev pub row_line : List Float → List Float → List Float → List Float → ℕ → List ℕ
row_line heads flows highest lowest s = line_text s (get_or heads s nan) (get_or flows s nan) (get_or highest s nan) (get_or lowest s nan)
