-- Figures of the texts, as statements about the definitions; they are proved in proofs/Figures.antt. Definitions only.
use Rattle.std.specs.Prelude.{◌≡◌, true, false, [], length, pos, negsuc, Float}
use Rattle.std.specs.Float.{nan, inf, fin, binary64}
use Rattle.std.specs.Float.Ieee.{of_bits}
use Rattle.listing_text.specs.Text.{ascii, decimal, pattern}
use Rattle.listing_text.specs.Listing.{line_allowed, line_text, closing_text, line_written}

-- the numbers 10, 4, 14 and +0 of job Q, each an odd number times a power of two
abbrev pub ten : Float
ten = fin false 5 (pos 1)

abbrev pub four : Float
four = fin false 1 (pos 2)

abbrev pub fourteen : Float
fourteen = fin false 7 (pos 1)

abbrev pub plus_zero : Float
plus_zero = fin false 0 (pos 0)

-- "Job Q ... one step", the four lines as document 01 prints them
pub record JobQ : Type 0 where
  pub section_0 : line_text 0 ten four ten ten ≡ ascii "0 4024000000000000 4010000000000000 4024000000000000 4024000000000000\n"
  pub section_1 : line_text 1 ten four ten ten ≡ ascii "1 4024000000000000 4010000000000000 4024000000000000 4024000000000000\n"
  pub section_2 : line_text 2 fourteen plus_zero fourteen ten ≡ ascii "2 402c000000000000 0000000000000000 402c000000000000 4024000000000000\n"
  pub last : closing_text 0 1 0 ≡ ascii "done 1\n"

-- Our own, from here on: numbers in decimal at the edges of their length
pub record DecimalFigures : Type 0 where
  pub zero : decimal 0 ≡ ascii "0"
  pub nine : decimal 9 ≡ ascii "9"
  pub ten : decimal 10 ≡ ascii "10"
  pub ninety_nine : decimal 99 ≡ ascii "99"
  pub hundred : decimal 100 ≡ ascii "100"
  pub last_section : decimal 511 ≡ ascii "511"
  pub most_steps : decimal 1000000 ≡ ascii "1000000"
  pub greatest : decimal 18446744073709551615 ≡ ascii "18446744073709551615"

-- patterns: every digit in its place, both zeros, both infinities, the least and the greatest number, and a NaN
pub record PatternFigures : Type 0 where
  pub each_digit : pattern (of_bits binary64 0x0123_4567_89ab_cdef) ≡ ascii "0123456789abcdef"
  pub minus_four_figure : pattern (fin true 1 (pos 2)) ≡ ascii "c010000000000000"
  pub minus_zero_figure : pattern (fin true 0 (pos 0)) ≡ ascii "8000000000000000"
  pub infinite : pattern (inf false) ≡ ascii "7ff0000000000000"
  pub minus_infinite : pattern (inf true) ≡ ascii "fff0000000000000"
  pub least : pattern (fin false 1 (negsuc 1073)) ≡ ascii "0000000000000001"
  pub greatest : pattern (fin false 9007199254740991 (pos 971)) ≡ ascii "7fefffffffffffff"
  pub no_number : pattern nan ≡ ascii "7ff8000000000000"

-- question 24 at its edges, and what is written for a no; no line is longer than 72 bytes
pub record LineFigures : Type 0 where
  pub both : line_allowed 511 72 ≡ true
  pub too_high : line_allowed 512 72 ≡ false
  pub too_short : line_allowed 511 71 ≡ false
  pub longest : length (line_text 511 ten four ten ten) ≡ 72
  pub nothing : line_written 512 ten four ten ten 100 ≡ []
  pub the_line : line_written 511 ten plus_zero ten four 72 ≡ ascii "511 4024000000000000 0000000000000000 4024000000000000 4010000000000000\n"

-- the closing lines
pub record ClosingFigures : Type 0 where
  pub none_done : closing_text 0 0 7 ≡ ascii "done 0\n"
  pub not_finite : closing_text 40 12 3 ≡ ascii "notfinite 12 3\n"
  pub parted : closing_text 41 999999 511 ≡ ascii "parted 999999 511\n"
  pub first_question : closing_text 1 0 0 ≡ ascii "refused 1\n"
  pub refused : closing_text 15 3 4 ≡ ascii "refused 15\n"
