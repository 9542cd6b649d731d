-- The figures of the texts, by computation on the definitions. Assumes nothing.
use mathlib.Core.Path.{refl}
use lib.Ieee.{of_bits, to_bits}
use Rattle.listing_text.specs.Text.{digits, places_within}
use Rattle.listing_text.specs.Listing.{closing_text, line_written}
use Rattle.listing_text.specs.Figures.{JobQ, DecimalFigures, PatternFigures, LineFigures, ClosingFigures}

pub job_q_figure : JobQ
unfolding digits places_within to_bits closing_text
job_q_figure = record { section_0 = refl; section_1 = refl; section_2 = refl; last = refl }

pub decimal_figures : DecimalFigures
unfolding digits places_within
decimal_figures = record {
  zero = refl;
  nine = refl;
  ten = refl;
  ninety_nine = refl;
  hundred = refl;
  last_section = refl;
  most_steps = refl;
  greatest = refl;
}

pub pattern_figures : PatternFigures
unfolding digits to_bits of_bits
pattern_figures = record {
  each_digit = refl;
  minus_four_figure = refl;
  minus_zero_figure = refl;
  infinite = refl;
  minus_infinite = refl;
  least = refl;
  greatest = refl;
  no_number = refl;
}

pub line_figures : LineFigures
unfolding digits places_within to_bits line_written
line_figures = record {
  both = refl;
  too_high = refl;
  too_short = refl;
  longest = refl;
  nothing = refl;
  the_line = refl;
}

pub closing_figures : ClosingFigures
unfolding digits places_within closing_text
closing_figures = record {
  none_done = refl;
  not_finite = refl;
  parted = refl;
  first_question = refl;
  refused = refl;
}
