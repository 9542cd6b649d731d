-- The figures of the listing, by computation on the definitions. Assumes nothing.
use mathlib.Core.Path.{refl}
use Rattle.recurrence.proofs.AllDefinitions.{opened}
use Rattle.listing_text.specs.Text.{digits, places_within}
use Rattle.listing_text.specs.Listing.{closing_text, lines_text}
use Rattle.surgelist.specs.ListingOf.{run_of, point_line, section_lines, closing_line, listing_of}
use Rattle.surgelist.specs.Figures.{job_q_too_open, job_q_parting, alike, ListingFigures}

pub listing_figures : ListingFigures
unfolding opened digits places_within closing_text lines_text run_of point_line section_lines closing_line listing_of job_q_too_open job_q_parting alike
listing_figures = record { stopped_line = refl; job_q_figure = refl; no_bytes = refl; too_open_figure = refl; parting = refl }
