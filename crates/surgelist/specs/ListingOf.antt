-- What `surgelist` prints for a job's bytes (document 01, 'Listing'). Definitions only.
use Rattle.std.specs.Prelude.{List, [], ◌++◌, ℕ}
use Rattle.job.specs.Job.{sections}
use Rattle.job.specs.Format.{listing_steps, job_of}
use Rattle.recurrence.specs.State.{Point, start_state, point_at}
use Rattle.recurrence.specs.Run.{Result, refused, ran, Answer, answer_of, steps}
use Rattle.recurrence.specs.Calls.{read_first}
use Rattle.listing_text.specs.Listing.{line_text, lines_text, closing_text}

-- the run of a job: the questions to it, and from the start the "steps for the listing"
unfoldable pub run_of : List ℕ → Result
run_of job = read_first job (λ j. steps j (listing_steps job) 0 (start_state j))

-- a section's line by what the section holds
unfoldable pub point_line : ℕ → Point → List ℕ
point_line s p = line_text s p.head p.flow p.highest p.lowest

-- "It prints, without a header, a line per section .. a refused job prints only `refused n`." A stop is not a refusal.
unfoldable pub section_lines : ℕ → Result → List ℕ
section_lines count (refused n) = []
section_lines count (ran r e) = lines_text (λ s. point_line s (point_at r.state s)) count

-- "Last comes" the closing line of the answer.
unfoldable pub closing_line : Answer → List ℕ
closing_line a = closing_text a.number a.steps a.section

unfoldable pub listing_of : List ℕ → List ℕ
listing_of job = let r = run_of job in section_lines (sections (job_of job)) r ++ closing_line (answer_of r)
