-- What the call `read` answers. Definitions only.
use Rattle.std.specs.Prelude.{cond, List, ℕ, eqb, Result, Ok, Err}
use Rattle.job.specs.declared.questions.Question.{Question}
use Rattle.reader.specs.declared.Held.{Held}
use Rattle.job.specs.Job.{sections}
use Rattle.job.specs.Format.{listing_steps, job_of}
use Rattle.job.specs.Questions.{refusal}
use Rattle.job.specs.Refusals.{number}

-- An answer in document 01's terms: the number of the question that got a no ("A no gives the number alone"), or the section count and the listing's steps.
pub data ReadAnswer : Type 0 where
  refused : ℕ → ReadAnswer
  accepted : ℕ → ℕ → ReadAnswer

-- each case of what the code answers, in document 01's terms
abbrev pub paper_read : Result Held Question → ReadAnswer
paper_read (Err question) = refused (number question)
paper_read (Ok held) = accepted held.sections held.steps

-- what `read` is to answer
unfoldable pub read_answer : List ℕ → ReadAnswer
read_answer job = cond (eqb (refusal job) 0) (accepted (sections (job_of job)) (listing_steps job)) (refused (refusal job))
