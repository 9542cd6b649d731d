-- What start and run-on answer and leave, in document 01's terms. Definitions only.
use Rattle.std.specs.Prelude.{ℕ, Result, Ok, Err}
use Rattle.job.specs.Refusals.{number}
use Rattle.recurrence.specs.Run as Run
use Rattle.recurrence.specs.Calls.{Rows, Called}
use Rattle.surge.specs.declared.answer.Halt.{Halt}
use Rattle.surge.specs.declared.answer.Halt.TheVariants.{Refused, NotFinite, Parted}

-- This paper's number and values for each case: the number of a question or of a stop, 0 where there is neither; the steps done in all; the section of
-- a stop. "A no gives the number alone."
unfoldable pub paper_answer : Result ℕ Halt → Run.Answer
paper_answer (Ok m) = record { number = 0; steps = m; section = 0 }
paper_answer (Err (Refused q)) = record { number = number q; steps = 0; section = 0 }
paper_answer (Err (NotFinite m s)) = record { number = 40; steps = m; section = s }
paper_answer (Err (Parted m s)) = record { number = 41; steps = m; section = s }

-- what a call leaves in the rows, and its answer
abbrev pub call_leaves : Rows → Result ℕ Halt → Called
call_leaves rows answer = record { rows = rows; answer = paper_answer answer }
