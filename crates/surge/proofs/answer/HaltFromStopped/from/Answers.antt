-- How a stop is answered: as 40 or 41 with the steps done and the section, in document 01's terms. Assumes nothing.
use Rattle.std.proofs.Common.{refl}
use Rattle.recurrence.specs.Scan.{cause_number}
use Rattle.recurrence.specs.Run.{answer_of, stop_answer}
use Rattle.surge.specs.Answers.{paper_answer}
use Rattle.time_step.specs.StepsInRows.{ending_of, result_of}
use Rattle.surge.proofs.answer.HaltFromStopped.from.Goals as goal

pub returns-in-NotFinite : goal.returns-in-NotFinite
unfolding paper_answer answer_of stop_answer cause_number result_of ending_of
returns-in-NotFinite c = λ st. rw c.in-NotFinite.is refl

pub returns-in-Parted : goal.returns-in-Parted
unfolding paper_answer answer_of stop_answer cause_number result_of ending_of
returns-in-Parted c = λ st. rw c.in-Parted.is refl
