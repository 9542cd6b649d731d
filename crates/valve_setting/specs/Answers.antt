-- What the call answers and leaves, in document 02's terms. Definitions only.
use Rattle.std.specs.Prelude.{Option, Some, None, Result, Ok, Err, Float}
use Rattle.job.specs.declared.questions.Question.{Question}
use Rattle.job.specs.Refusals.{number}
use Rattle.recurrence.specs.Slices.{LentSlice}
use Rattle.setting.specs.Setting.{Answer, refused, none, coefficient, Called}

-- document 02's answer for each case: the number of the question that got a no, 'none', or the coefficient
abbrev pub paper_setting : Result (Option Float) Question → Answer
paper_setting (Err question) = refused (number question)
paper_setting (Ok None) = none
paper_setting (Ok (Some a)) = coefficient a

-- what a call leaves in the two lent rows, and its answer
abbrev pub leaves : LentSlice → LentSlice → Result (Option Float) Question → Called
leaves heads flows answer = record { heads = heads.exit.now; flows = flows.exit.now; answer = paper_setting answer }
