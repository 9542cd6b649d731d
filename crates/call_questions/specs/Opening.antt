-- The questions that the start and the run-on begin with. Inner definitions: no public call cites them.
use Rattle.std.specs.Prelude.{Bool, cond, List, ℕ, leb, eqb}
use Rattle.job.specs.Job.{Job, sections}
use Rattle.job.specs.Format.{listing_steps, job_of}
use Rattle.job.specs.Questions.{refusal}
use Rattle.reader.specs.Answer.{ReadAnswer, refused, accepted}
use Rattle.recurrence.specs.Calls.{Row, gathered, every, in_use}
use Rattle.call_questions.specs.declared.Lengths.{Lengths}

-- the length of each row, by its name; and question 20 of these lengths
abbrev pub length_of : Lengths → Row → ℕ
length_of l = gathered l.heads l.flows l.highest l.lowest l.speeds l.inflows l.spare

abbrev pub long_enough : Job → Lengths → Bool
long_enough j l = every (λ x. leb (in_use j x) (length_of l x))

-- the questions to a job, then 20, whose answer is `enough`: the number of the first no, or what the job holds
unfoldable pub first_asked : List ℕ → Bool → ReadAnswer
first_asked job enough =
    cond (eqb (refusal job) 0) (cond enough (accepted (sections (job_of job)) (listing_steps job)) (refused 20)) (refused (refusal job))
