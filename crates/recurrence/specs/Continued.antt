-- Two laws over every list of calls after a start that isn't refused. Definitions only.
use Rattle.std.specs.Prelude.{◌≡◌, true, List, ℕ, ◌<◌, get_or}
use Rattle.std.specs.Float.Ieee.Scale.{finite}
use Rattle.fields.specs.Real.{zero64}
use Rattle.job.specs.Format.{job_of}
use Rattle.recurrence.specs.Scan.{acceptable}
use Rattle.recurrence.specs.Calls.{Row, Rows, in_use, state_in}
use Rattle.recurrence.specs.Lent.{LentCall, Started, held_at_start, held_by, carried, Chained}

-- what holds of the rows that the last call left
unfoldable pub AfterCalls : (List ℕ → Rows → Type 0) → Type 0
AfterCalls holding =
    (job : List ℕ) (lent : Rows) → Started job lent → (cs : List LentCall) → Chained job (held_at_start job lent) cs
    → holding job (held_by job lent cs).rows

-- All rows but the spare are finite up to the count in use, so no entry that demand 3 speaks of is a NaN: equal numbers are equal bits.
abbrev pub AllFinite : Type 0
AllFinite = AfterCalls (λ job rows. (x : Row) → carried x ≡ true → (s : ℕ) → s < in_use (job_of job) x → finite (get_or (rows x) s zero64) ≡ true)

-- Question 22 gets a yes: a run can always be carried on.
abbrev pub CanGoOn : Type 0
CanGoOn = AfterCalls (λ job rows. acceptable (job_of job) (state_in (job_of job) rows) ≡ true)
