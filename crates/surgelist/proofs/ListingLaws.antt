-- What the program's calls write is a job's listing: a refused job's closing line alone; else rows that hold every job pass question 20 and the listing's
-- steps question 21, the run-on goes from the start's rows, and the rows that it leaves hold, section by section, the state that the run left.
-- Assumes nothing.
use mathlib.Core.Path.{◌≡◌, refl, ap, ap₂, ◌∙◌}
use mathlib.Core.Bool.{true}
use mathlib.Core.List.{List, ◌++◌}
use Prim.Native.Nat.{ℕ, zero, suc, ◌<◌}
use native.Mathlib.Omega.{arith}
use lib.Ieee.{nan}
use borrow.Author.Tests.{ne_eqb}
use Rattle.fields.specs.Real.{zero64}
use Rattle.job.specs.Job.{Job, sections}
use Rattle.job.specs.Format.{listing_steps, job_of}
use Rattle.job.specs.Questions.{refusal, steps_fit, Accepted}
use Rattle.job.proofs.Accepted.{tables_right, pipe_limits, node_limits, section_limit}
use Rattle.recurrence.specs.State.{point_at, start_state}
use Rattle.recurrence.specs.Run.{refused, ran, Answer, answer_of, ask, within_limit, started, start, run_on}
use Rattle.recurrence.specs.Calls.{heads, flows, highest, lowest, Rows, enough_lent, point_in, state_in, rows_of, rows_after, Called, read_first, called, start_result, start_call, run_on_result, run_on_call}
use Rattle.recurrence.proofs.Runs.{Sized, RanSteps, steps_ran}
use Rattle.recurrence.proofs.EachRow.{each}
use Rattle.recurrence.proofs.RowLaws.{each_enough, holds_point, holds_state, rows_hold_lem}
use Rattle.recurrence.proofs.TiedCalls.{start_sized}
use Rattle.recurrence.proofs.GoesOn.{start_acceptable}
use Rattle.loops.proofs.Within.{get_or_within}
use Rattle.listing_text.specs.Listing.{lines_text, closing_text, AtFront}
use Rattle.listing_text.specs.InnerContracts.{row_line}
use Rattle.surgelist.specs.ListingOf.{run_of, point_line, section_lines, closing_line, listing_of}
use Rattle.surgelist.specs.LentRows.{Long, text_of}

-- ---- lists and lines

-- within a list nothing turns on what is read past its end
lines_cong : (count : ℕ) (f g : ℕ → List ℕ) → ((s : ℕ) → s < count → f s ≡ g s) → lines_text f count ≡ lines_text g count
unfolding lines_text
lines_cong zero f g h = refl
lines_cong (suc n) f g h = ap₂ ◌++◌ (lines_cong n f g (λ s l. h s (omega arith))) (h n (omega arith))

row_point : (r : Rows) → Long r → (s : ℕ) → s < 512 → row_line (r heads) (r flows) (r highest) (r lowest) s ≡ point_line s (point_in r s)
unfolding point_line point_in
row_point r long s l =
    let a = get_or_within (r heads) s nan zero64 (omega arith) in
    let b = get_or_within (r flows) s nan zero64 (omega arith) in
    let c = get_or_within (r highest) s nan zero64 (omega arith) in
    let d = get_or_within (r lowest) s nan zero64 (omega arith) in
    rw (a, b, c, d)

-- ---- what is written

-- one text at the front of a slice is another, where the two are equal
pub front_is : {t u held left : List ℕ} {n : ℕ} → AtFront t held n left → t ≡ u → AtFront u held n left
front_is w e = rw e at w

-- the lines by the rows and the closing line by an answer's numbers
pub front_text : {count number steps section k : ℕ} {held left : List ℕ} (r : Rows) (a : Answer) (n : ℕ)
    → AtFront (lines_text (row_line (r heads) (r flows) (r highest) (r lowest)) count ++ closing_text number steps section) held k left
    → count ≡ n → number ≡ a.number → steps ≡ a.steps → section ≡ a.section → AtFront (text_of n r a) held k left
unfolding closing_line
front_text r a n w c d e f = rw (c, d, e, f) at w

-- ---- a refused job

run_refused : (job : List ℕ) → (Accepted job → ⊥) → run_of job ≡ refused (refusal job)
unfolding run_of read_first
run_refused job h = rw (ne_eqb (refusal job) 0 h)

pub refused_listing : (job : List ℕ) (q : ℕ) (line : ℕ → List ℕ) → q ≡ refusal job → (Accepted job → ⊥) → lines_text line 0 ++ closing_text q 0 0 ≡ listing_of job
unfolding listing_of section_lines closing_line answer_of lines_text
refused_listing job q line e h = rw (e, run_refused job h)

-- ---- an accepted job

module _ (job : List ℕ) (ok : Accepted job) where
  abbrev j : Job
  j = job_of job

  -- questions 20 and 21, by questions 4, 5, 6 and 8
  long_enough_lem : (r : Rows) → Long r → enough_lent j r ≡ true
  long_enough_lem r l =
      let n = section_limit job ok in
      let p = (pipe_limits job ok).1 in
      let y = (node_limits job ok).1 in
      each_enough j r (each _ (omega arith) (omega arith) (omega arith) (omega arith) (omega arith) (omega arith) (omega arith))

  listing_within : within_limit 0 (listing_steps job) ≡ true
  unfolding within_limit steps_fit
  listing_within = (tables_right job ok).pairs.steps

  -- the rows that the start leaves hold the start's state
  begun_state : (lent : Rows) → Long lent → state_in j (start_call job lent).rows ≡ start_state j
  unfolding start_call start_result called read_first start ask started rows_after
  begun_state lent l =
      rw (ok, long_enough_lem lent l)
      (holds_state j (rows_of j (start_state j) lent) (start_state j) (λ x _. rows_hold_lem j (start_state j) lent (start_sized job) x) (start_sized job))

  -- what the run-on comes to from there
  run_is : (begun : Rows) → Long begun → state_in j begun ≡ start_state j → run_on_result job 0 (listing_steps job) begun ≡ run_of job
  unfolding run_on_result run_of read_first run_on ask
  run_is begun l e = rw (ok, long_enough_lem begun l, listing_within, e, start_acceptable job ok)

  -- the run of the listing's steps from the start
  whole : RanSteps j (listing_steps job) 0 (start_state j)
  whole = steps_ran j (listing_steps job) 0 (start_state j)

  run_ran : run_of job ≡ ran whole.run whole.ending
  unfolding run_of read_first
  run_ran = rw ok whole.is

  module _ (begun : Rows) (long : Long begun) (as-started : state_in j begun ≡ start_state j) (c : Called) (is-run-on : c ≡ run_on_call job 0 (listing_steps job) begun) (long-left : Long c.rows) where
    call_is : c ≡ called job begun (ran whole.run whole.ending)
    unfolding run_on_call
    call_is = is-run-on ∙ ap (called job begun) (run_is begun long as-started ∙ run_ran)

    point_is : (s : ℕ) → s < sections j → point_in c.rows s ≡ point_at whole.run.state s
    unfolding called rows_after
    point_is =
        let sized : Sized j whole.run.state = whole.sized (start_sized job) in
        holds_point j c.rows whole.run.state (λ y _. rw call_is (rows_hold_lem j whole.run.state begun sized y)) sized

    answer_is : c.answer ≡ answer_of (ran whole.run whole.ending)
    unfolding called
    answer_is = ap (λ (y : Called). y.answer) call_is

    ran_listing : text_of (sections j) c.rows c.answer ≡ listing_of job
    unfolding listing_of section_lines
    ran_listing =
        rw (run_ran, answer_is)
        (ap (λ (t : List ℕ). t ++ closing_line (answer_of (ran whole.run whole.ending)))
        (lines_cong (sections j) _ _ (λ s l. row_point c.rows long-left s (omega (arith, section_limit job ok)) ∙ ap (point_line s) (point_is s l))))

  -- the rows after the start and after the run-on, with their answers
  pub written_listing : {lent : Rows} {b c : Called} {N : ℕ} → Long lent → Long b.rows → Long c.rows
      → b ≡ start_call job lent → c ≡ run_on_call job 0 N b.rows → N ≡ listing_steps job → text_of (sections j) c.rows c.answer ≡ listing_of job
  written_listing {lent} {b} {c} l lb lc eb ec n =
      ran_listing b.rows lb (ap (λ (y : Called). state_in j y.rows) eb ∙ begun_state lent l) c (rw n at ec) lc
