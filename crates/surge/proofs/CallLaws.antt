-- What a call leaves in the rows, and its answer: refused, begun, or run on. Assumes nothing.
use mathlib.Core.Path.{◌≡◌, refl, sym, ap, ◌∙◌}
use mathlib.Core.Bool.{Bool, true, false, cond}
use mathlib.Core.List.{List, map}
use Rattle.std.specs.Prelude as Std
use Rattle.std.specs.Prelude.{Ok, Err, IsErrAnd}
use Prim.Native.Nat.{ℕ, ◌+◌, ◌-◌, ◌*◌, ◌≤◌}
use native.Mathlib.Omega.{arith}
use lib.Dec.{leb, eqb}
use lib.ListN.{length, take, drop}
use lib.Ieee.{Float}
use borrow.Author.Tests.{eq-eqb, eqb-true, leb-true}
use Rattle.fields.specs.Real.{zero64}
use Rattle.loops.specs.Loops.{listed}
use Rattle.loops.specs.Fill.{fill}
use Rattle.job.specs.Job.{Job, sections, initial_at}
use Rattle.job.specs.Format.{job_of, listing_steps, pipe_table, node_table, pipe_count, node_count}
use Rattle.reader.specs.Answer as Read
use Rattle.job.specs.declared.questions.Question.{Question}
use Rattle.job.specs.declared.questions.Question.TheVariants.{StepsInAll, LentState}
use Rattle.job.specs.Refusals.{number}
use Rattle.job.specs.Questions.{refusal, Accepted}
use Rattle.job.proofs.Accepted.{nodes_length}
use Rattle.recurrence.specs.State.{Point, Drive, State, start_point, start_drive, start_state}
use Rattle.recurrence.specs.Scan.{acceptable}
use Rattle.recurrence.specs.Run.{Result, refused, ran, completed, answer_of, ask, started, start, steps, within_limit, run_on}
use Rattle.recurrence.specs.Calls as row
use Rattle.recurrence.specs.Calls.{Row, Rows, gathered, every, in_use, enough_lent, state_in, holds, rows_of, rows_after, read_first, called, start_result, start_call, run_on_result, run_on_call}
use Rattle.recurrence.specs.Lent.{carried}
use Rattle.loops.proofs.Tests.{both}
use Rattle.loops.proofs.Listed.{map-listed, listed_same}
use Rattle.recurrence.proofs.EachRow.{each}
use Rattle.recurrence.proofs.RowLaws.{Enough, state_held, row_left}
use Rattle.loops.proofs.Fill.{take_filled}
use Rattle.surge.specs.declared.answer.Halt.{Halt}
use Rattle.surge.specs.declared.answer.Halt.TheVariants.{Refused}
use Rattle.time_step.specs.declared.Stopped.{Stopped}
use Rattle.call_questions.specs.Opening.{first_asked}
use Rattle.surge.specs.Answers.{paper_answer, call_leaves}
use Rattle.time_step.specs.StepsInRows.{Ready, SameRest, result_of}
use Rattle.pipe_layout.proofs.Acceptance.{four_a_pipe}
use Rattle.time_step.proofs.StepInRows.{filled_rest}

-- ---- the questions

-- What is learnt from the answer to the questions to a job and to 20.
module _ (job : List ℕ) (r : Rows) where
  abbrev j : Job
  j = job_of job

  -- question 20, by the rows' lengths
  abbrev enough : Bool
  enough = every (λ x. leb (in_use j x) (length (r x)))

  -- a refusal is that of every call that begins so
  first_refused : (q : ℕ) → Read.refused q ≡ first_asked job enough → (call : Job → Result) → read_first job (λ j. ask 20 (enough_lent j r) (call j)) ≡ refused q
  unfolding first_asked read_first enough_lent ask
  first_refused q e call = go (eqb (refusal job) 0) enough e
    where
      go : (read yes-20 : Bool) → Read.refused q ≡ cond read (cond yes-20 (Read.accepted (sections j) (listing_steps job)) (Read.refused 20)) (Read.refused (refusal job))
          → cond read (cond yes-20 (call j) (refused 20)) (refused (refusal job)) ≡ refused q
      go true true e = cc
      go true false e = cc
      go false yes-20 e = cc

  -- a yes to all of them
  pub opened : (s m : ℕ) → Read.accepted s m ≡ first_asked job enough → (Ready job r) × (s ≡ sections j)
  unfolding first_asked enough_lent
  opened s m e = go (eqb (refusal job) 0) refl enough refl e
    where
      go : (read : Bool) → eqb (refusal job) 0 ≡ read → (yes-20 : Bool) → enough ≡ yes-20
          → Read.accepted s m ≡ cond read (cond yes-20 (Read.accepted (sections j) (listing_steps job)) (Read.refused 20)) (Read.refused (refusal job))
          → (Ready job r) × (s ≡ sections j)
      go true er true ee e = (record { accepted = eqb-true _ _ er; enough = ee }, cc)
      go true er false ee e = let z : ◌≡◌ {A = ℕ} 0 1 = cc in absurd (omega arith)
      go false er yes-20 ee e = let z : ◌≡◌ {A = ℕ} 0 1 = cc in absurd (omega arith)

  first_passed : Ready job r → (call : Job → Result) → read_first job (λ j. ask 20 (enough_lent j r) (call j)) ≡ call j
  unfolding read_first ask
  first_passed o call = rw (eq-eqb (refusal job) 0 o.accepted, o.enough)

  -- a refused call leaves the rows as they were
  refused_leaves : (q : Question) {x : Result} → x ≡ refused (number q) → call_leaves r (Err (Refused q)) ≡ called job r x
  unfolding called rows_after answer_of paper_answer
  refused_leaves q e = rw e

  pub start_refused : (q : Question) → Read.refused (number q) ≡ first_asked job enough → call_leaves r (Err (Refused q)) ≡ start_call job r
  unfolding start_call start_result start
  start_refused q e = refused_leaves q (first_refused (number q) e _)

  pub run_refused : (m N : ℕ) (q : Question) → Read.refused (number q) ≡ first_asked job enough → call_leaves r (Err (Refused q)) ≡ run_on_call job m N r
  unfolding run_on_call run_on_result run_on
  run_refused m N q e = refused_leaves q (first_refused (number q) e _)

  module _ (o : Ready job r) where
    pub start_ran : start_call job r ≡ called job r (ran (started j) completed)
    unfolding start_call start_result start
    start_ran = ap (called job r) (first_passed o _)

    module _ (m N : ℕ) where
      -- questions 21 and 22 of the run-on
      pub run_beyond : within_limit m N ≡ false → call_leaves r (Err (Refused StepsInAll)) ≡ run_on_call job m N r
      unfolding run_on_call run_on_result run_on ask
      run_beyond l = refused_leaves StepsInAll (first_passed o _ ∙ rw l)

      pub run_unacceptable : within_limit m N ≡ true → acceptable j (state_in j r) ≡ false → call_leaves r (Err (Refused LentState)) ≡ run_on_call job m N r
      unfolding run_on_call run_on_result run_on ask
      run_unacceptable l a = refused_leaves LentState (first_passed o _ ∙ rw (l, a))

      pub run_ran : within_limit m N ≡ true → acceptable j (state_in j r) ≡ true → run_on_call job m N r ≡ called job r (steps j N m (state_in j r))
      unfolding run_on_call run_on_result run_on ask
      run_ran l a = ap (called job r) (first_passed o _ ∙ rw (l, a))

-- the limit that question 21 sets
pub limit_kept : (m N : ℕ) → within_limit m N ≡ true → m + N ≤ 1000000
unfolding within_limit
limit_kept m N h = let t = both (leb m 1000000) (leb N (1000000 - m)) h in omega (arith, leb-true m 1000000 t.0, leb-true N (1000000 - m) t.1)

-- ---- what a stop is told as, by what `?` makes of it

pub stop_told : (e : Stopped) (answer : Std.Result ℕ Halt) → IsErrAnd answer (λ h. (st : State) → paper_answer (Err h) ≡ answer_of (result_of (Err e) st))
    → (st : State) → paper_answer answer ≡ answer_of (result_of (Err e) st)
stop_told e (Ok n) h st = absurd h
stop_told e (Err x) h st = h st

-- ---- the rows of an unrefused call

module _ (job : List ℕ) (r : Rows) (ok : Accepted job) where
  abbrev accepted : Job
  accepted = job_of job

  -- a row filled over one that past the entries in use is as lent
  filled_left : (st : State) (x : Row) (g : ℕ → Float) (base : List Float) {l : List Float} {m : ℕ} → m ≡ in_use accepted x → in_use accepted x ≤ length base
      → drop (in_use accepted x) base ≡ drop (in_use accepted x) (r x) → l ≡ fill g base 0 m → listed (in_use accepted x) g ≡ holds accepted st x → l ≡ rows_of accepted st r x
  filled_left st x g base {l} e long rest filled h =
      let up_to : l ≡ fill g base 0 (in_use accepted x) = filled ∙ ap (fill g base 0) e in
      row_left accepted st r x l (ap (take (in_use accepted x)) up_to ∙ take_filled zero64 (in_use accepted x) g base long ∙ h) (filled_rest g base (in_use accepted x) up_to ∙ rest)

  -- the spare cleared over one that past the entries in use is as lent
  spare_left : (st : State) (base : List Float) {l : List Float} → in_use accepted row.spare ≤ length base
      → drop (in_use accepted row.spare) base ≡ drop (in_use accepted row.spare) (r row.spare) → l ≡ fill (λ s. zero64) base 0 (pipe_count (pipe_table job) * 4) → l ≡ rows_of accepted st r row.spare
  unfolding holds
  spare_left st base long rest cleared = filled_left st row.spare _ base (sym (four_a_pipe job ok)) long rest cleared (listed_same _ _)

  -- the start: the initial heads and flows, the pairs, and the spare cleared
  pub begun : {n : ℕ} → n ≡ sections accepted → (long : Enough accepted r) {heads flows highest lowest speeds inflows spare : List Float}
      → heads ≡ fill (λ s. (initial_at accepted s).head) (r row.heads) 0 n → flows ≡ fill (λ s. (initial_at accepted s).flow) (r row.flows) 0 n
      → highest ≡ fill (λ s. (initial_at accepted s).head) (r row.highest) 0 n → lowest ≡ fill (λ s. (initial_at accepted s).head) (r row.lowest) 0 n
      → speeds ≡ fill (λ y. (start_drive accepted y).speed) (r row.speeds) 0 (node_count (node_table job))
      → inflows ≡ fill (λ y. (start_drive accepted y).inflow) (r row.inflows) 0 (node_count (node_table job))
      → spare ≡ fill (λ s. zero64) (r row.spare) 0 (pipe_count (pipe_table job) * 4)
      → call_leaves (gathered heads flows highest lowest speeds inflows spare) (Ok 0) ≡ called job r (ran (started accepted) completed)
  unfolding called rows_after holds answer_of paper_answer started start_state start_point
  begun count long {heads} {flows} {highest} {lowest} {speeds} {inflows} {spare} eh eq eu el ev ei es =
      let st = start_state accepted in
      let nodes = sym (nodes_length job ok) in
      let pairs : (f : Drive → Float) → listed (length accepted.nodes) (λ y. f (start_drive accepted y)) ≡ map f st.drives = λ f. sym (map-listed f _ _) in
      let initial : (f : Point → Float) → listed (sections accepted) (λ s. f (start_point (initial_at accepted s))) ≡ map f st.points = λ f. sym (map-listed f _ _) in
      let e : (x : Row) → gathered heads flows highest lowest speeds inflows spare x ≡ rows_of accepted st r x =
      each _
      (filled_left st row.heads _ _ count (long row.heads) refl eh (initial (λ p. p.head)))
      (filled_left st row.flows _ _ count (long row.flows) refl eq (initial (λ p. p.flow)))
      (filled_left st row.highest _ _ count (long row.highest) refl eu (initial (λ p. p.highest)))
      (filled_left st row.lowest _ _ count (long row.lowest) refl el (initial (λ p. p.lowest)))
      (filled_left st row.speeds _ _ nodes (long row.speeds) refl ev (pairs (λ d. d.speed)))
      (filled_left st row.inflows _ _ nodes (long row.inflows) refl ei (pairs (λ d. d.inflow)))
      (spare_left st _ (long row.spare) refl es) in
      λ i. record { rows = λ x. e x i; answer = record { number = 0; steps = 0; section = 0 } }

  -- the run-on: the rows as the run left them, and the spare cleared
  module _ (a : Rows) (rest : SameRest accepted r a) (long : Enough accepted a) (x : Result) (ended : Std.Result ℕ Stopped) (is : result_of ended (state_in accepted a) ≡ x) where
    rows_left : rows_after accepted r (result_of ended (state_in accepted a)) ≡ rows_of accepted (state_in accepted a) r
    unfolding rows_after result_of
    rows_left = go ended
      where
        go : (e : Std.Result ℕ Stopped) → rows_after accepted r (result_of e (state_in accepted a)) ≡ rows_of accepted (state_in accepted a) r
        go (Ok n) = refl
        go (Err e) = refl

    pub run_left : (answer : Std.Result ℕ Halt) {spare : List Float} → paper_answer answer ≡ answer_of (result_of ended (state_in accepted a))
        → spare ≡ fill (λ s. zero64) (a row.spare) 0 (pipe_count (pipe_table job) * 4)
        → call_leaves (gathered (a row.heads) (a row.flows) (a row.highest) (a row.lowest) (a row.speeds) (a row.inflows) spare) answer ≡ called job r x
    unfolding called holds
    run_left answer {spare} e es =
        let st = state_in accepted a in
        let kept : (y : Row) → carried y ≡ true → a y ≡ rows_of accepted st r y =
        λ y k. row_left accepted st r y (a y) (state_held accepted a long y k) (rest y) in
        let rows : (y : Row) → gathered (a row.heads) (a row.flows) (a row.highest) (a row.lowest) (a row.speeds) (a row.inflows) spare y ≡ rows_of accepted st r y =
        each _ (kept row.heads refl) (kept row.flows refl) (kept row.highest refl) (kept row.lowest refl) (kept row.speeds refl) (kept row.inflows refl)
        (spare_left st _ (long row.spare) (rest row.spare) es) in
        rw (← is, rows_left) (λ i. record { rows = λ y. rows y i; answer = e i })
