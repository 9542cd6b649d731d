-- Steps over the rows, one and several: one step by what its scan finds, and steps that follow others. Assumes nothing.
use mathlib.Core.Path.{◌≡◌, refl, sym, ap, ◌∙◌}
use mathlib.Core.Bool.{true≢false}
use mathlib.Core.List.{List}
use Rattle.std.specs.Prelude as Std
use Rattle.std.specs.Prelude.{Ok, Err, is_ok, ⊤, MatchResult}
use Prim.Native.Nat.{ℕ, ◌+◌, ◌-◌, ◌<◌}
use native.Mathlib.Omega.{arith}
use lib.ListN.{length}
use Rattle.job.specs.Job.{Job}
use Rattle.job.specs.Format.{job_of}
use Rattle.recurrence.specs.State.{State}
use Rattle.recurrence.specs.Step.{advanced}
use Rattle.recurrence.specs.Scan.{not_finite, parted, scan}
use Rattle.recurrence.specs.Run.{Run, Result, ran, steps}
use Rattle.recurrence.specs.Calls.{Row, Rows, state_in}
use Rattle.recurrence.proofs.EachRow.{Each, untupled}
use Rattle.recurrence.proofs.RowLaws.{Enough, enough_each, each_enough}
use Rattle.recurrence.proofs.RunLaws.{steps_on, steps_stop, and_then, steps_join, steps_count}
use Rattle.section.specs.declared.Fault.{Fault}
use Rattle.section.specs.declared.Fault.TheVariants.{NotFinite, Parted}
use Rattle.section.specs.Faults.{found_fault}
use Rattle.time_step.specs.declared.Stopped.{Stopped}
use Rattle.time_step.specs.StepsInRows.{Ready, ending_of, result_of, StepsInRows}

-- what a run answers
abbrev Answer : Type 0
Answer = Std.Result ℕ Stopped

-- ---- rows that keep their lengths

abbrev pub SameSize : Rows → Rows → Row → Type 0
SameSize before after x = length (after x) ≡ length (before x)

abbrev pub SameSizes : Rows → Rows → Type 0
SameSizes before after = Each (SameSize before after)

-- question 20 row by row
pub ready_enough : {job : List ℕ} {r : Rows} → Ready job r → Enough (job_of job) r
ready_enough k = enough_each _ _ k.enough

pub ready_kept : {job : List ℕ} {a : Rows} (b : Rows) → SameSizes a b → Ready job a → Ready job b
ready_kept {a = a} b z k =
    record { accepted = k.accepted; enough = each_enough _ b (λ x. omega (arith, untupled (SameSize a b) z x, ready_enough k x)) }

-- ---- one step, by what its scan finds

module _ (j : Job) (m : ℕ) (st : State) where
  pub step_done : {x : ⊤} → found_fault (Ok x) ≡ scan j (advanced j (m + 1) st) → result_of (Ok (m + 1)) (advanced j (m + 1) st) ≡ steps j 1 m st
  unfolding result_of found_fault steps
  step_done e = sym (steps_on j m st 0 (sym e))

  pub step_stops : (f : Fault) → found_fault (Err f) ≡ scan j (advanced j (m + 1) st) → result_of (Err record { steps = m; fault = f }) st ≡ steps j 1 m st
  unfolding result_of ending_of found_fault
  step_stops (NotFinite s) e = sym (steps_stop j m st 0 not_finite s (sym e))
  step_stops (Parted s) e = sym (steps_stop j m st 0 parted s (sym e))

-- what a check answers, handed on with the steps done: a fault from a fault, and none from none
abbrev pub HandedOn : ℕ → Std.Result ⊤ Fault → Std.Result ⊤ Stopped → Type 0
HandedOn m found told = MatchResult found (λ x. told ≡ Ok x) (λ f. told ≡ Err record { steps = m; fault = f })

pub fault_told : (m : ℕ) (found : Std.Result ⊤ Fault) {told : Std.Result ⊤ Stopped} {e : Stopped} → is_ok told ≡ is_ok found → HandedOn m found told → told ≡ Err e
    → (found ≡ Err e.fault) × (e ≡ record { steps = m; fault = e.fault })
fault_told m (Ok x) same h is = cc
fault_told m (Err f) same h is = (cc, cc)

pub none_told : (found : Std.Result ⊤ Fault) {told : Std.Result ⊤ Stopped} {x : ⊤} → is_ok told ≡ is_ok found → told ≡ Ok x → found ≡ Ok x
none_told (Ok y) same is = refl
none_told (Err f) same is = absurd (true≢false (sym (ap is_ok is) ∙ same))

-- ---- steps after others, of which a left the state `new`

module _ (j : Job) (m a : ℕ) (st new : State) where
  abbrev more : ℕ → Run → Result
  more b r = steps j b r.done r.state

  -- they are done, and the next b come to x
  pub steps_more : (k : ℕ) → result_of (Ok k) new ≡ steps j a m st → (b : ℕ) {x : Result} → x ≡ steps j b k new → x ≡ steps j (a + b) m st
  unfolding result_of and_then
  steps_more k first b next = next ∙ sym (steps_join j a b m st ∙ ap (and_then (more b)) (sym first))

  -- a fault stopped them, and no more are done
  pub steps_end : (e : Stopped) → result_of (Err e) new ≡ steps j a m st → (b : ℕ) → result_of (Err e) new ≡ steps j (a + b) m st
  unfolding result_of ending_of and_then
  steps_end e first b = go e.fault first
    where
      go : (f : Fault) → ran record { done = e.steps; state = new } (ending_of f) ≡ steps j a m st → ran record { done = e.steps; state = new } (ending_of f) ≡ steps j (a + b) m st
      go (NotFinite s) first = sym (steps_join j a b m st ∙ ap (and_then (more b)) (sym first))
      go (Parted s) first = sym (steps_join j a b m st ∙ ap (and_then (more b)) (sym first))

  -- where they are done, they are as many as were asked for
  pub steps_all : {k : ℕ} → result_of (Ok k) new ≡ steps j a m st → k ≡ m + a
  unfolding result_of
  steps_all {k} first = steps_count j a m st record { done = k; state = new } (sym first)

-- ---- steps over the rows

module _ (job : List ℕ) (m : ℕ) (r : Rows) where
  abbrev j : Job
  j = job_of job

  pub runs_none : StepsInRows job m 0 r r (Ok m)
  unfolding result_of steps
  runs_none = record { result_is = refl; rest = λ x. refl }

  module _ {a : ℕ} {x : Rows} where
    pub runs_more : {b k : ℕ} {y : Rows} {last : Answer} → StepsInRows job m a r x (Ok k) → StepsInRows job k b x y last → StepsInRows job m (a + b) r y last
    runs_more {b} first next = record {
      result_is = steps_more j m a (state_in j r) (state_in j x) _ first.result_is b next.result_is;
      rest = λ y. next.rest y ∙ first.rest y;
    }

    pub runs_end : {e : Stopped} → StepsInRows job m a r x (Err e) → (b : ℕ) → StepsInRows job m (a + b) r x (Err e)
    runs_end {e} first b = record { result_is = steps_end j m a (state_in j r) (state_in j x) e first.result_is b; rest = first.rest }

-- ---- a run of which i steps are done, and one step more

module _ (job : List ℕ) (done : ℕ) (r : Rows) where
  pub way_none : StepsInRows job done 0 r r (Ok (done + 0))
  way_none = let z : done + 0 ≡ done = omega arith in rw z (runs_none job done r)

  module _ {i : ℕ} {a : Rows} (runs : StepsInRows job done i r a (Ok (done + i))) {b : Rows} where
    pub way_next : {k : ℕ} → StepsInRows job (done + i) 1 a b (Ok k) → StepsInRows job done (i + 1) r b (Ok (done + (i + 1)))
    way_next {k} next =
        let all : k ≡ done + (i + 1) = omega (arith, steps_all (job_of job) (done + i) 1 (state_in (job_of job) a) (state_in (job_of job) b) next.result_is) in
        rw all at (runs_more job done r runs next)

    pub way_stop : {e : Stopped} {count : ℕ} → StepsInRows job (done + i) 1 a b (Err e) → i < count → StepsInRows job done count r b (Err e)
    way_stop {count = count} next h =
        let e : i + 1 + (count - (i + 1)) ≡ count = omega arith in
        rw e at (runs_end job done r (runs_more job done r runs next) (count - (i + 1)))
