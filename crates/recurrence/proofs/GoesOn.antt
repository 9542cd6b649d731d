-- The start of an accepted job is acceptable to question 22, by questions 14 and 15; a finished step keeps that, since its scan found no fault and an
-- envelope is the new head or what it was, and by question 12 each node's drive is judged somewhere; so every state that a list of calls leaves is
-- acceptable, and finite with it. Assumes nothing.
use mathlib.Core.Path.{◌≡◌, refl, ap, sym, ◌∙◌}
use mathlib.Core.Bool.{Bool, true, false, cond, not, ◌&&◌, ◌||◌, true≢false}
use mathlib.Core.List.{List, map}
use mathlib.Core.Option.{some}
use Prim.Native.Nat.{ℕ, zero, suc, ◌+◌, ◌≤◌, ◌<◌}
use native.Mathlib.Omega.{arith}
use lib.Dec.{eqb}
use lib.ListN.{length, get_or, get_elem?}
use lib.Ieee.{Float, lt, of_bits}
use lib.Ieee.Scale.{finite}
use borrow.Author.Tests.{eqb-true, eq-eqb, not-true}
use Rattle.fields.specs.Real.{zero64}
use Rattle.loops.proofs.Tests.{both, cond_all}
use Rattle.loops.proofs.All.{all_at, all_of}
use Rattle.loops.proofs.First.{first_each}
use Rattle.loops.proofs.Listed.{get_or-listed}
use Rattle.job.specs.Job.{Job, Kind, junction, reservoir, valve, pump, Laid, laid, sections, node_at, initial_at, floor_at, scheduled}
use Rattle.job.specs.Format.{job_of}
use Rattle.job.specs.Questions.{ends_at, Accepted}
use Rattle.job.proofs.Accepted.{nodes_length, accepted_met, accepted_reaches}
use Rattle.job.proofs.AcceptedValues.{section_finite, head_above_floor, scheduled_finite}
use Rattle.wave.specs.declared.HeadFlow.{HeadFlow}
use Rattle.recurrence.specs.State.{Point, Drive, State, no_point, no_drive, point_at, drive_at, drive_of, start_point, start_drive, start_state}
use Rattle.recurrence.specs.Step.{along_pipes, value_at, nodes_with, located, end_to_end, new_at, raised, lowered, updated, new_point, advanced}
use Rattle.recurrence.specs.Scan.{Cause, Fault, none, fault, not_finite, parted, finite_point, finite_drive, driven_at, fault_of, earlier, scan, finished, outcome_of, step, acceptable_at, acceptable}
use Rattle.recurrence.specs.Run.{played}
use Rattle.recurrence.specs.Calls.{Row, heads, flows, highest, lowest, speeds, inflows, spare, Rows, in_use, point_in, drive_in}
use Rattle.recurrence.specs.Lent.{carried, call_of, held_by}
use Rattle.recurrence.specs.Continued.{AfterCalls, AllFinite, CanGoOn}
use Rattle.recurrence.proofs.LaidPipes.{laid_some, laid_located, laid_spanned, laid_below}
use Rattle.recurrence.proofs.Runs.{Reached, finished_advanced, played_stands}
use Rattle.recurrence.proofs.RowLaws.{holds_state}
use Rattle.recurrence.proofs.RunLaws.{acceptable_rows}
use Rattle.recurrence.proofs.StepLaws.{advanced_at}
use Rattle.recurrence.proofs.TiedCalls.{begun, calls_follow}

-- ---- one point

-- what question 22 asks of a point, part by part
pub record Fit (floor : Float) (p : Point) : Type 0 where
  pub finite_point_lem : finite_point p ≡ true
  pub highest : finite p.highest ≡ true
  pub lowest : finite p.lowest ≡ true
  pub above : lt p.head floor ≡ false

fit_yes : (floor : Float) (p : Point) → Fit floor p → acceptable_at floor p ≡ true
unfolding acceptable_at
fit_yes floor p f = rw (f.finite_point_lem, f.highest, f.lowest, f.above)

yes_fit : (floor : Float) (p : Point) → acceptable_at floor p ≡ true → Fit floor p
unfolding acceptable_at
yes_fit floor p h =
    let a = finite_point p in
    let c = finite p.highest in
    let d = finite p.lowest in
    let w = both (a && c && d) (not (lt p.head floor)) h in
    let x = both (a && c) d w.0 in
    let y = both a c x.0 in
    record { finite_point_lem = y.0; highest = y.1; lowest = x.1; above = not-true _ w.1 }

-- what a finite point has
pub record Finite (p : Point) : Type 0 where
  pub head : finite p.head ≡ true
  pub flow : finite p.flow ≡ true

finite_fields : (p : Point) → finite_point p ≡ true → Finite p
unfolding finite_point
finite_fields p h = let w = both (finite p.head) (finite p.flow) h in record { head = w.0; flow = w.1 }

-- a point and a drive without a fault: all are finite, and the head is not below its floor
pub record Faultless (floor : Float) (p : Point) (d : Drive) : Type 0 where
  pub finite_point_lem : finite_point p ≡ true
  pub drive : finite_drive d ≡ true
  pub above : lt p.head floor ≡ false

stopped_here : {c : Cause} {s : ℕ} → fault c s ≡ none → ⊥
stopped_here e = let z : ◌≡◌ {A = ℕ} 0 1 = cc in omega arith

no_fault : (floor : Float) (s : ℕ) (p : Point) (d : Drive) → fault_of floor s p d ≡ none → Faultless floor p d
unfolding fault_of
no_fault floor s p d h = go (finite_point p) refl (finite_drive d) refl (lt p.head floor) refl h
  where
    go : (a : Bool) → finite_point p ≡ a → (b : Bool) → finite_drive d ≡ b → (c : Bool) → lt p.head floor ≡ c
        → cond (a && b) (cond c (fault parted s) none) (fault not_finite s) ≡ none → Faultless floor p d
    go true h true w false l e = record { finite_point_lem = h; drive = w; above = l }
    go true h true w true l e = absurd (stopped_here e)
    go true h false w c l e = absurd (stopped_here e)
    go false h b w c l e = absurd (stopped_here e)

-- the envelopes are the new head or what they were
updated_fit : (floor : Float) (new : HeadFlow) (old : Point) (d : Drive) → Fit floor old → Faultless floor (updated new old) d → Fit floor (updated new old)
unfolding updated raised lowered
updated_fit floor new old d f w =
    let head = (finite_fields (updated new old) w.finite_point_lem).head in
    record {
      finite_point_lem = w.finite_point_lem;
      highest = cond_all (λ x. finite x ≡ true) (lt old.highest new.head) head f.highest;
      lowest = cond_all (λ x. finite x ≡ true) (lt new.head old.lowest) head f.lowest;
      above = w.above;
    }

-- ---- a state: fit at each section, and finite at each node

pub record FitState (j : Job) (st : State) : Type 0 where
  pub points : (s : ℕ) → s < sections j → Fit (floor_at j s) (point_at st s)
  pub drives : (y : ℕ) → y < length j.nodes → finite_drive (drive_at st y) ≡ true

fit_acceptable : (j : Job) (st : State) → FitState j st → acceptable j st ≡ true
unfolding acceptable
fit_acceptable j st f =
    rw (all_of (λ s. acceptable_at (floor_at j s) (point_at st s)) (sections j) (λ s l. fit_yes _ _ (f.points s l)))
    (all_of (λ y. finite_drive (drive_at st y)) (length j.nodes) f.drives)

-- ---- the start: question 15 for the first scheduled speed

driven_finite : (k : Kind) (v : Float) → finite v ≡ true → finite_drive (drive_of k v zero64) ≡ true
unfolding drive_of no_drive finite_drive of_bits
driven_finite junction v h = refl
driven_finite reservoir v h = refl
driven_finite (valve a b) v h = refl
driven_finite (pump a b c) v h = rw h

start_fit : (job : List ℕ) → Accepted job → FitState (job_of job) (start_state (job_of job))
unfolding start_state point_at drive_at start_point start_drive finite_point
start_fit job ok = record {
  points = λ s l.
      let j = job_of job in
      let i = section_finite job ok s in
      rw (get_or-listed (sections j) (λ t. start_point (initial_at j t)) s no_point l)
      (record { finite_point_lem = rw (i.head, i.flow); highest = i.head; lowest = i.head; above = head_above_floor job ok s });
  drives = λ y l.
      let j = job_of job in
      rw (get_or-listed (length j.nodes) (start_drive j) y no_drive l)
      (driven_finite (node_at j y).kind (scheduled j 1 y) (scheduled_finite job ok 1 y (rw (nodes_length job ok) at l)));
}

pub start_acceptable : (job : List ℕ) → Accepted job → acceptable (job_of job) (start_state (job_of job)) ≡ true
start_acceptable job ok = fit_acceptable (job_of job) (start_state (job_of job)) (start_fit job ok)

-- ---- a step: question 12 gives each node a section where its drive is judged

-- section s is an end of node y, so that the scan judges y's drive there
pub record JudgedAt (j : Job) (y s : ℕ) : Type 0 where
  pub below : s < sections j
  pub driven : (st : State) → driven_at st (located (laid j) s) ≡ drive_at st y

at_the_finish : {A : Type 0} (n : ℕ) (start finish : A) (inside : ℕ → A) → 1 ≤ n → end_to_end n start finish inside n ≡ finish
unfolding end_to_end
at_the_finish zero a b f h = absurd (omega arith)
at_the_finish (suc n) a b f h = rw (eq-eqb (suc n) (suc n) refl)

judged_at : (job : List ℕ) → Accepted job → (y : ℕ) → y < length (job_of job).nodes → (s : ℕ) × JudgedAt (job_of job) y s
unfolding ends_at driven_at end_to_end
judged_at job ok y l =
    let j = job_of job in
    let met = accepted_met job ok y l in
    let laying = laid_some j met.number met.pipe met.listed in
    go met.number laying.0 laying.1 (eqb laying.0.pipe.start y) refl (eqb laying.0.pipe.finish y) refl (rw (← laying.2) at met.ends)
  where
    go : (p : ℕ) (l : Laid) → get_elem? (laid (job_of job)) p ≡ some l → (a : Bool) → eqb l.pipe.start y ≡ a → (b : Bool) → eqb l.pipe.finish y ≡ b
        → a || b ≡ true → (s : ℕ) × JudgedAt (job_of job) y s
    go p l e true q b r h =
        let j = job_of job in (
          l.first_section + 0,
          record { below = omega (arith, laid_below j p l e); driven = λ st. rw (laid_located j p l 0 e (omega arith)) (ap (drive_at st) (eqb-true _ _ q)) },
        )
    go p l e false q true r h =
        let j = job_of job in (
          l.first_section + l.pipe.reaches,
          record { below = laid_below j p l e; driven = λ st. rw (laid_located j p l l.pipe.reaches e (omega arith)) (at_the_finish l.pipe.reaches _ _ _ (accepted_reaches job ok p l.pipe (laid_spanned j p l e).pipe_is) ∙ ap (drive_at st) (eqb-true _ _ r)) },
        )
    go p l e false q false r h = absurd (true≢false (sym h))

-- no fault among several means none in each
no_earlier : (a b : Fault) → earlier a b ≡ none → (a ≡ none) × (b ≡ none)
unfolding earlier
no_earlier none b e = (refl, e)
no_earlier (fault c s) b e = (e, cc)

finished_clear : (j : Job) (n : ℕ) (old new : State) → step j n old ≡ finished new → scan j (advanced j n old) ≡ none
unfolding step outcome_of
finished_clear j n old new e = go (scan j (advanced j n old)) e
  where
    go : (o : Fault) → outcome_of (advanced j n old) o ≡ finished new → o ≡ none
    go none e = refl
    go (fault c s) e = cc

pub step_faultless : (j : Job) (n : ℕ) (old new : State) → step j n old ≡ finished new → (s : ℕ) → s < sections j
    → Faultless (floor_at j s) (point_at new s) (driven_at new (located (laid j) s))
unfolding scan
step_faultless j n old new e s l =
    let st = advanced j n old in
    rw (← (finished_advanced j n old new e))
    (no_fault _ _ _ _ (first_each earlier none no_earlier (sections j) (λ t. fault_of (floor_at j t) t (point_at st t) (driven_at st (located (laid j) t))) (finished_clear j n old new e) s l))

step_fit : (job : List ℕ) → Accepted job → (n : ℕ) (old new : State) → FitState (job_of job) old → step (job_of job) n old ≡ finished new → FitState (job_of job) new
unfolding new_point
step_fit job ok n old new f e = record {
  points = λ s l.
      let j = job_of job in
      let q = ap (λ (st : State). point_at st s) (sym (finished_advanced j n old new e)) ∙ advanced_at j n old s l in
      rw q
      (updated_fit (floor_at j s) (new_at (laid j) (along_pipes j old) (nodes_with j (value_at j n old)) (located (laid j) s)) (point_at old s) _ (f.points s l)
      (rw q at (step_faultless j n old new e s l)));
  drives = λ y l.
      let j = job_of job in
      let at = judged_at job ok y l in
      rw (at.1.driven new) at (step_faultless j n old new e at.0 at.1.below).drive;
}

reached_fit : (job : List ℕ) → Accepted job → (m : ℕ) (st : State) → Reached (job_of job) m st → FitState (job_of job) st
reached_fit job ok zero st r = rw r (start_fit job ok)
reached_fit job ok (suc m) st r = step_fit job ok (suc m) r.0 st (reached_fit job ok m r.0 r.1) r.2

-- ---- the rows that the last call left

pub can_go_on : CanGoOn
unfolding AfterCalls
can_go_on job lent started cs chained =
    let j = job_of job in
    let calls = map (call_of job) cs in
    let w = (calls_follow job lent started cs chained).0 in
    let same = holds_state j (held_by job lent cs).rows (played j calls).state w.rows w.sized in
    rw same (fit_acceptable j (played j calls).state (reached_fit job (begun job lent started).accepted (played j calls).done (played j calls).state (played_stands j calls)))

pub all_finite_lem : AllFinite
unfolding AfterCalls point_in drive_in finite_drive
all_finite_lem job lent started cs chained x c s l =
    let j = job_of job in
    let rows = (held_by job lent cs).rows in
    let yes = both _ _ (sym (acceptable_rows j rows) ∙ can_go_on job lent started cs chained) in
    let point = all_at (λ t. acceptable_at (floor_at j t) (point_in rows t)) s (sections j) yes.0 in
    let drive : s < length j.nodes → (finite (get_or (rows speeds) s zero64) ≡ true) × (finite (get_or (rows inflows) s zero64) ≡ true) =
    λ b. both _ _ (all_at (λ y. finite_drive (drive_in rows y)) s (length j.nodes) yes.1 b) in
    of_row rows j s point drive x c l
  where
    of_row : (r : Rows) (j : Job) (s : ℕ) → (s < sections j → acceptable_at (floor_at j s) (point_in r s) ≡ true)
        → (s < length j.nodes → (finite (get_or (r speeds) s zero64) ≡ true) × (finite (get_or (r inflows) s zero64) ≡ true))
        → (x : Row) → carried x ≡ true → s < in_use j x → finite (get_or (r x) s zero64) ≡ true
    of_row r j s point drive heads c l = (finite_fields _ (yes_fit _ _ (point l)).finite_point_lem).head
    of_row r j s point drive flows c l = (finite_fields _ (yes_fit _ _ (point l)).finite_point_lem).flow
    of_row r j s point drive highest c l = (yes_fit _ _ (point l)).highest
    of_row r j s point drive lowest c l = (yes_fit _ _ (point l)).lowest
    of_row r j s point drive speeds c l = (drive l).0
    of_row r j s point drive inflows c l = (drive l).1
    of_row r j s point drive spare c l = absurd (true≢false (sym c))
