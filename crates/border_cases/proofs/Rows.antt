-- The cases of calls on lent rows. That a start and the calls meet what is asked of them is computed, row by row; what follows is taken from the claims alone.
-- Assumes nothing.
use mathlib.Core.Path.{◌≡◌, refl, sym, ap, ◌∙◌}
use mathlib.Core.Bool.{true, false, true≢false}
use mathlib.Core.List.{List, [], ◌∷◌, map}
use Prim.Native.Nat.{◌<◌}
use native.Mathlib.Omega.{arith}
use lib.ListN.{length, get_elem?, take}
use Rattle.job.specs.Job.{laid, sections}
use Rattle.job.specs.Format.{job_of}
use Rattle.recurrence.specs.State.{State}
use Rattle.recurrence.specs.Scan.{parted}
use Rattle.recurrence.specs.Run.{Answer, Call, stop_answer, played, steps_done, answers}
use Rattle.recurrence.specs.Calls.{Row, heads, flows, highest, lowest, speeds, inflows, in_use, holds}
use Rattle.recurrence.specs.Paths.{EndAt, AtLeast}
use Rattle.recurrence.specs.Lent.{held_at_start, held_after, answer_at, is_refusal, carried, Chained, call_of, Tied, CallsTied, Demand3InRows}
use Rattle.recurrence.specs.Continued.{AfterCalls, AllFinite, CanGoOn}
use Rattle.recurrence.specs.Figures.{lent_sevens, refusal, done}
use Rattle.recurrence.specs.OwnFigures.{sevens, patterns}
use Rattle.recurrence.specs.TrippedJobs.{tripping, tripped, tripped_rising}
use Rattle.recurrence.proofs.AllDefinitions.{opened}
use Rattle.recurrence.proofs.EachRow.{each}
use Rattle.recurrence.proofs.SharpInflow.{inflow_sharp}
use Rattle.border_cases.specs.Jobs.{opening, parting, parting_late, parting_low}
use Rattle.border_cases.specs.RowCases.{calls_from, other_calls_from, other_held, pump_calls, other_pump_calls, pump_held, other_pump_held, last_entry, Met, RowCases, TiedCases, ContinuedCases}
use Rattle.border_cases.proofs.Stops.{late_edited, low_edited}
use Rattle.border_cases.proofs.Nodes.{rising_edited, two_nodes, another}

-- ---- what is asked of a start and of the calls

never : {A : Type 0} → false ≡ true → A
never e = absurd (true≢false (sym e))

-- nothing is asked of the first call; the second is lent what is held in each row but the spare; the others what the second left
pub met : Met
unfolding opened opening tripping Chained held_at_start held_after answer_at is_refusal call_of
met = record {
  started = refl;
  chained = (never, (λ _. each _ (λ _. refl) (λ _. refl) (λ _. refl) (λ _. refl) (λ _. refl) (λ _. refl) never, (λ _ x c. refl, (λ _ x c. refl, tt))));
  started_late = refl;
  chained_late = (never, (λ _. each _ (λ _. refl) (λ _. refl) (λ _. refl) (λ _. refl) (λ _. refl) (λ _. refl) never, (λ _ x c. refl, (λ _ x c. refl, tt))));
  started_low = refl;
  chained_low = (never, (λ _. each _ (λ _. refl) (λ _. refl) (λ _. refl) (λ _. refl) (λ _. refl) (λ _. refl) never, (λ _ x c. refl, (λ _ x c. refl, tt))));
  started_pump = refl;
  chained_pump = (never, (λ _. each _ (λ _. refl) (λ _. refl) (λ _. refl) (λ _. refl) (λ _. refl) (λ _. refl) never, (λ _ x c. refl, (λ _ x c. refl, tt))));
  started_rising = refl;
  chained_rising = (never, (λ _. each _ (λ _. refl) (λ _. refl) (λ _. refl) (λ _. refl) (λ _. refl) (λ _. refl) never, (λ _ x c. refl, (λ _ x c. refl, tt))));
  same_rising = refl;
  same_late = refl;
  same_low = refl;
}

-- ---- demand 3 in rows

abbrev calls : List Call
calls = map (call_of parting) (calls_from parting)

parting_answers : answers (job_of parting) calls ≡ refusal 20 ∷ done 1 ∷ refusal 21 ∷ stop_answer parted 1 2 ∷ []
unfolding opened opening call_of
parting_answers = refl

parting_done : steps_done (job_of parting) calls ≡ 1
unfolding opened opening call_of
parting_done = refl

low_done : steps_done (job_of parting_low) (map (call_of parting_low) (other_calls_from parting_low)) ≡ 1
unfolding opened opening call_of
low_done = refl

three_sections : sections (job_of parting) ≡ 3
unfolding opened opening
three_sections = refl

parting_nodes : length (job_of parting).nodes ≡ 2
unfolding opened opening
parting_nodes = refl

off_0 : AtLeast (laid (job_of parting)) (EndAt (laid (job_of parting)) 0) 0 0
unfolding AtLeast
off_0 e p = omega arith

some_sections : 0 < sections (job_of tripped)
unfolding opened tripping
some_sections = omega arith

pump_done : (steps_done (job_of tripped) (map (call_of tripped) (pump_calls tripped)) ≡ 3) × (steps_done (job_of tripped_rising) (map (call_of tripped_rising) (other_pump_calls tripped_rising)) ≡ 3)
unfolding opened tripping call_of
pump_done = (refl, refl)

-- what the rows of a pump's job hold, apart from the claim; and by the claim what is left in them
abbrev pump_state : State
pump_state = (played (job_of tripped) (map (call_of tripped) (pump_calls tripped))).state

held_speeds : patterns (holds (job_of tripped) pump_state speeds) ≡ 0x3fda_0000_0000_0000 ∷ 0 ∷ []
unfolding opened tripping call_of
held_speeds = refl

held_inflows : patterns (holds (job_of tripped) pump_state inflows) ≡ 0x3ff5_2000_0000_0000 ∷ 0 ∷ []
unfolding opened tripping call_of
held_inflows = refl

module _ (tied : CallsTied) where
  pump_tied : Tied tripped lent_sevens (pump_calls tripped)
  pump_tied = tied tripped lent_sevens met.started_pump (pump_calls tripped) met.chained_pump

  pump_speeds : patterns (take 2 ((pump_held tripped).rows speeds)) ≡ 0x3fda_0000_0000_0000 ∷ 0 ∷ []
  pump_speeds = rw two_nodes.0 at (ap patterns (pump_tied.rows speeds refl)) ∙ held_speeds

  pump_inflows : patterns (take 2 ((pump_held tripped).rows inflows)) ≡ 0x3ff5_2000_0000_0000 ∷ 0 ∷ []
  pump_inflows = rw two_nodes.0 at (ap patterns (pump_tied.rows inflows refl)) ∙ held_inflows

pub tied_cases : CallsTied → TiedCases
unfolding opened opening call_of
tied_cases tied =
    let t : Tied parting lent_sevens (calls_from parting) = tied parting lent_sevens met.started (calls_from parting) met.chained in
    record {
      answered = t.answered ∙ parting_answers;
      one_step = t.done ∙ parting_done;
      heads_left = ap patterns (t.rows heads refl);
      flows_left = ap patterns (t.rows flows refl);
      highest_left = ap patterns (t.rows highest refl);
      lowest_left = ap patterns (t.rows lowest refl);
      speeds_left = ap patterns (t.rows speeds refl);
      inflows_left = ap patterns (t.rows inflows refl);
      pump_speeds_left = pump_speeds tied;
      pump_inflows_left = pump_inflows tied;
    }

pub row_cases : Demand3InRows → CallsTied → RowCases
row_cases claim tied =
    let late =
    claim parting parting_late lent_sevens (sevens 3 2 4) met.started met.started_late 0 3 (omega arith) late_edited.alike late_edited.before
    (calls_from parting) (other_calls_from parting_late) met.same_late met.chained met.chained_late in
    let low =
    claim parting parting_low lent_sevens (sevens 3 2 4) met.started met.started_low 0 2 (omega arith) low_edited.alike low_edited.before
    (calls_from parting) (other_calls_from parting_low) met.same_low met.chained met.chained_low in
    let one = (tied_cases tied).one_step in
    let other : (other_held parting_low).done ≡ 1 = (tied parting_low (sevens 3 2 4) met.started_low (other_calls_from parting_low) met.chained_low).done ∙ low_done in
    let rising =
    claim tripped tripped_rising lent_sevens (sevens 3 2 4) met.started_pump met.started_rising 1 2 (omega arith) rising_edited.alike
    rising_edited.before (pump_calls tripped) (other_pump_calls tripped_rising) met.same_rising met.chained_pump met.chained_rising in
    let three : (pump_held tripped).done ≡ 3 = (tied tripped lent_sevens met.started_pump (pump_calls tripped) met.chained_pump).done ∙ pump_done.0 in
    let also : (other_pump_held tripped_rising).done ≡ 3 = (tied tripped_rising (sevens 3 2 4) met.started_rising (other_pump_calls tripped_rising) met.chained_rising).done ∙ pump_done.1 in
    record {
      stop_before_k = (late.stops 3 parted 1 2 (omega arith)).0 (ap (λ (l : List Answer). get_elem? l 3) (tied_cases tied).answered);
      at_the_node = low.near 0 0 (one ∙ sym other) (omega (arith, three_sections)) off_0 (omega (arith, one));
      at_the_pump =
          rising.node_near 2 0 0 (three ∙ sym also) inflow_sharp.a_node inflow_sharp.its_end inflow_sharp.off (omega (arith, three))
          (another tripped 1 2 _ 0 (λ e. omega (arith, e)));
    }

-- ---- the laws of continued runs

pub continued_cases : AllFinite → CanGoOn → ContinuedCases
unfolding AfterCalls
continued_cases finite goes = record {
  last_finite = λ x c. finite parting lent_sevens met.started (calls_from parting) met.chained x c (last_entry x) (last_in_use x c);
  first_finite = λ x c. finite parting lent_sevens met.started (calls_from parting) met.chained x c 0 (first_in_use x c);
  pump_finite = λ x c. finite tripped lent_sevens met.started_pump (pump_calls tripped) met.chained_pump x c 0 (pump_in_use x c);
  pump_goes_on = goes tripped lent_sevens met.started_pump (pump_calls tripped) met.chained_pump;
  goes_on = goes parting lent_sevens met.started (calls_from parting) met.chained;
}
  where
    last_in_use : (x : Row) → carried x ≡ true → last_entry x < in_use (job_of parting) x
    last_in_use =
        each _ (λ _. omega (arith, three_sections)) (λ _. omega (arith, three_sections)) (λ _. omega (arith, three_sections))
        (λ _. omega (arith, three_sections)) (λ _. omega (arith, parting_nodes)) (λ _. omega (arith, parting_nodes)) never

    first_in_use : (x : Row) → carried x ≡ true → 0 < in_use (job_of parting) x
    first_in_use =
        each _ (λ _. omega (arith, three_sections)) (λ _. omega (arith, three_sections)) (λ _. omega (arith, three_sections))
        (λ _. omega (arith, three_sections)) (λ _. omega (arith, parting_nodes)) (λ _. omega (arith, parting_nodes)) never

    pump_in_use : (x : Row) → carried x ≡ true → 0 < in_use (job_of tripped) x
    pump_in_use =
        each _ (λ _. some_sections) (λ _. some_sections) (λ _. some_sections) (λ _. some_sections) (λ _. inflow_sharp.a_node) (λ _. inflow_sharp.a_node) never
