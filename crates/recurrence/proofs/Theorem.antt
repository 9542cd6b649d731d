-- Demand 3: the sections that a difference can have come to by a step lie in a cone about the edited node. Assumes nothing.
use mathlib.Core.Path.{◌≡◌, refl, sym, ap, ap₂, fun_ext, ◌∙◌}
use mathlib.Core.List.{List}
use mathlib.Core.Option.{some}
use Prim.Native.Nat.{ℕ, zero, suc, ◌+◌, ◌≤◌, ◌<◌}
use native.Mathlib.Decide.{ℕ_discrete}
use native.Mathlib.Omega.{arith}
use lib.ListN.{length, get_elem?}
use lib.Ieee.{Float}
use Rattle.fields.specs.Real.{zero64}
use Rattle.job.specs.Job.{Job, Pipe, Kind, junction, reservoir, valve, pump, ScheduledNode, Laid, Initial, laid, laid_from, sections, sections_of, node_at, initial_at, friction_at, floor_at, scheduled, with_value}
use Rattle.job.specs.Format.{job_of}
use Rattle.loops.specs.Loops.{listed}
use Rattle.recurrence.specs.State.{Drive, State, no_drive, point_at, drive_at, drive_of, start_point, start_drive, start_state}
use Rattle.recurrence.specs.Step.{AlongPipes, along_pipes, value_at, nodes_with, new_drive, advanced}
use Rattle.recurrence.specs.Scan.{scan, step, acceptable}
use Rattle.recurrence.specs.Run.{Call, started, played, answers, steps_done}
use Rattle.recurrence.specs.Paths.{EndAt, Beside, down, up, PathTo, begins, along, across, AtLeast, NoPath}
use Rattle.recurrence.specs.Demand.{seen_by, AlikeBut, AlikeBefore, IsPump, Carried, Demand3}
use Rattle.loops.proofs.Listed.{get_or_all}
use Rattle.recurrence.proofs.LaidPipes.{laid_spanned}
use Rattle.job.proofs.Accepted.{accepted_reaches}
use Rattle.recurrence.proofs.Runs.{Reached, played_stands, played_counts}
use Rattle.recurrence.proofs.RunsAgree.{Spreads, Closed, start_drive_lem, agree, drives_agree}
use Rattle.recurrence.proofs.Stops.{answers_same}

-- ---- the cone of an edit

turned : (ls : List Laid) (r s t : ℕ) → Beside ls r s t → Beside ls r t s
turned ls r s t (down p l i e h q a b) = up p l i e h q b a
turned ls r s t (up p l i e h q a b) = down p l i e h q b a

-- A difference that starts from the sections of `from` is at a section e reaches off after k + e steps at the earliest: k is the step of the first
-- edited value of a schedule. (With 1 it is the cone of an edited friction about the ends of its reach, with 0 that of an initial head or flow.)
unfoldable pub Cone : List Laid → (ℕ → Type 0) → ℕ → ℕ → ℕ → Type 0
Cone ls from k m s = (e : ℕ) → PathTo ls from s e → m < k + e

pub cone_spreads : (ls : List Laid) (from : ℕ → Type 0) (k : ℕ) → Spreads ls (Cone ls from k)
unfolding Cone
cone_spreads ls from k = record {
  same = λ m s h e p. omega (arith, h e p);
  beside = λ m r s t h b e p. omega (arith, h (suc e) (along (turned ls r s t b) p));
  across = λ m y s t h a b e p. h e (across b a p);
}

-- the inflow that the start writes is +0 at every node
first_inflow : (k : Kind) (v : Float) → (drive_of k v zero64).inflow ≡ zero64
unfolding drive_of no_drive
first_inflow junction v = refl
first_inflow reservoir v = refl
first_inflow (valve a b) v = refl
first_inflow (pump a b c) v = refl

start_inflow : (j : Job) (y : ℕ) → (drive_at (start_state j) y).inflow ≡ zero64
unfolding drive_at start_state start_drive no_drive
start_inflow j y = get_or_all (λ (d : Drive). d.inflow ≡ zero64) (length j.nodes) (start_drive j) no_drive (λ k _. first_inflow _ _) refl y

-- in a cone the runs of two jobs by one list of calls are alike
module _ (A B : Job) (far : ℕ → ℕ → Type 0) (cl : Closed A B far) (calls : List Call) (same : steps_done A calls ≡ steps_done B calls) where
  reached_a : Reached A (steps_done A calls) (played A calls).state
  reached_a = rw (played_counts A calls) at (played_stands A calls)

  reached_b : Reached B (steps_done A calls) (played B calls).state
  reached_b = rw (played_counts B calls ∙ sym same) at (played_stands B calls)

  pub in_cone : (s : ℕ) → far (steps_done A calls) s → point_at (played A calls).state s ≡ point_at (played B calls).state s
  in_cone s n = (agree A B far cl (steps_done A calls) (played A calls).state (played B calls).state reached_a reached_b).points s n

  -- so is the drive of a node in it, where the start's is
  module _ (y s : ℕ) (a : EndAt (laid A) y s) where
    pub drive_in_cone : far (steps_done A calls) s → (steps_done A calls ≡ 0 → start_drive A y ≡ start_drive B y)
        → drive_at (played A calls).state y ≡ drive_at (played B calls).state y
    drive_in_cone = go (steps_done A calls) (played A calls).state (played B calls).state reached_a reached_b
      where
        go : (m : ℕ) (u v : State) → Reached A m u → Reached B m v → far m s → (m ≡ 0 → start_drive A y ≡ start_drive B y) → drive_at u y ≡ drive_at v y
        go zero u v ru rv n first = rw (ru, rv) (start_drive_lem A B far cl y (first refl))
        go (suc m) u v ru rv n first = drives_agree A B far cl m u v ru rv y s n a

    pub inflow_in_cone : far (steps_done A calls) s → (drive_at (played A calls).state y).inflow ≡ (drive_at (played B calls).state y).inflow
    inflow_in_cone = go (steps_done A calls) (played A calls).state (played B calls).state reached_a reached_b
      where
        go : (m : ℕ) (u v : State) → Reached A m u → Reached B m v → far m s → (drive_at u y).inflow ≡ (drive_at v y).inflow
        go zero u v ru rv n = rw (ru, rv, start_inflow A y, start_inflow B y)
        go (suc m) u v ru rv n = ap (λ (d : Drive). d.inflow) (drives_agree A B far cl m u v ru rv y s n a)

-- ---- the scheduled values of one node

-- what acceptance gives: each pipe has a reach
abbrev pub Reaches : Job → Type 0
Reaches j = (p : ℕ) (q : Pipe) → get_elem? j.pipes p ≡ some q → 1 ≤ q.reaches

module _ (A B : Job) (x k : ℕ) (al : AlikeBut x A B) (be : AlikeBefore k x A B) where
  abbrev far : ℕ → ℕ → Type 0
  far = Cone (laid A) (EndAt (laid A) x) k

  initial_alike : (s : ℕ) → initial_at A s ≡ initial_at B s
  unfolding initial_at
  initial_alike s = rw al.initial

  friction_alike : (r : ℕ) → friction_at A r ≡ friction_at B r
  unfolding friction_at
  friction_alike r = rw al.friction

  kind_alike : (y : ℕ) → (node_at A y).kind ≡ (node_at B y).kind
  kind_alike y = go (ℕ_discrete y x)
    where
      go : Dec (y ≡ x) → (node_at A y).kind ≡ (node_at B y).kind
      go (yes q) = rw q al.kind
      go (no q) = ap (λ (z : ScheduledNode). z.kind) (al.others y q)

  value_alike : (n y : ℕ) → 1 ≤ n → (y ≡ x → n < k) → scheduled A n y ≡ scheduled B n y
  unfolding scheduled
  value_alike n y l h = go (ℕ_discrete y x)
    where
      go : Dec (y ≡ x) → scheduled A n y ≡ scheduled B n y
      go (yes q) = rw q (be.values n l (h q))
      go (no q) = rw (al.others y q)

  -- the speed that the start writes follows the first scheduled value of a pump
  start_alike : (y : ℕ) → (y ≡ x → IsPump (node_at A y).kind → 1 < k) → start_drive A y ≡ start_drive B y
  unfolding start_drive drive_of
  start_alike y h = rw (← (kind_alike y)) (go (node_at A y).kind (λ p. value_alike 1 y (omega arith) (λ q. h q p)))
    where
      go : (z : Kind) → (IsPump z → scheduled A 1 y ≡ scheduled B 1 y) → drive_of z (scheduled A 1 y) zero64 ≡ drive_of z (scheduled B 1 y) zero64
      go junction e = refl
      go reservoir e = refl
      go (valve a b) e = refl
      go (pump a b c) e = rw (e tt)

  closed : Reaches A → Closed A B far
  unfolding Cone
  closed ok = record {
    pipes = al.pipes;
    count = al.count;
    trips = al.trips;
    kind = kind_alike;
    whole = λ p l e. ok p l.pipe (laid_spanned A p l e).pipe_is;
    spreads = cone_spreads (laid A) (EndAt (laid A) x) k;
    first = λ s _. ap start_point (initial_alike s);
    reach = λ m r s t _ _. friction_alike r;
    value = λ m y s h a. value_alike (suc m) y (omega arith) (λ q. omega (arith, h 0 (begins (rw q at a))));
  }

  -- ---- steps before k, and the starts where there are any, are the same whole

  floors_alike : floor_at A ≡ floor_at B
  unfolding floor_at
  floors_alike = fun_ext (λ s. ap (λ (i : Initial). i.floor) (initial_alike s))

  sections_alike : sections A ≡ sections B
  unfolding sections
  sections_alike = ap sections_of al.pipes

  laid_alike : laid A ≡ laid B
  unfolding laid
  laid_alike = ap (laid_from 0 0) al.pipes

  acceptable_alike : (u : State) → acceptable A u ≡ acceptable B u
  unfolding acceptable
  acceptable_alike u = rw (floors_alike, sections_alike, al.count)

  along_alike : (u : State) → along_pipes A u ≡ along_pipes B u
  unfolding along_pipes
  along_alike u = let e = fun_ext friction_alike in λ i. record { friction = e i; old = (along_pipes A u).old }

  nodes_alike : (v : ℕ → Float) → nodes_with A v ≡ nodes_with B v
  unfolding nodes_with
  nodes_alike v = fun_ext (λ y. ap (λ (z : Kind). with_value z (v y)) (kind_alike y))

  drive_alike : (ls : List Laid) (w : AlongPipes) (v : ℕ → Float) → new_drive A ls w v ≡ new_drive B ls w v
  unfolding new_drive
  drive_alike ls w v = fun_ext (λ y. rw (kind_alike y, nodes_alike v))

  values_alike : (n : ℕ) → 1 ≤ n → n < k → (u : State) → value_at A n u ≡ value_at B n u
  unfolding value_at
  values_alike n l h u = fun_ext (λ y. cc (al.trips, value_alike n y l (λ _. h)))

  step_same : (m : ℕ) → suc m < k → (u : State) → step A (suc m) u ≡ step B (suc m) u
  unfolding step scan advanced
  step_same m h u =
      rw (sections_alike, laid_alike, al.count, along_alike u, values_alike (suc m) (omega arith) h u, nodes_alike (value_at B (suc m) u), floors_alike)
      (rw (drive_alike (laid B) (along_pipes B u) (value_at B (suc m) u)))

  started_same : 1 < k → started A ≡ started B
  unfolding started start_state
  started_same h =
      let p = ap₂ listed sections_alike (fun_ext (λ s. ap start_point (initial_alike s))) in
      let d = ap₂ listed al.count (fun_ext (λ y. start_alike y (λ _ _. h))) in
      λ i. record { done = 0; state = record { points = p i; drives = d i } }

-- A pressure wave carries every difference between two runs.
pub wave_carries : (A B : Job) → Reaches A → Reaches B → (x k : ℕ) → 1 ≤ k → AlikeBut x A B → AlikeBefore k x A B → (calls : List Call)
    → Carried A x k (seen_by A calls) (seen_by B calls)
unfolding Cone AtLeast NoPath answers
wave_carries A B okA okB x k pos al be calls = record {
  near = λ d s b _ off h. in_cone A B away cl calls b s (λ e r. omega (arith, off e r));
  apart = λ s b _ off. in_cone A B away cl calls b s (λ e r. absurd (off e r));
  node_near = λ d y s b _ a off h out.
      drive_in_cone A B away cl calls b y s a (λ e r. omega (arith, off e r))
      (λ z. start_alike A B x k al be y (λ q p. let late : ¬ (k ≡ 1) = λ e. out record { at_the_start = z; itself = q; is_a_pump = p; edited = e } in omega arith));
  inflow_near = λ d y s b _ a off h. inflow_in_cone A B away cl calls b y s a (λ e r. omega (arith, off e r));
  node_apart = λ y s b _ a off.
      drive_in_cone A B away cl calls b y s a (λ e r. absurd (off e r))
      (λ z. start_alike A B x k al be y (λ q _. absurd (off 0 (begins (rw q at a)))));
  stops = λ c cause m s h. (
    λ e. rw (started_same A B x k al be (omega arith)) at (answers_same A B k same_step same_rest (started A) calls c cause m s h e),
    λ e. answers_same B A k (λ n i u. sym (same_step n i u)) (λ u. sym (same_rest u)) (started A) calls c cause m s h (rw (← (started_same A B x k al be (omega arith))) at e),
  );
}
  where
    away : ℕ → ℕ → Type 0
    away = Cone (laid A) (EndAt (laid A) x) k

    cl : Closed A B away
    cl = closed A B x k al be okA

    same_step : (m : ℕ) → suc m < k → (u : State) → step A (suc m) u ≡ step B (suc m) u
    same_step = step_same A B x k al be

    same_rest : (u : State) → acceptable A u ≡ acceptable B u
    same_rest = acceptable_alike A B x k al be

pub demand_3 : Demand3
demand_3 a b okA okB x k pos al be calls = wave_carries (job_of a) (job_of b) (accepted_reaches a okA) (accepted_reaches b okB) x k pos al be calls
