-- A step over the rows: what the check finds is the recurrence's scan of the next state, and the rows that are committed hold that state. Heads and flows
-- in the rows are those of the state up to the section count, pairs up to the node count, values in their row those of the job's nodes, and a step reads
-- nothing else. Assumes nothing.
use mathlib.Core.Path.{◌≡◌, refl, sym, ap, ◌∙◌}
use mathlib.Core.List.{List}
use mathlib.Core.Option.{some}
use Rattle.std.specs.Prelude.{Result, Ok, Err, ⊤}
use Prim.Native.Nat.{ℕ, ◌+◌, ◌*◌, ◌≤◌, ◌<◌}
use native.Mathlib.Nat.{zero-add}
use native.Mathlib.Omega.{arith}
use lib.ListN.{length, drop, get_elem?}
use lib.Ieee.{Float}
use Rattle.fields.specs.Real.{zero64}
use Rattle.loops.specs.Fill.{fill}
use Rattle.loops.proofs.Fill.{fill_in, drop-fill}
use Rattle.wave.specs.declared.HeadFlow.{HeadFlow}
use Rattle.wave.specs.declared.Node.{Node}
use Rattle.wave.specs.declared.Node.TheVariants.{Junction}
use Rattle.job.specs.Job.{Job, Laid, laid, sections, floor_at}
use Rattle.job.specs.Format.{job_of, pipe_table, node_table, pipe_count, node_count, initial_table}
use Rattle.job.proofs.Accepted.{nodes_length}
use Rattle.loops.proofs.Listed.{listed_cong}
use Rattle.recurrence.specs.State.{State, point_at}
use Rattle.recurrence.specs.Step.{AlongPipes, along_pipes, value_at, nodes_with, sums_at, new_drive, located, new_at, updated, new_point, advanced, raised, lowered}
use Rattle.recurrence.specs.Paths.{EndAt, starts_at, finishes_at, Beside, down, up}
use Rattle.recurrence.specs.Scan.{none, scan, finished, outcome_of, step}
use Rattle.recurrence.specs.Calls as row
use Rattle.recurrence.specs.Calls.{Rows, gathered, in_use, point_in, drive_in, state_in}
use Rattle.recurrence.proofs.EachRow.{each}
use Rattle.recurrence.proofs.LaidPipes.{laid_below}
use Rattle.recurrence.proofs.LocalStep.{Local, sums_near, new_alike}
use Rattle.recurrence.proofs.RowLaws.{Enough, state_at}
use Rattle.recurrence.proofs.RunLaws.{value_rows}
use Rattle.recurrence.proofs.GoesOn.{step_faultless}
use Rattle.section.specs.SectionRows.{entry, SteppedRows}
use Rattle.section.specs.declared.Fault.{Fault}
use Rattle.section.specs.Faults.{fault_with, first_fault, found_fault}
use Rattle.section.proofs.RecurrenceTies.{scan_is}
use Rattle.pipe_layout.proofs.Acceptance.{within, floor_read, four_a_pipe}
use Rattle.node_sums.specs.FromRows.{along_rows, Lent, OverNodes, value_in, end_nodes, inflow_at, new_section}
use Rattle.node_values.specs.Pairs.{value_from, pair_of, PairsLeft}
use Rattle.time_step.specs.StepsInRows.{Ready, StepsInRows}
use Rattle.time_step.proofs.RunLaws.{ready_enough, step_done, step_stops}
use Rattle.time_step.proofs.JudgedEnds.{BothPresent, ended, judged_at, fault_at_lem}

-- ---- a row filled from its first entry on: its entries, and what stands past them

module _ (f : ℕ → Float) (l : List Float) (n : ℕ) {row : List Float} (filled : row ≡ fill f l 0 n) where
  filled_at : n ≤ length l → (s : ℕ) → s < n → entry row s ≡ f s
  filled_at long s h = rw filled (rw (zero-add s) at (fill_in f l 0 zero64 n s (omega arith) h))

  pub filled_rest : drop n row ≡ drop n l
  filled_rest = rw filled (drop-fill f l 0 n n (omega arith))

-- ---- what the functions of a step ask of the rows

pub spare_long : {job : List ℕ} {r : Rows} → Ready job r → pipe_count (pipe_table job) * 4 ≤ length (r row.spare)
spare_long {job} k = omega (arith, four_a_pipe job k.accepted, ready_enough k row.spare)

pub pairs_long : {job : List ℕ} {r : Rows} → Ready job r
    → (node_count (node_table job) ≤ length (r row.speeds)) × (node_count (node_table job) ≤ length (r row.inflows))
pairs_long {job} k =
    let count = nodes_length job k.accepted in
    (omega (arith, count, ready_enough k row.speeds), omega (arith, count, ready_enough k row.inflows))

pub rows_lent : {job : List ℕ} {r : Rows} → Ready job r → Lent job (r row.heads) (r row.flows)
rows_lent k = record { accepted = k.accepted; heads_long = ready_enough k row.heads; flows_long = ready_enough k row.flows }

-- ---- what a step reads: nothing past the section count, and no node but the job's

beside_below : (j : Job) (r s t : ℕ) → Beside (laid j) r s t → t < sections j
beside_below j r s t (down p l i e h q a b) = omega (arith, laid_below j p l e)
beside_below j r s t (up p l i e h q a b) = omega (arith, laid_below j p l e)

module _ (job : List ℕ) (m : ℕ) (r : Rows) (ready : Ready job r) (values : List Float)
    (given : OverNodes job (value_from job (m + 1) (r row.speeds) (r row.inflows)) values) where
  abbrev j : Job
  j = job_of job

  long : Enough j r
  long = ready_enough ready

  -- the state before and after the step, what the step reads along the pipes, and v of each node
  abbrev old : State
  old = state_in j r

  abbrev next : State
  next = advanced j (m + 1) old

  abbrev along : AlongPipes
  along = along_pipes j old

  abbrev v : ℕ → Float
  v = value_at j (m + 1) old

  -- the nodes as their ends take them, by the rows; and the new head and flow of a section by them
  abbrev pub row_nodes : ℕ → Node
  row_nodes = end_nodes job (value_in values) (r row.heads) (r row.flows)

  abbrev new : ℕ → HeadFlow
  new = new_section job row_nodes (r row.heads) (r row.flows)

  value_read : (y : ℕ) → y < node_count (node_table job) → value_in values y ≡ v y
  unfolding drive_in
  value_read y h =
      given.at y h
      ∙ sym (value_rows j (m + 1) r y (omega (arith, nodes_length job ready.accepted)))

  end_present : (y s : ℕ) → EndAt (laid j) y s → y < node_count (node_table job)
  end_present y s (starts_at p l e q h) = rw (← q) (within job ready.accepted p l e).joined.start_present
  end_present y s (finishes_at p l e q h) = rw (← q) (within job ready.accepted p l e).joined.finish_present

  local : (a b : ℕ → Node) → ((y s : ℕ) → EndAt (laid j) y s → a y ≡ b y) → Local (laid j) (along_rows job (r row.heads) (r row.flows)) along a b (λ s. Unit {0})
  unfolding along_pipes point_in
  local a b same = record {
    whole = λ p l e. (within job ready.accepted p l e).joined.has_reach;
    beside = λ k s t _ b. let e = sym (state_at j r t (beside_below j k s t b)) in λ i. record { head = (e i).head; flow = (e i).flow };
    reach = λ k s t _ b. refl;
    across = λ y s t _ a b. tt;
    node = λ y s _. same y s;
  }

  sums_read : (y : ℕ) → sums_at (laid j) (along_rows job (r row.heads) (r row.flows)) y ≡ sums_at (laid j) along y
  sums_read y = sums_near (laid j) _ _ (λ y. Junction zero64) _ (λ s. Unit {0}) (local _ _ (λ y s _. refl)) y (λ t _. tt)

  -- by the rows the nodes, and so the sections, are the recurrence's
  node_read : (y s : ℕ) → EndAt (laid j) y s → row_nodes y ≡ ended j (m + 1) old y
  unfolding end_nodes nodes_with
  node_read y s a = rw (value_read y (end_present y s a), sums_read y)

  new_is : (s : ℕ) → new s ≡ new_at (laid j) along (ended j (m + 1) old) (located (laid j) s)
  unfolding new_section
  new_is s = new_alike (laid j) _ _ _ _ (λ s. Unit {0}) (local _ _ node_read) s tt

  present : (p : ℕ) (l : Laid) → get_elem? (laid j) p ≡ some l → BothPresent j l
  present p l e =
      let is = (within job ready.accepted p l e).joined in
      let count = nodes_length job ready.accepted in
      record { start = omega (arith, count, is.start_present); finish = omega (arith, count, is.finish_present) }

  -- the scan of the next state by what the check found
  fault_is : (found : Result ⊤ Fault) → found_fault found ≡ first_fault (initial_table job) (sections j) new → found_fault found ≡ scan j next
  fault_is found e =
      e
      ∙ scan_is j (initial_table job) (floor_read job ready.accepted) new next
      (λ s h. ap (fault_with (floor_at j s) s) (new_is s) ∙ fault_at_lem j (m + 1) old present s h (floor_at j s))

  -- the spare rewritten up to the entries in use
  module _ (spare : List Float) (kept : drop (pipe_count (pipe_table job) * 4) spare ≡ drop (pipe_count (pipe_table job) * 4) (r row.spare)) where
    spare_rest : drop (in_use j row.spare) spare ≡ drop (in_use j row.spare) (r row.spare)
    spare_rest = rw (four_a_pipe job ready.accepted) kept

    -- the check finds a fault, and nothing but the spare is written
    pub one_stops :
        (f : Fault) → found_fault (Err f) ≡ first_fault (initial_table job) (sections j) new
        → StepsInRows job m 1 r (gathered (r row.heads) (r row.flows) (r row.highest) (r row.lowest) (r row.speeds) (r row.inflows) spare) (Err record { steps = m; fault = f })
    unfolding state_in point_in drive_in
    one_stops f e = record { result_is = step_stops j m old f (fault_is (Err f) e); rest = each _ refl refl refl refl refl refl spare_rest }

    -- it finds none, and the step is committed
    module _ {x : ⊤} (clear : found_fault (Ok x) ≡ first_fault (initial_table job) (sections j) new) where
      abbrev now : ℕ → HeadFlow
      now s = new_at (laid j) along (nodes_with j v) (located (laid j) s)

      -- so every pair that is judged is finite, and the ends' nodes are the nodes themselves
      new_now : (s : ℕ) → s < sections j → new s ≡ now s
      unfolding step outcome_of found_fault
      new_now s h =
          let none_found : scan j next ≡ none = sym (fault_is (Ok x) clear) in
          let done : step j (m + 1) old ≡ finished next = rw none_found in
          new_is s ∙ (judged_at j (m + 1) old present s).same (step_faultless j (m + 1) old next done s h).drive

      module _ {heads flows highest lowest : List Float}
          (written : SteppedRows new 0 (sections j) (r row.heads) (r row.flows) (r row.highest) (r row.lowest) heads flows highest lowest)
          {entering speeds inflows : List Float} (entered : OverNodes job (inflow_at job (value_in values) (r row.heads) (r row.flows)) entering)
          (pairs : PairsLeft job values entering (r row.speeds) (r row.inflows) speeds inflows) where
        abbrev after : Rows
        after = gathered heads flows highest lowest speeds inflows spare

        point : (s : ℕ) → s < sections j → point_in after s ≡ new_point (laid j) along (nodes_with j v) old s
        unfolding point_in new_point updated raised lowered
        point s h =
            let was : point_at old s ≡ point_in r s = state_at j r s h in
            let zero : 0 + s ≡ s = zero-add s in
            let x : entry heads s ≡ (now s).head = filled_at _ (r row.heads) (sections j) written.0 (long row.heads) s h ∙ rw (new_now s h) in
            let y : entry flows s ≡ (now s).flow = filled_at _ (r row.flows) (sections j) written.1 (long row.flows) s h ∙ rw (new_now s h) in
            let u : entry highest s ≡ raised (point_at old s).highest (now s).head = filled_at _ (r row.highest) (sections j) written.2 (long row.highest) s h ∙ rw (zero, new_now s h, was) in
            let v : entry lowest s ≡ lowered (point_at old s).lowest (now s).head = filled_at _ (r row.lowest) (sections j) written.3 (long row.lowest) s h ∙ rw (zero, new_now s h, was) in
            λ i. record { head = x i; flow = y i; highest = u i; lowest = v i }

        -- the pair stored for a node is its new one
        pair : (y : ℕ) → y < node_count (node_table job) → pair_of job values entering y ≡ new_drive j (laid j) along v y
        unfolding new_drive inflow_at nodes_with
        pair y h =
            let value = value_read y h in
            let flow = entered.at y h in
            rw (flow, value, sums_read y)

        drive : (y : ℕ) → y < length j.nodes → drive_in after y ≡ new_drive j (laid j) along v y
        unfolding drive_in
        drive y h =
            let count = nodes_length job ready.accepted in
            let low : y < node_count (node_table job) = omega (arith, count) in
            let a : entry speeds y ≡ (pair_of job values entering y).speed = filled_at _ (r row.speeds) (node_count (node_table job)) pairs.0 (omega (arith, count, long row.speeds)) y low in
            let b : entry inflows y ≡ (pair_of job values entering y).inflow = filled_at _ (r row.inflows) (node_count (node_table job)) pairs.1 (omega (arith, count, long row.inflows)) y low in
            let is : drive_in after y ≡ pair_of job values entering y = λ i. record { speed = a i; inflow = b i } in
            is ∙ pair y low

        state_taken : state_in j after ≡ next
        unfolding state_in advanced
        state_taken =
            let points = listed_cong (sections j) (point_in after) (new_point (laid j) along (nodes_with j v) old) point in
            let drives = listed_cong (length j.nodes) (drive_in after) (new_drive j (laid j) along v) drive in
            λ i. record { points = points i; drives = drives i }

        pub one_done : StepsInRows job m 1 r after (Ok (m + 1))
        one_done = record {
          result_is = rw state_taken (step_done j m old (fault_is (Ok x) clear));
          rest =
              let count = nodes_length job ready.accepted in
              each _ (filled_rest _ _ _ written.0) (filled_rest _ _ _ written.1) (filled_rest _ _ _ written.2) (filled_rest _ _ _ written.3)
              (rw count (filled_rest _ _ _ pairs.0)) (rw count (filled_rest _ _ _ pairs.1)) spare_rest;
        }
