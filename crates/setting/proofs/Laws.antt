-- The three laws of the call that sets a valve. 'None' is the answer where one of five tests fails: that of the heads by one of two causes, each other by its own.
-- The rows that are written begin with the heads, which never rise, and with Q. Assumes nothing.
use mathlib.Core.Path.{◌≡◌, refl, sym, ap, subst, ◌∙◌}
use mathlib.Core.Bool.{Bool, true, false, not, cond, ◌&&◌, true≢false}
use mathlib.Core.List.{List}
use mathlib.Core.Option.{some}
use Prim.Native.Nat.{ℕ, ◌+◌, ◌-◌, ◌/◌, ◌<◌, ◌≤◌}
use native.Mathlib.Omega.{arith}
use borrow.Author.Tests.{eq-eqb, eqb-true, eqb-false, not-true}
use lib.Dec.{T, eqb}
use lib.ListN.{length, get_elem?, get_or, replicate, get_or-append, length-replicate, get_or-replicate}
use lib.Ieee.{Float, binary64, of_bits, fits, lt}
use lib.Ieee.Scale.{finite}
use Rattle.fields.specs.Real.{◌⊟◌, zero64}
use Rattle.loops.specs.Loops.{all_below, listed}
use Rattle.loops.proofs.All.{all_at, all_no}
use Rattle.loops.proofs.Tests.{both}
use Rattle.loops.proofs.Listed.{get_or_all, listed_some}
use Rattle.job.specs.Job.{Pipe, Job, laid, sections, friction_at, floor_at}
use Rattle.job.specs.Format.{friction_table, pipe_table, pipe_count, pipe_in, pipes_in, r_in, friction_in, job_of}
use Rattle.job.specs.Questions.{refusal, Accepted, r_fits}
use Rattle.job.proofs.FirstNo.{refusal_most}
use Rattle.job.proofs.SectionLaws.{r_fits_lem}
use Rattle.job.proofs.Accepted.{friction_fits_lem, constant_fits_lem}
use Rattle.setting.specs.Setting.{heads_of, head_at, last_head, outlet_head, coefficient_for, head_fits, is_given, Answer, refused, none, coefficient, Called, written, kept, set_or_none, is_chain_with, rows_hold, set_valve}
use Rattle.setting.specs.Laws.{EveryYes, CauseOfNone, flow_not_above_zero, head_below_floor, head_not_above_outlet, head_not_finite, difference_not_finite, coefficient_not_finite, WhereGiven, SettingLaws}
use Rattle.setting.proofs.HeadList.{heads_length}
use Rattle.setting.proofs.NeverRising.{heads_not_rising, any_two}

-- ---- the answer, test by test

module _ (bytes : List ℕ) (L Q : Float) (heads flows : List Float) where
  abbrev j : Job
  j = job_of bytes

  -- the call by the four tests that decide it
  abbrev call_by : Bool → Bool → Bool → Bool → Called
  call_by accepted chain rows given =
      cond accepted
      (cond chain
      (cond rows (cond given (written j L Q heads flows) (kept heads flows none)) (kept heads flows (refused 52)))
      (kept heads flows (refused 51)))
      (kept heads flows (refused (refusal bytes)))

  call_is : set_valve bytes L Q heads flows ≡ call_by (eqb (refusal bytes) 0) (is_chain_with j L Q) (rows_hold j heads flows) (is_given j L Q)
  unfolding set_valve set_or_none
  call_is = refl

  pub record AllYes (given : Bool) : Type 0 where
    pub asked : EveryYes bytes L Q heads flows
    pub verdict : is_given j L Q ≡ given

  all_yes : (b : Bool) → eqb (refusal bytes) 0 ≡ true → is_chain_with j L Q ≡ true → rows_hold j heads flows ≡ true → is_given j L Q ≡ b → AllYes b
  all_yes b x y z w = record { asked = record { accepted = eqb-true _ _ x; chain = y; rows = z }; verdict = w }

  -- what an answer tells: of the tests, or of the number of a refusal
  abbrev pub Tells : Answer → Type 0
  Tells (refused q) = (1 ≤ q) × (q ≤ 53)
  Tells none = AllYes false
  Tells (coefficient a) = AllYes true

  pub tells : Tells (set_valve bytes L Q heads flows).answer
  unfolding written kept
  tells =
      subst (λ (c : Called). Tells c.answer) (sym call_is)
      (go (eqb (refusal bytes) 0) refl (is_chain_with j L Q) refl (rows_hold j heads flows) refl (is_given j L Q) refl)
    where
      go : (x : Bool) → eqb (refusal bytes) 0 ≡ x → (y : Bool) → is_chain_with j L Q ≡ y → (z : Bool) → rows_hold j heads flows ≡ z → (w : Bool) → is_given j L Q ≡ w
          → Tells (call_by x y z w).answer
      go true ex true ey true ez true ew = all_yes true ex ey ez ew
      go true ex true ey true ez false ew = all_yes false ex ey ez ew
      go true ex true ey false ez w ew = (omega arith, omega arith)
      go true ex false ey z ez w ew = (omega arith, omega arith)
      go false ex y ey z ez w ew = let no : refusal bytes ≡ 0 → ⊥ = eqb-false _ _ ex in (omega (arith, no), omega (arith, refusal_most bytes))

  -- the call where every question has a yes
  call_where : (b : Bool) → AllYes b → set_valve bytes L Q heads flows ≡ cond b (written j L Q heads flows) (kept heads flows none)
  call_where b y = call_is ∙ rw (eq-eqb (refusal bytes) 0 y.asked.accepted, y.asked.chain, y.asked.rows, y.verdict)

-- ---- the causes

module _ (j : Job) (L Q : Float) where
  abbrev test : ℕ → Bool
  test s = head_fits (floor_at j s) (head_at j L Q s)

  abbrev H : Float
  H = last_head j L Q

  abbrev b : Float
  b = outlet_head j

  one_head : (s : ℕ) → s < sections j → test s ≡ false → CauseOfNone j L Q
  unfolding head_fits
  one_head s l e = go (finite (head_at j L Q s)) refl (lt (head_at j L Q s) (floor_at j s)) refl e
    where
      go : (x : Bool) → finite (head_at j L Q s) ≡ x → (y : Bool) → lt (head_at j L Q s) (floor_at j s) ≡ y → x && not y ≡ false → CauseOfNone j L Q
      go true ex true ey e = head_below_floor s l ey
      go true ex false ey e = absurd (true≢false e)
      go false ex y ey e = head_not_finite s l ex

  one_cause : is_given j L Q ≡ false → CauseOfNone j L Q
  unfolding is_given
  one_cause h = go (lt zero64 Q) refl (all_below test (sections j)) refl (lt b H) refl (finite (H ⊟ b)) refl (finite (coefficient_for Q H b)) refl h
    where
      go : (q : Bool) → lt zero64 Q ≡ q → (f : Bool) → all_below test (sections j) ≡ f → (o : Bool) → lt b H ≡ o → (d : Bool) → finite (H ⊟ b) ≡ d
          → (a : Bool) → finite (coefficient_for Q H b) ≡ a → q && f && o && d && a ≡ false → CauseOfNone j L Q
      go false eq f ef o eo d ed a ea e = flow_not_above_zero eq
      go true eq false ef o eo d ed a ea e = let one = all_no test (sections j) ef in one_head one.0 one.1.0 one.1.1
      go true eq true ef false eo d ed a ea e = head_not_above_outlet eo
      go true eq true ef true eo false ed a ea e = difference_not_finite ed
      go true eq true ef true eo true ed false ea e = coefficient_not_finite ea
      go true eq true ef true eo true ed true ea e = absurd (true≢false e)

  -- where a coefficient is given, every test has a yes
  record Yes : Type 0 where
    pub flow : lt zero64 Q ≡ true
    pub heads : (s : ℕ) → s < sections j → (finite (head_at j L Q s) ≡ true) × (lt (head_at j L Q s) (floor_at j s) ≡ false)
    pub above : lt b H ≡ true
    pub difference : finite (H ⊟ b) ≡ true
    pub coefficient : finite (coefficient_for Q H b) ≡ true

  yes_each : is_given j L Q ≡ true → Yes
  unfolding is_given head_fits
  yes_each h =
      let q = lt zero64 Q in
      let f = all_below test (sections j) in
      let o = lt b H in
      let d = finite (H ⊟ b) in
      let last = both (q && f && o && d) (finite (coefficient_for Q H b)) h in
      let fourth = both (q && f && o) d last.0 in
      let third = both (q && f) o fourth.0 in
      let second = both q f third.0 in
      record {
        flow = second.0;
        heads = λ s l. let one = both (finite (head_at j L Q s)) _ (all_at test s (sections j) second.1 l) in (one.0, not-true _ one.1);
        above = third.1;
        difference = fourth.1;
        coefficient = last.1;
      }

  -- no cause goes with a coefficient
  no_cause : CauseOfNone j L Q → Yes → ⊥
  no_cause (flow_not_above_zero e) y = true≢false (sym y.flow ∙ e)
  no_cause (head_below_floor s l e) y = true≢false (sym e ∙ (y.heads s l).1)
  no_cause (head_not_above_outlet e) y = true≢false (sym y.above ∙ e)
  no_cause (head_not_finite s l e) y = true≢false (sym (y.heads s l).0 ∙ e)
  no_cause (difference_not_finite e) y = true≢false (sym y.difference ∙ e)
  no_cause (coefficient_not_finite e) y = true≢false (sym y.coefficient ∙ e)

  not_given : CauseOfNone j L Q → is_given j L Q ≡ false
  not_given c = go (is_given j L Q) refl
    where
      go : (t : Bool) → is_given j L Q ≡ t → t ≡ false
      go true e = absurd (no_cause c (yes_each e))
      go false e = refl

-- ---- what an accepted job has

module _ (bytes : List ℕ) (ok : Accepted bytes) where
  no_friction_below : (r : ℕ) → lt (friction_at (job_of bytes) r) zero64 ≡ false
  unfolding friction_at job_of friction_in r_fits of_bits lt
  no_friction_below r =
      get_or_all (λ (x : Float). lt x zero64 ≡ false) (length (friction_table bytes) / 8) (r_in (friction_table bytes)) zero64
      (λ k l. not-true _ (both (finite (r_in (friction_table bytes) k)) _ (r_fits_lem (friction_table bytes) (friction_fits_lem bytes ok) k l)).1) refl r

  each_constant_above : (p : ℕ) (q : Pipe) → get_elem? (job_of bytes).pipes p ≡ some q → lt zero64 q.S ≡ true
  unfolding job_of pipes_in
  each_constant_above p q e =
      let found = listed_some (pipe_count (pipe_table bytes)) (pipe_in (pipe_table bytes)) p q e in
      rw (← found.1) (constant_fits_lem bytes ok p found.0).1

-- ---- the heads that are written

module _ (bytes : List ℕ) (L Q : Float) (heads flows : List Float) (y : AllYes bytes L Q heads flows true) where
  head_written : (s : ℕ) → s < sections (job_of bytes) → get_or (set_valve bytes L Q heads flows).heads s zero64 ≡ head_at (job_of bytes) L Q s
  unfolding head_at written
  head_written s l =
      ap (λ (x : Called). get_or x.heads s zero64) (call_where bytes L Q heads flows true y)
      ∙ get_or-append (heads_of (job_of bytes) L Q) _ zero64 s (omega (arith, heads_length (job_of bytes) L Q))

  heads_never_rise : T (fits binary64 L) → (s t : ℕ) → s ≤ t → t < sections (job_of bytes) → lt (head_at (job_of bytes) L Q s) (head_at (job_of bytes) L Q t) ≡ false
  unfolding head_at heads_of laid
  heads_never_rise f s t u l =
      let ok = y.asked.accepted in
      let given = yes_each (job_of bytes) L Q y.verdict in
      let to : s + (t - s) ≡ t = omega arith in
      let long = heads_length (job_of bytes) L Q in
      rw to at (any_two (heads_of (job_of bytes) L Q) L
      (heads_not_rising Q given.flow (job_of bytes) (no_friction_below bytes ok) (job_of bytes).pipes 0 0 L (each_constant_above bytes ok) f)
      (λ i b. (given.heads i (omega (arith, long))).0) s (t - s) (omega (arith, long)))

-- ---- the laws

pub setting_laws : SettingLaws
unfolding WhereGiven written kept
setting_laws = record {
  none_exactly = λ bytes L Q heads flows. (
    λ e. let y = subst (Tells bytes L Q heads flows) e (tells bytes L Q heads flows) in (y.asked, one_cause (job_of bytes) L Q y.verdict),
    λ c. ap (λ (x : Called). x.answer) (call_where bytes L Q heads flows false record { asked = c.0; verdict = not_given (job_of bytes) L Q c.1 }),
  );
  flow_is_q = λ bytes L Q a heads flows e s l.
      let y = subst (Tells bytes L Q heads flows) e (tells bytes L Q heads flows) in
      ap (λ (x : Called). get_or x.flows s zero64) (call_where bytes L Q heads flows true y)
      ∙ get_or-append (replicate (sections (job_of bytes)) Q) _ zero64 s (omega (arith, length-replicate (sections (job_of bytes)) Q))
      ∙ get_or-replicate (sections (job_of bytes)) s Q zero64 l;
  never_rises = λ bytes L Q a heads flows e f s t u l.
      let y = subst (Tells bytes L Q heads flows) e (tells bytes L Q heads flows) in
      rw (head_written bytes L Q heads flows y s (omega arith), head_written bytes L Q heads flows y t l) (heads_never_rise bytes L Q heads flows y f s t u l);
}
