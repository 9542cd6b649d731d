-- A section is sound where its head and flow are finite and its head is not below its floor; and where every section is sound the scan finds none.
-- Assumes nothing.
use mathlib.Core.Path.{◌≡◌, refl, sym, ◌∙◌}
use mathlib.Core.Bool.{Bool, true, false, not, ◌&&◌, cond, and-true}
use mathlib.Core.List.{List}
use Prim.Native.Nat.{ℕ, zero, suc, ◌+◌, ◌*◌, ◌/◌, ◌<◌, ◌≤◌}
use native.Mathlib.Omega.{arith}
use lib.ListN.{length, get_or}
use Rattle.std.specs.Prelude.{Ok, Err, ⊤}
use lib.Ieee.{Float, nan, lt, of_bits}
use lib.Ieee.Scale.{finite}
use Rattle.loops.specs.Loops.{all_below, first_below}
use Rattle.loops.proofs.All.{all_at}
use Rattle.loops.proofs.First.{first_more, first_stop}
use Rattle.wave.specs.declared.HeadFlow.{HeadFlow}
use Rattle.job.specs.Format.{section_in}
use Rattle.job.specs.Questions.{finite_section, section_fits, initial_fits}
use Rattle.loops.proofs.Tests.{both}
use Rattle.job.proofs.SectionLaws.{finite_section_lem}
use Rattle.recurrence.specs.State.{no_drive}
use Rattle.recurrence.specs.Scan.{Fault, none, fault, not_finite, parted, finite_point, finite_drive, fault_of, earlier, acceptable_at}
use Rattle.section.specs.declared.Fault as Code
use Rattle.section.specs.declared.Fault.TheVariants.{NotFinite, Parted}
use Rattle.section.specs.Faults.{floor_in, head_flow_point, fault_with, is_sound, sound_with, found_fault, acceptable_in}
use Rattle.section.proofs.Entries.{read}

-- ---- the floors of table 4, where question 14 has a yes

pub floor_finite : (initial : List ℕ) (s : ℕ) → s * 24 + 24 ≤ length initial → initial_fits initial ≡ true → finite (floor_in initial s) ≡ true
unfolding initial_fits section_fits
floor_finite initial s h e =
    let i = section_in initial s in
    let fits : section_fits i ≡ true = all_at (λ s. section_fits (section_in initial s)) s (length initial / 24) e (omega arith) in
    (finite_section_lem i (both (finite_section i) (not (lt i.head i.floor)) fits).0).floor

-- ---- one section

sound_by : (a b : Bool) (s : ℕ) → is_sound (cond a (cond b (fault parted s) none) (fault not_finite s)) ≡ a && not b
unfolding is_sound
sound_by true true s = refl
sound_by true false s = refl
sound_by false b s = refl

pub sound_is : (floor head flow : Float) (s : ℕ) → is_sound (fault_of floor s (head_flow_point head flow) no_drive) ≡ (finite head && finite flow) && not (lt head floor)
unfolding fault_of finite_point finite_drive no_drive of_bits
sound_is floor head flow s = rw (and-true (finite head && finite flow)) (sound_by (finite head && finite flow) (lt head floor) s)

-- a section's number does not matter
pub sound_any : (floor : Float) (s : ℕ) (x : HeadFlow) → is_sound (fault_with floor s x) ≡ sound_with floor x
sound_any floor s x = sound_is floor x.head x.flow s ∙ sym (sound_is floor x.head x.flow 0)

-- question 22 by what the code reads at section s
pub acceptable_read :
    (initial : List ℕ) (heads flows highest lowest : List Float) (s : ℕ) {floor : Float} {v : ℕ}
    → s < length heads → s < length flows → s < length highest → s < length lowest → floor ≡ floor_in initial s
    → v ≡ cond (acceptable_at floor record { head = get_or heads s nan; flow = get_or flows s nan; highest = get_or highest s nan; lowest = get_or lowest s nan }) 0 1
    → v ≡ cond (acceptable_in initial heads flows highest lowest s) 0 1
unfolding acceptable_in
acceptable_read initial heads flows highest lowest s a b c d e h =
    rw (← e, ← read heads s a, ← read flows s b, ← read highest s c, ← read lowest s d) h

-- ---- a loop that looks for the first fault

skip : (b : Fault) → earlier none b ≡ b
unfolding earlier
skip b = refl

sound_none : (f : Fault) → is_sound f ≡ true → f ≡ none
unfolding is_sound
sound_none none h = refl
sound_none (fault c s) h = cc

-- no fault comes before one that is found
pub stays : (e : Code.Fault) (b : Fault) → earlier (found_fault (Err e)) b ≡ found_fault (Err e)
unfolding earlier found_fault
stays (NotFinite s) b = refl
stays (Parted s) b = refl

-- the first s sections have shown no fault: what section s shows
module _ (v : ℕ → Fault) {s : ℕ} (clear : first_below earlier none v s ≡ none) where
  pub none_more : {x : ⊤} → found_fault (Ok x) ≡ v s → first_below earlier none v (s + 1) ≡ none
  unfolding found_fault
  none_more e = first_more earlier none v skip clear (sym e)

  pub stop : {f : Fault} → f ≡ v s → {n : ℕ} → s < n → ((b : Fault) → earlier f b ≡ f) → f ≡ first_below earlier none v n
  stop is {n} l last = is ∙ sym (first_stop earlier none v skip s n l (λ b. rw (← is) (last b)) clear)

  pub none_stop : (e : Code.Fault) → found_fault (Err e) ≡ v s → {n : ℕ} → s < n → found_fault (Err e) ≡ first_below earlier none v n
  none_stop e is l = stop is l (stays e)

clear_to : (v : ℕ → Fault) (n : ℕ) → ((s : ℕ) → s < n → v s ≡ none) → first_below earlier none v n ≡ none
unfolding first_below earlier
clear_to v zero k = refl
clear_to v (suc n) k = rw (clear_to v n (λ s l. k s (omega arith))) (k n (omega arith))

pub none_of_sound : (v : ℕ → Fault) (n : ℕ) → all_below (λ s. is_sound (v s)) n ≡ true → first_below earlier none v n ≡ none
none_of_sound v n h = clear_to v n (λ s l. sound_none (v s) (all_at (λ s. is_sound (v s)) s n h l))
