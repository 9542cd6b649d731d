use Prim.Native.Nat.{ℕ, ◌/◌, ◌<◌}
use mathlib.Core.List.{List}
use mathlib.Core.Path.{◌≡◌}
use mathlib.Core.Bool.{true}
use native.Mathlib.Omega.{arith}
use lib.ListN.{length}
use Rattle.fields.specs.Finite.{finite_at}
use Rattle.loops.proofs.All.{all_at}
use Rattle.loops.proofs.Counting.{counted_unless, counting_none, counting_more}
use Rattle.job.specs.Format.{section_in}
use Rattle.job.specs.Questions.{finite_section}
use Rattle.job.specs.QuestionParts.{sections_finite}
use Rattle.job.proofs.SectionLaws.{FiniteSection, finite_section_lem}
use Rattle.value_questions.proofs.below_floor.Goals as goal

-- the section of a turn
section_here : (initial : List ℕ) (s : ℕ) → sections_finite initial ≡ true → s < length initial / 24 → FiniteSection (section_in initial s)
section_here initial s h l = finite_section_lem _ (all_at (λ s. finite_section (section_in initial s)) s _ h l)

pub loop-s-init : goal.loop-s-init
loop-s-init c = counting_none _

pub f64_at-requires : goal.f64_at-requires
unfolding finite_at
f64_at-requires c = (omega arith, (section_here _ c.loop-s.s c.requires c.loop-s-test.true).head)

pub f64_at-requires-in-loop-s : goal.f64_at-requires-in-loop-s
unfolding finite_at
f64_at-requires-in-loop-s c = (omega arith, (section_here _ c.loop-s.s c.requires c.loop-s-test.true).floor)

pub loop-s-preserved : goal.loop-s-preserved
loop-s-preserved c =
    counting_more _ c.loop-s.invariant (rw (c.f64_at.ensures, c.f64_at-in-loop-s.ensures) at (counted_unless _ c.from-low.ensures).1)
