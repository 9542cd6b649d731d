-- The code's test is question 22, asked of head and flow and of the two envelopes, two by two, and its no is counted. Assumes nothing.
use mathlib.Core.Path.{◌≡◌, sym, ap, ap₂, ◌∙◌}
use mathlib.Core.Bool.{Bool, not, ◌&&◌, and_assoc}
use lib.Ieee.{lt}
use lib.Ieee.Scale.{finite}
use Rattle.loops.proofs.Counting.{counted_unless}
use Rattle.recurrence.specs.Scan.{finite_point, acceptable_at}
use Rattle.section.proofs.unacceptable.Goals as goal

pub returns : goal.returns
unfolding acceptable_at finite_point
returns c =
    let a = c.args in
    let kept = not (lt a.head a.floor) in
    let is : acceptable_at a.floor record { head = a.head; flow = a.flow; highest = a.highest; lowest = a.lowest }
    ≡ (c.both_finite.result && c.both_finite-2.result) && kept =
    ap (λ (t : Bool). t && kept) (and_assoc (finite a.head && finite a.flow) (finite a.highest) (finite a.lowest))
    ∙ ap₂ (λ (s t : Bool). (s && t) && kept) (sym c.both_finite.ensures) (sym c.both_finite-2.ensures) in
    rw is (counted_unless _ c.from.ensures)
