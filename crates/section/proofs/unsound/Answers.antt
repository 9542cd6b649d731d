-- The code's test is whether the section is sound, and its no is counted. Assumes nothing.
use mathlib.Core.Path.{◌≡◌, sym, ap, ◌∙◌}
use mathlib.Core.Bool.{Bool, not, ◌&&◌}
use lib.Ieee.{lt}
use Rattle.loops.proofs.Counting.{counted_unless}
use Rattle.section.specs.Faults.{sound_with}
use Rattle.section.proofs.Soundness.{sound_is}
use Rattle.section.proofs.unsound.Goals as goal

pub returns : goal.returns
returns c =
    let a = c.args in
    let is : sound_with a.floor record { head = a.head; flow = a.flow } ≡ c.both_finite.result && not (lt a.head a.floor) =
    sound_is a.floor a.head a.flow 0 ∙ ap (λ (t : Bool). t && not (lt a.head a.floor)) (sym c.both_finite.ensures) in
    rw is (counted_unless _ c.from.ensures)
