use Rattle.std.proofs.Common.{◌≡◌, arith, rules}
use Rattle.listing_text.proofs.StoredTexts.{behind, at_front, no_lines, next_line}
use Rattle.listing.proofs.write_listing.Goals as goal

pub loop-section-init : goal.loop-section-init
loop-section-init c = record { short = omega (arith, c.new-text.ensures.front); lines = no_lines _ }

pub loop-section-preserved : goal.loop-section-preserved
loop-section-preserved c =
    let l = c.loop-section in
    record { short = omega (arith, l.invariant.short, c.put.ensures.upper_bound); lines = next_line _ l.section l.invariant.lines c.put.ensures.stored }

pub returns : goal.returns
returns c =
    let l = c.loop-section in
    let held = c.new-text.ensures in
    let all : l.section ≡ c.args.count = omega (arith, l.auto.section-end) in
    let kept = behind (rw all at l.invariant.lines) c.put-2.ensures.stored in
    at_front kept held.front held.held c.count.ensures (search (rules, kept.same_slice, held.same_slice))
