-- `listing::Line::write` meets its contract: the two tests are question 24's, and a line that passes both has at most 72 bytes, so that it lies
-- within the slice. Assumes nothing.
use Rattle.std.proofs.Common.{rules, arith, length}
use borrow.Author.Tests.{lt-ltb, le-ltb, le-leb, lt-leb}
use Rattle.listing_text.specs.Listing.{line_written}
use Rattle.listing_text.proofs.StoredTexts.{at_front, no_text}
use Rattle.listing.proofs.Line.write.Goals as goal

pub returns-then-self-ge512 : goal.returns-then-self-ge512
unfolding line_written
returns-then-self-ge512 c = rw (le-ltb c.args.self.section 512 (omega arith)) no_text

pub returns-then-out-lt-LINE : goal.returns-then-out-lt-LINE
unfolding line_written
returns-then-out-lt-LINE c = rw (lt-ltb c.args.self.section 512 (omega arith), lt-leb 72 (length c.args.out.now) (omega arith)) no_text

pub returns : goal.returns
unfolding line_written
returns c =
    let held = c.new-text.ensures in
    let kept = c.put.ensures.stored in
    rw (lt-ltb c.args.self.section 512 (omega arith), le-leb 72 (length c.args.out.now) (omega arith))
    (at_front kept held.front held.held c.count.ensures (search (rules, kept.same_slice, held.same_slice)))
