-- `listing::Line::put_values` meets its contract: four patterns and the newline, each stored behind the one before it. Assumes nothing.
use Rattle.listing_text.proofs.StoredTexts.{behind}
use Rattle.listing.proofs.Line.put_values.Goals as goal

pub returns-clause-stored : goal.returns-clause-stored
returns-clause-stored c =
    behind c.pattern.ensures.stored
    (behind c.pattern-2.ensures.stored (behind c.pattern-3.ensures.stored (behind c.pattern-4.ensures.stored c.newline.ensures.stored)))
