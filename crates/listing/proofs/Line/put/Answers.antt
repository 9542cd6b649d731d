-- `listing::Line::put` meets its contract: the number of a section below 512 has at most 3 digits, and the values go behind it. Assumes nothing.
use Rattle.listing_text.proofs.StoredTexts.{behind}
use Rattle.listing.proofs.Line.put.Goals as goal

pub returns-clause-stored : goal.returns-clause-stored
returns-clause-stored c = behind c.decimal.ensures.stored c.put_values.ensures.stored
