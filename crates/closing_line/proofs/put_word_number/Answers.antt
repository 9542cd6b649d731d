-- `closing_line::put_word_number` meets its contract: the word, the number with its space, and the newline, each stored behind the one before it.
-- Assumes nothing.
use Rattle.listing_text.proofs.StoredTexts.{behind}
use Rattle.closing_line.proofs.put_word_number.Goals as goal

pub returns-clause-stored : goal.returns-clause-stored
returns-clause-stored c = behind c.text.ensures (behind c.number.ensures.stored c.newline.ensures.stored)
