-- `closing_line::put_word_numbers` meets its contract: the word, the two numbers with their spaces, and the newline, each stored behind the one before it.
-- Assumes nothing.
use Rattle.listing_text.proofs.StoredTexts.{behind}
use Rattle.closing_line.proofs.put_word_numbers.Goals as goal

pub returns-clause-stored : goal.returns-clause-stored
returns-clause-stored c =
    behind c.text.ensures (behind c.number.ensures.stored (behind c.number-2.ensures.stored c.newline.ensures.stored))
