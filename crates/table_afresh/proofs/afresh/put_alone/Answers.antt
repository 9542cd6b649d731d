-- The newline goes behind the digits. Assumes nothing.
use Rattle.listing_text.proofs.StoredTexts.{behind}
use Rattle.table_afresh.proofs.afresh.put_alone.Goals as goal

pub returns-clause-stored : goal.returns-clause-stored
returns-clause-stored c = behind c.decimal.ensures.stored c.newline.ensures.stored
