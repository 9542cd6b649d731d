-- `listing_text::Cursor::text` meets its contract: the part of the slice that the text is copied over is as long as the text. Assumes nothing.
use Rattle.std.proofs.Common.{rules, refl, arith}
use Rattle.listing_text.proofs.StoredTexts.{copied}
use Rattle.listing_text.proofs.Cursor.text.Goals as goal

pub returns : goal.returns
returns c =
    let a = c.args in
    record { same_slice = refl; bytes = copied a.self.now.out.now a.text.now _ a.self.now.at _ c.copy_from_slice.ensures.after (omega arith) c.requires; length_kept = search rules; after = refl }
