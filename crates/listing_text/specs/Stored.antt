-- What the calls of a cursor leave: a text stored behind the texts before it. Definitions only.
use Rattle.std.specs.Prelude.{◌≡◌, List, ℕ, ◌+◌, length}
use Rattle.std.proofs.lemmas.List.Edits.{sets}
use Rattle.listing_text.specs.declared.Cursor.{Cursor}

-- A call stored a text in the cursor's slice, from the cursor's place on, and moved the cursor to the place after it; the slice is as long as before.
pub record Stored (old : Cursor) (text : List ℕ) (new : Cursor) : Type 0 where
  pub same_slice : new.out.ghost_name ≡ old.out.ghost_name
  pub bytes : new.out.now ≡ sets old.out.now old.at text
  pub length_kept : length new.out.now ≡ length old.out.now
  pub after : new.at ≡ old.at + length text
