-- `listing_text::Cursor::digits` meets its contract: the digits fill a part of the slice that is as long as they are many. Assumes nothing.
use Rattle.std.proofs.Common.{rules, refl, ◌≡◌, ◌+◌, ◌-◌, arith, length, take, drop, length-take, length-drop}
use Rattle.listing_text.specs.Text.{digits}
use Rattle.listing_text.proofs.Digits.{length_digits}
use Rattle.listing_text.proofs.StoredTexts.{copied}
use Rattle.listing_text.proofs.Cursor.digits.Goals as goal

pub returns : goal.returns
returns c =
    let a = c.args in
    let many : length (take (a.self.now.at + a.count - a.self.now.at) (drop a.self.now.at a.self.now.out.now)) ≡ a.count = simp (length-take, length-drop) (omega arith) in
    let text = digits a.n a.base a.count in
    let long = length_digits a.n a.base a.count in
    record { same_slice = refl; bytes = copied a.self.now.out.now text _ a.self.now.at _ (rw many at c.fill_digits.ensures) (omega (arith, long)) (omega (arith, long)); length_kept = search rules; after = omega (arith, long) }
