use Rattle.std.proofs.Common.{◌≡◌, ◌∙◌, arith, append-nil, length-set}
use Rattle.std.proofs.Math.Seq.{drop-length}
use Rattle.listing_text.specs.Text.{digits}
use Rattle.listing_text.proofs.Digits.{digit_in_front}
use Rattle.listing_text.proofs.fill_digits.Goals as goal

pub loop-i-init : goal.loop-i-init
loop-i-init c = rw (drop-length, append-nil)

pub loop-i-preserved : goal.loop-i-preserved
loop-i-preserved c =
    let l = c.loop-i in
    rw (c.digit_code.ensures, length-set) (digit_in_front l.left c.args.base l.i l.field (omega arith) (omega arith) ∙ l.invariant)

pub returns : goal.returns
unfolding digits
returns c =
    let done : c.loop-i.i ≡ 0 = omega arith in
    rw (done, c.loop-i.auto.field) at c.loop-i.invariant
