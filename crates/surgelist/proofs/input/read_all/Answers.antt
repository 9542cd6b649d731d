use Rattle.std.proofs.Common.{◌≡◌, ℕ, ◌+◌, ◌-◌, ◌≤◌, List, ◌++◌, rules, length, take, sym, ap, ◌∙◌, subst, length-take-le}
use Rattle.std.specs.Io.KnownBytes.{Consumes}
use Rattle.std.proofs.KnownBytes.{Consumes-trans}
use borrow.Rule.Slice.PartMut.{put_mid, post_of}
use lib.Seq.{take-append-add, take-append-le}
use Rattle.surgelist.proofs.input.read_all.Goals as goal

-- what a read put behind the front of a slice goes on with that front
front_goes_on :
    (from n : ℕ) (xs ys : List ℕ) → from ≤ length xs → n ≤ length ys
    → take from xs ++ take n ys ≡ take (from + n) (put_mid from (length xs - from) xs ys)
front_goes_on from n xs ys within fits =
    let front = take from xs in
    let rest = post_of from (length xs - from) xs in
    ap (λ t. front ++ t) (sym (take-append-le n ys rest fits))
    ∙ sym (take-append-add front (ys ++ rest) n)
    ∙ ap (λ k. take (k + n) (front ++ (ys ++ rest))) (length-take-le from xs within)

pub loop-at-preserved : goal.loop-at-preserved
loop-at-preserved g c =
    let l = c.loop-at in
    record {
      within = search rules;
      length_kept = search rules;
      consumed = subst (Consumes _ _) (front_goes_on l.at c.in_ok-more.more l.bytes c.read.new.buf l.invariant.within (search rules)) (Consumes-trans _ _ _ _ _ l.invariant.consumed c.in_ok-more.ensures.bytes.0);
    }
