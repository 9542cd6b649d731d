-- `listing_text::places_of` meets its contract: a number from 10 ^ p on and below 10 ^ (p + 1) has p + 1 digits, and 0 as many as 1. Assumes nothing.
use Rattle.std.proofs.Common.{◌≡◌, ◌<◌, ◌^◌, suc, sym, ◌∙◌, arith, add-one, pow-suc}
use Rattle.listing_text.specs.Text.{places}
use Rattle.listing_text.proofs.Digits.{places_exactly, places_of_max}
use Rattle.listing_text.proofs.places_of.Goals as goal

pub returns : goal.returns
returns c =
    let log = c.ilog10.ensures in
    let high : c.max.result < 10 ^ suc c.ilog10.result = rw pow-suc (omega (arith, log.next_power_gt)) in
    let exactly : places c.max.result ≡ suc c.ilog10.result = places_exactly c.ilog10.result c.max.result log.power_le high in
    rw add-one (sym (rw c.max.ensures at exactly) ∙ places_of_max c.args.n)
