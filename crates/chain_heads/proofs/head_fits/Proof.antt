-- `chain_heads::head_fits` meets its contract: the floor is that of the section, and question 14 has let it pass. Assumes nothing.
use native.Mathlib.Omega.{arith}
use borrow.Author.Rules.{rules}
use Rattle.job.proofs.SectionLaws.{section_finite, section_is}
use Rattle.setting.specs.Setting.{head_fits}
use Rattle.chain_heads.proofs.head_fits.Statement.{statement}
use Rattle.chain_heads.proofs.head_fits.Tie as tie

floor-at-requires : tie.Need-floor_at-floor-requires
floor-at-requires c κs = let pre = c.before.requires in (omega (arith, pre.1), (section_finite _ pre.0 _ pre.1).floor)

returns : tie.Need-returns
unfolding head_fits
returns c =
    let floor : tie.After-floor_at-floor = c.before in
    rw (c.is_finite.ensures, floor.floor_at-floor.ensures, section_is _ _ floor.before.before.requires.1)

pub head_fits_spec : {M : Type 1} → statement M
head_fits_spec = tie.close (tie.spec floor-at-requires (λ c κs. search rules) returns)
