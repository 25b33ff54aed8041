use Rattle.bx_text.proofs.LaneLemmas.{looks_inside, glyphs_are}
use Rattle.bx_text.proofs.line.lanes.glyphs_of.Goals as goal

pub swizzle : goal.swizzle
swizzle c = looks_inside c.args.values c.fits-values.0 c.requires

pub returns : goal.returns
returns c = glyphs_are c.args.values c.fits-values.0 c.requires
