use Rattle.std.proofs.Common.{◌/◌, ◌%◌, false, arith, ap, ◌∙◌, map}
use Rattle.std.specs.Fmt.{digit_glyph}
use Rattle.bx_text.proofs.LaneLemmas.{high_are, low_are, half_small, pairs_are}
use Rattle.bx_text.proofs.line.lanes.pairs_of.Goals as goal

pub glyphs_of-high-requires : goal.glyphs_of-high-requires
glyphs_of-high-requires c = half_small (λ x. x / 16) c.args.bytes _ c.fits-bytes.0 c.fits-bytes.1 (high_are c.args.bytes c.fits-bytes.0) (λ x small. omega (arith, small))

pub glyphs_of-low-requires : goal.glyphs_of-low-requires
glyphs_of-low-requires c = half_small (λ x. x % 16) c.args.bytes _ c.fits-bytes.0 c.fits-bytes.1 (low_are c.args.bytes c.fits-bytes.0) (λ x small. omega (arith, small))

pub returns : goal.returns
returns c =
    pairs_are c.args.bytes _ _ c.fits-bytes.0 (c.glyphs_of-high.ensures ∙ ap (map (digit_glyph false)) (high_are c.args.bytes c.fits-bytes.0))
    (c.glyphs_of-low.ensures ∙ ap (map (digit_glyph false)) (low_are c.args.bytes c.fits-bytes.0))
