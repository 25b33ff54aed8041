use Rattle.std.specs.Fmt.{digit_glyph}
use Rattle.bx_dump_columns.proofs.HexLemmas.{high_is, high_small, looks_inside, looked_up}
use Rattle.bx_dump_columns.proofs.hex_lanes.high_digits.Goals as goal

pub swizzle : goal.swizzle
swizzle c = looks_inside _ c.args.bytes _ c.fits-bytes.0 c.fits-bytes.1 (high_is c.args.bytes c.fits-bytes.0) high_small

pub returns : goal.returns
returns c = looked_up _ c.args.bytes _ c.fits-bytes.0 c.fits-bytes.1 (high_is c.args.bytes c.fits-bytes.0) high_small _ (digit_glyph c.args.upper) c.glyphs.ensures
