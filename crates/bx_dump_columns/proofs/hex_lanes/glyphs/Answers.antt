use Rattle.std.proofs.Common.{true, false, refl}
use Rattle.std.specs.Prelude.{codes}
use Rattle.bx_dump_columns.proofs.HexLemmas.{glyphs_are}
use Rattle.bx_dump_columns.proofs.hex_lanes.glyphs.Goals as goal

pub returns-then-upper : goal.returns-then-upper
returns-then-upper c = rw c.if-upper.true (glyphs_are (codes "0123456789ABCDEF") true refl)

pub returns-else-upper : goal.returns-else-upper
returns-else-upper c = rw c.if-upper.false (glyphs_are (codes "0123456789abcdef") false refl)
