use Rattle.std.proofs.Common.{◌≡◌, ◌*◌, take, map}
use Rattle.bx_text.specs.Dump.{shown_byte}
use Rattle.bx_dump_columns.proofs.hex_lanes.put_shown_sixteens.Given as goal

-- the text of the bytes so far
abbrev pub invariant-loop-k : goal.invariant-loop-k
invariant-loop-k l = take (16 * l.k) l.field ≡ map shown_byte (take (16 * l.k) l.bytes)
