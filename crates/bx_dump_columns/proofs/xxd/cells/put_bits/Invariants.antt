use Rattle.std.proofs.Common.{◌≡◌, ◌*◌, take}
use Rattle.std.specs.List.{flat_map}
use Rattle.bx_dump_columns.specs.Cells.{bits_of}
use Rattle.bx_dump_columns.proofs.xxd.cells.put_bits.Given as goal

-- the digits of the bytes so far
abbrev pub invariant-loop-i : goal.invariant-loop-i
invariant-loop-i l = take (8 * l.i) l.cells ≡ flat_map bits_of (take l.i l.bytes)
