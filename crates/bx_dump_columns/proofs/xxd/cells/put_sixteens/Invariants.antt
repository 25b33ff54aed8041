use Rattle.std.proofs.Common.{◌≡◌, ◌*◌, take}
use Rattle.std.specs.List.{flat_map}
use Rattle.bx_text.specs.Dump.{pair_of}
use Rattle.bx_dump_columns.proofs.xxd.cells.put_sixteens.Given as goal

-- the digits of the bytes so far
abbrev pub invariant-loop-k : goal.invariant-loop-k
invariant-loop-k l = take (32 * l.k) l.cells ≡ flat_map (pair_of l.upper) (take (16 * l.k) l.bytes)
