use Rattle.std.proofs.Common.{◌≡◌, ◌*◌, take}
use Rattle.std.specs.Prelude.{reverse}
use Rattle.std.specs.List.{flat_map}
use Rattle.bx_text.specs.Dump.{pair_of}
use Rattle.bx_dump_columns.proofs.xxd.words.put_turned.Given as goal

-- the digits of the last bytes so far
abbrev pub invariant-loop-i : goal.invariant-loop-i
invariant-loop-i l = take (2 * l.i) l.cells ≡ flat_map (pair_of l.upper) (take l.i (reverse l.bytes))
