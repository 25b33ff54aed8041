use Rattle.std.proofs.Common.{◌≡◌, ◌*◌, ◌+◌, take}
use Rattle.std.specs.List.{flat_map, range_with_len}
use Rattle.bx_dump_columns.specs.Cells.{piece_at}
use Rattle.bx_dump_columns.proofs.xxd.cells.put_pieces.Given as goal

-- the pieces so far
abbrev pub invariant-loop-k : goal.invariant-loop-k
invariant-loop-k l = take ((l.piece + 1) * l.k) l.field ≡ flat_map (piece_at l.piece l.cells) (range_with_len 0 l.k)
