use Rattle.std.proofs.Common.{◌≡◌, ◌*◌, ◌+◌, take}
use Rattle.std.specs.List.{flat_map, range_with_len}
use Rattle.bx_dump_columns.specs.Cells.{piece_at}
use Rattle.bx_dump_columns.proofs.xxd.cells.put_fixed_pieces.Given as goal

-- the pieces so far
abbrev pub invariant-loop-k : goal.invariant-loop-k
invariant-loop-k g l = take ((g.row.N + 1) * l.k) l.field ≡ flat_map (piece_at g.row.N l.cells) (range_with_len 0 l.k)
