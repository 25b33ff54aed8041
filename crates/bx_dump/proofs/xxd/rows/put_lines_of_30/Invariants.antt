use Rattle.std.proofs.Common.{◌≡◌, ◌*◌, take}
use Rattle.bx_dump_columns.specs.Lines.{in_lines}
use Rattle.bx_dump.specs.private.Rows.{plain_line}
use Rattle.bx_dump.proofs.xxd.rows.put_lines_of_30.Given as goal

-- the lines so far
abbrev pub invariant-loop-k : goal.invariant-loop-k
invariant-loop-k l = take (61 * l.k) l.text ≡ in_lines (plain_line l.upper) 30 l.at (take (30 * l.k) l.bytes)
