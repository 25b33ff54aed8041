use Rattle.std.proofs.Common.{◌≡◌, ◌*◌, take}
use Rattle.bx_dump_columns.specs.Lines.{in_lines}
use Rattle.bx_dump.specs.private.Rows.{include_line}
use Rattle.bx_dump.proofs.xxd.rows.put_lines_of_12.Given as goal

-- the lines so far
abbrev pub invariant-loop-k : goal.invariant-loop-k
invariant-loop-k l = take (74 * l.k) l.text ≡ in_lines include_line 12 l.at (take (12 * l.k) l.bytes)
