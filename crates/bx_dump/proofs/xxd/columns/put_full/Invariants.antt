use Rattle.std.proofs.Common.{◌≡◌, ◌*◌, take}
use Rattle.bx_dump_columns.specs.Lines.{in_lines}
use Rattle.bx_dump.specs.private.Xxd.{columns_line}
use Rattle.bx_dump.proofs.xxd.columns.put_full.Given as goal

-- the lines so far
abbrev pub invariant-loop-k : goal.invariant-loop-k
invariant-loop-k l = take (l.size * l.k) l.text ≡ in_lines (columns_line l.form.digits l.form.cols l.form.group) l.form.cols l.at (take (l.form.cols * l.k) l.bytes)
