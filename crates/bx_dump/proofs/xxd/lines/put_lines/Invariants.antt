use Rattle.std.proofs.Common.{◌≡◌, ◌*◌, ◌≤◌, take}
use Rattle.bx_dump_columns.specs.Lines.{in_lines}
use Rattle.bx_dump.proofs.xxd.lines.put_lines.Given as goal

-- the lines so far
abbrev pub invariant-loop-k : goal.invariant-loop-k
invariant-loop-k g l = record {
  within : l.used ≤ g.F.LineForm.room l.form * l.k;
  text : take l.used l.text ≡ in_lines (g.F.LineForm.line l.form) (g.F.LineForm.cols l.form) l.at (take (g.F.LineForm.cols l.form * l.k) l.bytes);
}
