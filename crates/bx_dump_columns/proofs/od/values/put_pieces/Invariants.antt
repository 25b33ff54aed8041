use Rattle.std.proofs.Common.{◌≡◌, ◌*◌, take}
use Rattle.bx_dump_columns.specs.Lines.{in_lines}
use Rattle.bx_dump_columns.specs.Values.{width_of, line_width, value_text_in}
use Rattle.bx_dump_columns.proofs.od.values.put_pieces.Given as goal

-- the values so far
abbrev pub invariant-loop-k : goal.invariant-loop-k
invariant-loop-k l = record {
  used : l.used ≡ line_width l.kind * l.k;
  text : take l.used l.text ≡ in_lines (value_text_in l.endian l.kind) (width_of l.kind) 0 (take (16 * l.k) l.bytes);
}
