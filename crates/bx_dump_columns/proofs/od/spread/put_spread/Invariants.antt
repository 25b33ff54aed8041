use Rattle.std.proofs.Common.{◌≡◌, ◌+◌, ◌*◌, take}
use Rattle.bx_dump_columns.specs.Lines.{in_lines}
use Rattle.bx_dump_columns.specs.Values.{blanks_from, field_width, spread_text, width_of}
use Rattle.bx_dump_columns.proofs.od.spread.put_spread.Given as goal

-- the values so far, and the blanks that are left
abbrev pub invariant-loop-k : goal.invariant-loop-k
invariant-loop-k l = record {
  left : l.left ≡ blanks_from l.pad l.cols (width_of l.kind * l.k);
  used : l.used + l.left ≡ blanks_from l.pad l.cols 0 + (field_width l.kind + 1) * l.k;
  text : take l.used l.text ≡ in_lines (spread_text l.endian l.kind l.pad l.cols) (width_of l.kind) 0 (take (width_of l.kind * l.k) l.bytes);
}
