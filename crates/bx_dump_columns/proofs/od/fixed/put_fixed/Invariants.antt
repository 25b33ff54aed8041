use Rattle.std.proofs.Common.{◌≡◌, ◌-◌, false, length, drop}
use Rattle.std.specs.Fmt.{digits}
use Rattle.bx_text.specs.Field.{left_filled}
use Rattle.bx_dump_columns.proofs.OdFixed.{based_onto}
use Rattle.bx_dump_columns.proofs.od.fixed.put_fixed.Given as goal

-- the last digits stand at the end
abbrev pub invariant-loop-i : goal.invariant-loop-i
invariant-loop-i l = record {
  all : length l.field ≡ length l.fn.field;
  text : based_onto l.base (length l.fn.field - l.i) l.rest (drop (length l.fn.field - l.i) l.field) ≡ left_filled 48 (length l.fn.field) (digits l.base false l.v);
}
