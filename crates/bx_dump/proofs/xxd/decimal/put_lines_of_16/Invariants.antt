use Rattle.std.proofs.Common.{◌≡◌, ◌*◌, ◌≤◌, take}
use Rattle.bx_dump_columns.specs.Lines.{in_lines}
use Rattle.bx_dump.specs.declared.xxd.columns.Digits.TheVariants.{Hexadecimal}
use Rattle.bx_dump.specs.private.Xxd.{decimal_line}
use Rattle.bx_dump.proofs.xxd.decimal.put_lines_of_16.Given as goal

-- the lines so far
abbrev pub invariant-loop-k : goal.invariant-loop-k
invariant-loop-k l = record {
  within : l.used ≤ 82 * l.k;
  text : take l.used l.text ≡ in_lines (decimal_line (Hexadecimal l.upper) 16 2) 16 l.at (take (16 * l.k) l.bytes);
}
