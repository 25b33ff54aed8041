use Rattle.std.proofs.Common.{◌≡◌, ◌*◌, take}
use Rattle.bx_dump_columns.specs.Lines.{in_lines}
use Rattle.bx_dump.specs.declared.xxd.columns.Digits.TheVariants.{Binary}
use Rattle.bx_dump.specs.private.Xxd.{columns_line}
use Rattle.bx_dump.proofs.xxd.columns.put_lines_of_6.Given as goal

-- the lines so far
abbrev pub invariant-loop-k : goal.invariant-loop-k
invariant-loop-k l = take (72 * l.k) l.text ≡ in_lines (columns_line Binary 6 1) 6 l.at (take (6 * l.k) l.bytes)
