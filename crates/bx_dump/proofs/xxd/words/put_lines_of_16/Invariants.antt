use Rattle.std.proofs.Common.{◌≡◌, ◌*◌, take, false}
use Rattle.bx_dump_columns.specs.Lines.{in_lines}
use Rattle.bx_dump.specs.Xxd.{words_line}
use Rattle.bx_dump.proofs.xxd.words.put_lines_of_16.Given as goal

-- the lines so far
abbrev pub invariant-loop-k : goal.invariant-loop-k
invariant-loop-k l = take (l.size * l.k) l.text ≡ in_lines (words_line false l.upper 16 l.group) 16 l.at (take (16 * l.k) l.bytes)
