-- The lines that are still to come.
use Rattle.std.specs.Prelude.{◌+◌, List, Result}
use Rattle.std.specs.Result.{result_map_both}
use Rattle.bx_read.specs.Text.{ReadLine, lines_of, answers}
use Rattle.bx_read.specs.declared.fault.ReadFault.{ReadFault}
use Rattle.bx_read.specs.declared.line.Line.{Line}
use Rattle.bx_read.specs.declared.lines.DumpLines.{DumpLines}

-- a line by its address, the text of its pairs, and its number
abbrev pub line_view : Result Line ReadFault → Result ReadLine ReadFault
line_view read = result_map_both (λ line. (line.at, line.hex.now, line.number)) (λ fault. fault) read

-- what the lines that weren't taken give
abbrev pub coming : DumpLines → List (Result ReadLine ReadFault)
coming lines = answers (lines.passed + 1) (lines_of lines.text.now)
