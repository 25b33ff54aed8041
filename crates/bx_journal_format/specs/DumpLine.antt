-- Lines of a dump as runs, without their newlines.
use Rattle.std.specs.Prelude.{ℕ, List, Option}
use Rattle.std.specs.Option.{option_map}
use Rattle.bx_read.specs.Line.{line_piece}
use Rattle.bx_read.specs.Laws.{dump_line_text}
use Rattle.bx_journal_format.specs.Kept.{Run}

-- xxd's default line for at most 16 bytes
unfoldable pub saved_run_line : ℕ → List ℕ → List ℕ
saved_run_line at bytes = dump_line_text at bytes

-- what a line gives, if it is a line of a dump
unfoldable pub run_of_line : List ℕ → Option Run
run_of_line line = option_map (λ read. record { at = read.0; bytes = read.1 }) (line_piece line)
