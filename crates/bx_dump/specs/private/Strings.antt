-- A run, and the runs of what follows other bytes.
use Rattle.std.specs.Prelude.{ℕ, Bool, List, length, take, drop}
use Rattle.std.specs.List.{flat_map, range_with_len, prefix_len}
use Rattle.bx_text.specs.Ascii.{is_printable}
use Rattle.bx_dump_columns.specs.declared.od.options.Address.{Address}
use Rattle.bx_dump.specs.Strings.{line_at}

-- the printable bytes from a place up to the next byte that doesn't print, or up to the end
abbrev pub run_at : List ℕ → ℕ → List ℕ
run_at x a = take (prefix_len is_printable (drop a x)) (drop a x)

-- the lines of the runs that begin in bytes which stand from place `first` on
abbrev pub runs_lines : ℕ → Address → Bool → ℕ → List ℕ → List ℕ
runs_lines least offsets before first x = flat_map (line_at least offsets before first x) (range_with_len 0 (length x))
