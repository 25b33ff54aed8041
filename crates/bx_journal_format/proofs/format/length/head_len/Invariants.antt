use Rattle.std.proofs.Common.{◌≡◌, ◌+◌, ◌-◌, ◌^◌, min, length, map, take}
use Rattle.std.specs.Prelude.{flat_map}
use Rattle.bx_journal_format.specs.Kept.{run_of}
use Rattle.bx_journal_format.specs.Entry.{rows, rows_text}
use Rattle.bx_journal_format.proofs.format.length.head_len.Given as goal

-- how long the outer lines and those of the first runs are
abbrev pub invariant-loop-run : goal.invariant-loop-run
invariant-loop-run g l = l.total ≡ min (48 + length (rows_text (flat_map rows (map run_of (take l.run-index l.kept.runs))))) (2 ^ 64 - 1)
