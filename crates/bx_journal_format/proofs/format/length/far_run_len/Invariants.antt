use Rattle.std.proofs.Common.{◌≡◌, ◌-◌, ◌^◌, min, length, map}
use Rattle.std.specs.List.{range_with_len}
use Rattle.bx_journal_format.specs.Kept.{run_of}
use Rattle.bx_journal_format.specs.Entry.{rows_text, row}
use Rattle.bx_journal_format.proofs.format.length.far_run_len.Given as goal

-- how long the first k rows are
abbrev pub invariant-loop-k : goal.invariant-loop-k
invariant-loop-k g l = l.total ≡ min (length (rows_text (map (row (run_of l.run)) (range_with_len 0 l.k)))) (2 ^ 64 - 1)
