use Rattle.std.proofs.Common.{◌≡◌, ◌+◌, ◌-◌, ◌^◌, min, length, map}
use Rattle.std.specs.List.{range_with_len}
use Rattle.bx_image.specs.Image.{zeros}
use Rattle.bx_journal_format.specs.Entry.{rows_text, row}
use Rattle.bx_journal_protocol.proofs.before.lengths.far_len.Given as goal

-- how long the first k rows are
abbrev pub invariant-loop-k : goal.invariant-loop-k
invariant-loop-k l = l.total ≡ min (length (rows_text (map (row (record { at = l.at; bytes = zeros ((l.at + l.len) - l.at) })) (range_with_len 0 l.k)))) (2 ^ 64 - 1)
