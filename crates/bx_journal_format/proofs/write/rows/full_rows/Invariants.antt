use Rattle.std.proofs.Common.{◌≡◌, ◌*◌, map, take}
use Rattle.std.specs.List.{range_with_len}
use Rattle.bx_journal_format.specs.Entry.{rows_text, row}
use Rattle.bx_journal_format.proofs.write.rows.full_rows.Given as goal

-- the rows so far
abbrev pub invariant-loop-k : goal.invariant-loop-k
invariant-loop-k l = take (68 * l.k) l.lines ≡ rows_text (map (row (record { at = l.at; bytes = l.bytes })) (range_with_len l.first l.k))
