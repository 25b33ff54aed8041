use Rattle.std.proofs.Common.{◌≡◌, ◌+◌, ◌-◌, ◌*◌, ◌≤◌, ◌++◌, length, map}
use Rattle.std.specs.Prelude.{vec_capacity}
use Rattle.std.specs.List.{range_with_len}
use Rattle.bx_journal_format.specs.Entry.{rows_text, row}
use Rattle.bx_journal_protocol.proofs.write.ranges.push_run.Given as goal

-- the first k rows were put
abbrev pub invariant-loop-k : goal.invariant-loop-k
invariant-loop-k g l = record {
  most : l.k ≤ l.count;
  rows : l.page.items ≡ l.fn.page.items ++ rows_text (map (row (record { at = l.at; bytes = l.bytes })) (range_with_len 0 l.k));
  long : length l.page.items ≤ length l.fn.page.items + 82 * l.k;
  room : vec_capacity l.fn.page ≤ vec_capacity l.page;
}

abbrev pub decreases-loop-k : goal.decreases-loop-k
decreases-loop-k g l = l.count - l.k
