use Rattle.std.proofs.Common.{◌≡◌, ◌+◌, ◌≤◌, [], length, take, drop, string_bytes}
use Rattle.bx_journal_format.specs.Text.{split}
use Rattle.bx_journal_format.specs.Ranges.{RangesOn}
use Rattle.bx_journal_format.proofs.read.ranges.range_lines.Given as goal

-- the ranges that the lines end which were taken are put
abbrev pub invariant-loop-i : goal.invariant-loop-i
invariant-loop-i g l = record {
  leads : RangesOn l.len (split (take l.taken l.window)).lines l.fn.from (string_bytes l.fn.text) (string_bytes l.text) l.ranging;
  whole : (split (take l.taken l.window)).rest ≡ [];
  left : l.rest ≡ drop l.taken l.window;
  within : l.taken ≤ length l.window;
  below : l.ranging.at + l.ranging.count ≤ l.len;
}

abbrev pub decreases-loop-i : goal.decreases-loop-i
decreases-loop-i g l = length l.rest
