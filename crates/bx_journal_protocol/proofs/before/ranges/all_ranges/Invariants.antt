use Rattle.std.proofs.Common.{◌≡◌, ◌+◌, ◌-◌, ◌≤◌, length, take, drop}
use Rattle.std.specs.Prelude.{reverse}
use Rattle.bx_journal_protocol.specs.protocol.Takens.{length_at}
use Rattle.bx_journal_protocol.specs.write.Touched.{AreTouched, AreToldRanges}
use Rattle.bx_journal_protocol.proofs.before.ranges.all_ranges.Given as goal

-- ranges for the entries up to a place
abbrev pub invariant-loop-place : goal.invariant-loop-place
invariant-loop-place g l = record {
  touched : AreTouched (length_at (drop l.place l.entries) l.len) (reverse (take l.place l.entries)) (reverse l.takens.items);
  told : AreToldRanges l.takens.items;
  count : length l.takens.items + (length l.entries - l.k) ≡ l.place;
  few : l.k ≤ length l.entries;
  inside : l.place ≤ length l.entries;
}
