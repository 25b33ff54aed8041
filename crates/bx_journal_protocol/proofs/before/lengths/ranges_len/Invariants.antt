use Rattle.std.proofs.Common.{◌≡◌, ◌-◌, ◌^◌, min, take}
use Rattle.bx_journal_protocol.specs.write.Ranges.{left_len}
use Rattle.bx_journal_protocol.proofs.before.lengths.ranges_len.Given as goal

-- how long the lines of the first ranges are
abbrev pub invariant-loop-range : goal.invariant-loop-range
invariant-loop-range l = l.total ≡ min (left_len (take l.range-index l.ranges) 0) (2 ^ 64 - 1)
