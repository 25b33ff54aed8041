use Rattle.std.proofs.Common.{◌≡◌, ◌-◌, ◌^◌, min, take}
use Rattle.bx_journal_protocol.specs.write.Touched.{entries_over}
use Rattle.bx_journal_protocol.proofs.before.ranges.entries_len.Given as goal

-- how long the entries of the first ranges are
abbrev pub invariant-loop-ranges : goal.invariant-loop-ranges
invariant-loop-ranges g l = l.total ≡ min (entries_over (take l.ranges-index l.takens)) (2 ^ 64 - 1)
