use Rattle.std.proofs.Common.{◌≡◌, ◌-◌, ◌^◌, min, take}
use Rattle.bx_journal_protocol.specs.protocol.Takens.{entries_len}
use Rattle.bx_journal_protocol.proofs.before.records.entries_len.Given as goal

-- how long the entries of the first records are
abbrev pub invariant-loop-taken : goal.invariant-loop-taken
invariant-loop-taken g l = l.total ≡ min (entries_len (take l.taken-index l.takens)) (2 ^ 64 - 1)
