use Rattle.std.proofs.Common.{◌≡◌, length, take}
use Rattle.bx_journal_protocol.specs.before.Overwritten.{HaveRoom}
use Rattle.bx_journal_protocol.specs.protocol.Takens.{AllShaped}
use Rattle.bx_journal_protocol.proofs.before.overwritten.all_zeros.Given as goal

-- records for those up to a place
abbrev pub invariant-loop-one : goal.invariant-loop-one
invariant-loop-one g l = record {
  room : HaveRoom (take l.one-index l.overwritten) l.takens.items;
  shaped : AllShaped l.takens.items;
  count : length l.takens.items ≡ l.one-index;
}
