use Rattle.std.proofs.Common.{◌≡◌, ◌↔◌, ◌≤◌, ◌-◌, take}
use Rattle.std.specs.Prelude.{vec_len}
use Rattle.bx_image.specs.Power.{NoMore}
use Rattle.bx_journal_store.proofs.file.read_whole.Given as goal

-- a front was read
abbrev pub invariant-loop-bytes : goal.invariant-loop-bytes
invariant-loop-bytes g l = record {
  within : vec_len l.bytes ≤ l.len;
  bytes : g.F.RandomAccess.faithful l.fn.file → l.bytes.items ≡ take (vec_len l.bytes) (g.F.RandomAccess.content l.fn.file);
  content : g.F.RandomAccess.faithful l.fn.file → g.F.RandomAccess.content l.file ≡ g.F.RandomAccess.content l.fn.file;
  survives : g.F.RandomAccess.faithful l.fn.file → NoMore (g.F.RandomAccess.survives l.fn.file) (g.F.RandomAccess.survives l.file);
  faith : g.F.RandomAccess.faithful l.file ↔ g.F.RandomAccess.faithful l.fn.file;
}

abbrev pub decreases-loop-bytes : goal.decreases-loop-bytes
decreases-loop-bytes g l = l.len - vec_len l.bytes
