use Rattle.std.proofs.Common.{◌≡◌, ◌≤◌, ◌+◌, drop}
use Rattle.bx_read.specs.private.Window.{newlines}
use Rattle.bx_patch.proofs.diff.writing.newlines.Given as goal

-- those so far and those of the rest are all
abbrev pub invariant-loop-byte : goal.invariant-loop-byte
invariant-loop-byte l = record {
  few : l.count ≤ l.byte-index;
  same : l.count + newlines (drop l.byte-index l.text) ≡ newlines l.text;
}
