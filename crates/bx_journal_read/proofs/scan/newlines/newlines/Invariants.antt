use Rattle.std.proofs.Common.{◌≡◌, ◌≤◌, length, take}
use Rattle.bx_journal_format.specs.Text.{split}
use Rattle.bx_journal_read.proofs.scan.newlines.newlines.Given as goal

abbrev pub invariant-loop-byte : goal.invariant-loop-byte
invariant-loop-byte l = record {
  counted : l.count ≡ length (split (take l.byte-index l.text)).lines;
  most : l.count ≤ l.byte-index;
}
