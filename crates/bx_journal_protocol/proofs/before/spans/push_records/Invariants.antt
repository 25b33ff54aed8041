use Rattle.std.proofs.Common.{◌≡◌, ℕ, ◌||◌, ◌&&◌, take}
use Rattle.bx_image.specs.Over.{LieWithin}
use Rattle.bx_image.specs.private.Change.{is_covered}
use Rattle.bx_image.specs.private.Spans.{are_over, is_between}
use Rattle.bx_journal_protocol.specs.before.Overwritten.{are_written}
use Rattle.bx_journal_protocol.proofs.before.spans.push_records.Given as goal

-- with the parts so far
abbrev pub invariant-loop-entry : goal.invariant-loop-entry
invariant-loop-entry g l = record {
  over : (i : ℕ) → are_over l.spans.items i ≡ (are_over l.fn.spans.items i || (is_between l.base l.end i && are_written (take l.entry-index l.entries) i));
  within : LieWithin l.end l.fn.spans.items → LieWithin l.end l.spans.items;
}
