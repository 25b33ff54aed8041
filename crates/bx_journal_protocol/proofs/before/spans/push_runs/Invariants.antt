use Rattle.std.proofs.Common.{◌≡◌, ℕ, ◌||◌, ◌&&◌, take}
use Rattle.bx_image.specs.Over.{LieWithin}
use Rattle.bx_image.specs.private.Change.{is_covered}
use Rattle.bx_image.specs.private.Spans.{are_over, is_between}
use Rattle.bx_journal_protocol.specs.before.Overwritten.{are_written}
use Rattle.bx_journal_protocol.proofs.before.spans.push_runs.Given as goal

-- with the parts so far
abbrev pub invariant-loop-run : goal.invariant-loop-run
invariant-loop-run g l = record {
  over : (i : ℕ) → are_over l.spans.items i ≡ (are_over l.fn.spans.items i || (is_between l.base l.end i && is_covered (take l.run-index l.runs) i));
  within : LieWithin l.end l.fn.spans.items → LieWithin l.end l.spans.items;
}
