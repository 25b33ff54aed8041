use Rattle.std.proofs.Common.{◌≡◌, ◌*◌, List, length, drop}
use Rattle.bx_journal_format.specs.Kept.{Run}
use Rattle.bx_journal_format.specs.read.Followed.{GoesOnBy, with_last}
use Rattle.bx_journal_format.proofs.read.runs.full_lines.extend_run.Given as goal

-- `count` lines were added, and this is left of the text
abbrev pub invariant-loop-more : goal.invariant-loop-more
invariant-loop-more g l = record {
  left : l.rest ≡ drop (68 * l.count) l.text;
  so : (front : List Run) → GoesOnBy l.len l.text (with_last front l.at l.fn.bytes.items) (with_last front l.at l.bytes.items) l.count;
}

abbrev pub decreases-loop-more : goal.decreases-loop-more
decreases-loop-more g l = length l.rest
