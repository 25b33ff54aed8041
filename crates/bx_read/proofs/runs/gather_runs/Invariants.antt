use Rattle.std.proofs.Common.{◌≡◌, ◌+◌}
use Rattle.bx_read.specs.Text.{lines_of, answers, gathered, contents}
use Rattle.bx_read.specs.Lines.{coming}
use Rattle.bx_read.specs.private.NextLine.{taken_then, lines_left, joined_of}
use Rattle.bx_read.proofs.DumpLemmas.{after}
use Rattle.bx_read.proofs.runs.gather_runs.Given as goal

abbrev pub decreases-loop-next : goal.decreases-loop-next
decreases-loop-next g l = lines_left l.next (coming l.lines)

-- the runs so far, and those of the lines to come, are all
abbrev pub invariant-loop-next : goal.invariant-loop-next
invariant-loop-next g l = joined_of (gathered (answers (l.passed + 1) (lines_of l.text))) ≡ after (contents l.runs.items) (joined_of (taken_then l.next (coming l.lines)))
