use Rattle.std.proofs.Common.{take}
use Rattle.bx_journal_read.specs.scan.Judging.{AllTold}
use Rattle.bx_journal.proofs.recovery.redo.first_untold.Given as goal

abbrev pub invariant-loop-entry : goal.invariant-loop-entry
invariant-loop-entry g l = AllTold (take l.entry-index l.entries)
