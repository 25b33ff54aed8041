use Rattle.std.proofs.Common.{length}
use Rattle.bx_read.specs.private.Rows.{GoesOnWith}
use Rattle.bx_read.proofs.full.rows.extend_run.Given as goal

abbrev pub decreases-loop-more : goal.decreases-loop-more
decreases-loop-more g l = length l.rest

-- the lines so far go on with the run
abbrev pub invariant-loop-more : goal.invariant-loop-more
invariant-loop-more g l = GoesOnWith l.text l.rest l.count l.at l.fn.bytes.items l.bytes.items
