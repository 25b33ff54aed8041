use Rattle.std.proofs.Common.{◌≡◌, length}
use Rattle.bx_read.specs.Text.{dump_pieces, gathered, contents}
use Rattle.bx_read.specs.Lines.{coming}
use Rattle.bx_read.proofs.DumpLemmas.{after}
use Rattle.bx_read.proofs.dump.gather.Given as goal

abbrev pub decreases-loop-pieces : goal.decreases-loop-pieces
decreases-loop-pieces g l = length (coming l.lines)

-- the pieces so far, and those of the lines to come, are all
abbrev pub invariant-loop-pieces : goal.invariant-loop-pieces
invariant-loop-pieces g l = dump_pieces l.text ≡ after (contents l.pieces.items) (gathered (coming l.lines))
